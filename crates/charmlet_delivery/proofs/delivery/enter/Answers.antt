use Rattle.std.proofs.Common.{◌≡◌, List, ℕ, sym, ap, subst, ◌∙◌}
use Rattle.std.specs.Prelude.{Some, is_some, option_map}
use Rattle.charmlet_model.specs.declared.message.Message.{Message}
use Rattle.charmlet_history.specs.Waiting.{shown_message}
use Rattle.charmlet_history.specs.Kept.{assigned_message, core_in}
use Rattle.charmlet_shelf.specs.Due.{Due}
use Rattle.charmlet_shelf.specs.Lending.{IsCarriedOut}
use Rattle.charmlet_shelf.specs.Shelf.{IsDueAt}
use Rattle.charmlet_delivery.proofs.Delivering.{under_way_there}
use Rattle.charmlet_delivery.proofs.delivery.enter.Goals as goal

pub returns-clause-ok : goal.returns-clause-ok
returns-clause-ok g c =
    let state = g.C.Chare.state in
    let old = c.args.shelf.now in
    let history = c.args.history.now in
    let pending_message = c.in-Some.pending_message.now in
    let m : Message = record { id = c.in-Some._id; to = pending_message.to; entry = pending_message.entry; words = pending_message.words } in
    let here : assigned_message (core_in history) old.number ≡ Some m =
    ap (assigned_message (core_in history)) (sym c.number.ensures) ∙ sym c.assigned.ensures ∙ ap (option_map shown_message) c.in-Some.is in
    let done : (due : Due) × IsDueAt old.records m due × IsCarriedOut state old.records due c.in-Ok.delivered.output c.in-Ok.delivered.destroyed c.deliver.new.self.records =
    subst (λ (words : List ℕ). (due : Due) × IsDueAt old.records (record m { words = words }) due × IsCarriedOut state old.records due c.in-Ok.delivered.output c.in-Ok.delivered.destroyed c.deliver.new.self.records)
    c.as_slice-words.ensures (c.in-Ok.ensures.ok c.in-Some._id) in
    let due = done.0 in
    let at : IsDueAt old.records m due = done.1 in
    (due, under_way_there history c.facts.ensures old.number m here old.records c.requires.shelf.objects due at, ap is_some at.2, done.2)
