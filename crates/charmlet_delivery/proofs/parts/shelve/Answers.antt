use Rattle.std.proofs.Common.{◌≡◌, true, List, ℕ, sym, ap, subst, ◌∙◌}
use Rattle.std.specs.Prelude.{Some, option_map}
use Rattle.charmlet_model.specs.declared.message.Message.{Message}
use Rattle.charmlet_model.specs.Core.{assigned_to, blank_of_id, present}
use Rattle.charmlet_model.specs.World.{record_of}
use Rattle.charmlet_history.specs.element.Element.{Element}
use Rattle.charmlet_history.specs.Waiting.{shown_message}
use Rattle.charmlet_history.specs.Kept.{assigned_message, core_in}
use Rattle.charmlet_shelf.specs.Due.{newcomer_due}
use Rattle.charmlet_shelf.specs.Shelf.{Assigns, is_idle}
use Rattle.charmlet_shelf.specs.declared.phase.Phase.TheVariants.{Assigned}
use Rattle.charmlet_stock.proofs.Results.{when_ok}
use Rattle.charmlet_delivery.proofs.Delivering.{delivering_new, delivering_there}
use Rattle.charmlet_delivery.proofs.parts.shelve.Goals as goal

pub returns-in_default-wanted-clause-ok : goal.returns-in_default-wanted-clause-ok
returns-in_default-wanted-clause-ok g c =
    let old = c.args.shelf.now in
    let history = c.args.history.now in
    let pending_message = c.in-Some.pending_message.now in
    let m : Message = record { id = c.in-Some.id; to = pending_message.to; entry = pending_message.entry; words = pending_message.words } in
    let here : assigned_message (core_in history) old.number ≡ Some m =
    ap (assigned_message (core_in history)) (sym c.number.ensures) ∙ sym c.assigned.ensures ∙ ap (option_map shown_message) c.in-Some.is in
    let called = c.assign_copy-assigned in
    let copied = when_ok ((is_idle old.phase ≡ true) × Assigns old (record m { words = c.as_slice-words.result.now }) called.new.self) called.result (sym c.is_err.ensures.value ∙ c.if-is_err.false) called.ensures.ok in
    let assigned : Assigns old m called.new.self = subst (λ (words : List ℕ). Assigns old (record m { words = words }) called.new.self) c.as_slice-words.ensures copied.1 in
    delivering_there history c.facts.ensures old called.new.self c.requires.part c.requires.idle m here assigned

pub returns-clause-ok : goal.returns-clause-ok
returns-clause-ok g c =
    let old = c.args.shelf.now in
    let history = c.args.history.now in
    let m = c.in-Ok.message in
    let kind_version = c.in-Some-wanted.kind_version in
    let here : assigned_message (core_in history) old.number ≡ Some m =
    ap (assigned_message (core_in history)) (sym c.number.ensures) ∙ sym c.assigned.ensures ∙ ap (option_map shown_message) c.in-Some.is ∙ ap Some (sym c.in-Ok.ensures) in
    let wanted : blank_of_id (core_in history) (assigned_to (core_in history) old.number) ≡ Some kind_version = c.requires.wanted ∙ c.in-Some-wanted.is in
    let counts = c.facts.ensures.counts m.to in
    let sent = c.element-counts.result.sent in
    let received = c.element-counts.result.received in
    let sends : sent ≡ (record_of (present (core_in history)) m.to).sent = ap (λ (e : Element). e.sent) c.element-counts.ensures ∙ counts.sent in
    let receives : received ≡ (record_of (present (core_in history)) m.to).received = ap (λ (e : Element). e.received) c.element-counts.ensures ∙ counts.received in
    let is = when_ok (c.assign_newcomer.new.shelf ≡ record old { phase = Assigned (newcomer_due m kind_version sent received) }) c.assign_newcomer.result (sym c.is_err-2.ensures.value ∙ c.if-is_err-2.false) c.assign_newcomer.ensures.ok in
    delivering_new history c.facts.ensures old c.assign_newcomer.new.shelf c.requires.part c.requires.idle m here kind_version wanted sent received is sends receives
