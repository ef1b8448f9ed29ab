use Rattle.std.proofs.Common.{◌≡◌, ℕ, ◌+◌, ◌≤◌, sym, ap, subst, ◌∙◌}
use Rattle.charmlet_model.specs.declared.kind.Kind.{Kind}
use Rattle.charmlet_shelf.specs.Shelf.{View, output_in, performed, settled}
use Rattle.charmlet_stock.specs.Stock.{blanks_in, supplied_to, tally_in}
use Rattle.charmlet_stock.proofs.Results.{when_ok}
use Rattle.charmlet_migrate.proofs.Delivering.{performed_objects}
use Rattle.charmlet_shard.proofs.OnShelf.{made_by, settled_as}
use Rattle.charmlet_shard.proofs.Reacted.{objects_taken, output_of_due, settled_taken}
use Rattle.charmlet_shard.proofs.receivers.perform.Goals as goal

pub receiver_after-receiver-requires-after_bounds : goal.receiver_after-receiver-requires-after_bounds
receiver_after-receiver-requires-after_bounds g c κs within =
    let old = c.args.shelf.now in
    let is = when_ok (c.perform.new.self ≡ record old { phase = performed old.phase }) c.perform.result (sym c.is_err.ensures.value ∙ c.if-is_err.false) c.perform.ensures.ok in
    let made = made_by c.requires.assigned.0 c.requires.assigned.2 old.phase c.requires.assigned.1 in
    (made.0, ap (λ (v : View). v.phase) is ∙ made.1)

pub returns-clause-ok : goal.returns-clause-ok
returns-clause-ok g c = λ due assigned.
    let old = c.args.shelf.now in
    let is = when_ok (c.perform.new.self ≡ record old { phase = performed old.phase }) c.perform.result (sym c.is_err.ensures.value ∙ c.if-is_err.false) c.perform.ensures.ok in
    let middle = c.perform.new.self in
    let settles : c.settle_shelf.new.shelf ≡ settled middle = c.settle_shelf.ensures.shelf ∙ ap settled c.take_output.ensures.taken ∙ settled_taken middle in (
      settled_as old middle c.settle_shelf.new.shelf c.requires.assigned.0 due c.requires.assigned.1 assigned c.requires.assigned.2 is settles c.receiver_after-receiver.result
          (λ done phase. c.receiver_after-receiver.ensures done phase),
      output_of_due c.requires.assigned.0 due old.phase c.requires.assigned.2 c.requires.assigned.1 assigned c.in-Some.output
          (sym (ap (λ (v : View). output_in v.phase) is) ∙ sym c.take_output.ensures.output ∙ c.in-Some.is),
    )

pub returns-clause-held : goal.returns-clause-held
returns-clause-held g c =
    let old = c.args.shelf.now in
    let stock = c.args.stock.now in
    let is = when_ok (c.perform.new.self ≡ record old { phase = performed old.phase }) c.perform.result (sym c.is_err.ensures.value ∙ c.if-is_err.false) c.perform.ensures.ok in
    c.settle_shelf.ensures.held ∙ ap (λ objects. λ (kind : Kind). objects kind + blanks_in stock kind + (tally_in stock kind).retired) (objects_taken c.perform.new.self c.take_output.new.self c.take_output.ensures.taken ∙ performed_objects old c.perform.new.self is)

pub settle_shelf-requires-after_bounds : goal.settle_shelf-requires-after_bounds
settle_shelf-requires-after_bounds g c κs within = λ kind.
    let old = c.args.shelf.now in
    let stock = c.args.stock.now in
    let is = when_ok (c.perform.new.self ≡ record old { phase = performed old.phase }) c.perform.result (sym c.is_err.ensures.value ∙ c.if-is_err.false) c.perform.ensures.ok in
    let same = objects_taken c.perform.new.self c.take_output.new.self c.take_output.ensures.taken ∙ performed_objects old c.perform.new.self is in
    subst (λ (objects : Kind → ℕ). objects kind + blanks_in stock kind + (tally_in stock kind).retired ≤ supplied_to stock kind) (sym same) (c.requires.supply kind)
