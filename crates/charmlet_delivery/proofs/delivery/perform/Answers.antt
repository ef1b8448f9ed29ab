use Rattle.std.proofs.Common.{◌≡◌, refl, sym, ap, ◌∙◌}
use Rattle.charmlet_shelf.specs.Shelf.{View, performed, without_output}
use Rattle.charmlet_stock.proofs.Results.{when_ok}
use Rattle.charmlet_delivery.specs.Workplace.{held_in, workplace_of}
use Rattle.charmlet_delivery.proofs.Counting.{moved_held}
use Rattle.charmlet_delivery.proofs.Turning.{reacted_due, same_due_objects, turned_phase, turns_on}
use Rattle.charmlet_delivery.proofs.delivery.perform.Goals as goal

pub commit-requires-clause-consistent : goal.commit-requires-clause-consistent
commit-requires-clause-consistent g c κs within =
    let old = workplace_of c.args.history.now c.args.shelf.now c.args.stock.now in
    let new = workplace_of old.history c.take_output.new.self old.stock in
    let reacted : c.perform.new.self ≡ record old.shelf { phase = performed old.shelf.phase } =
    when_ok (c.perform.new.self ≡ record old.shelf { phase = performed old.shelf.phase }) c.perform.result (sym c.is_err.ensures.value ∙ c.if-is_err.false) c.perform.ensures.ok in
    let phase = without_output (performed old.shelf.phase) in
    let is : new.shelf ≡ record old.shelf { phase = phase } = c.take_output.ensures.taken ∙ ap (λ (v : View). record v { phase = without_output v.phase }) reacted in
    let due = reacted_due old.shelf.phase in
    let held : held_in new.shelf old.stock ≡ held_in old.shelf old.stock = moved_held old.shelf new.shelf old.stock (same_due_objects old.shelf new.shelf phase is due) in
    (turned_phase old new c.requires.consistent held refl refl refl phase is due).consistent

pub returns-clause-turns : goal.returns-clause-turns
returns-clause-turns g c =
    let old = workplace_of c.args.history.now c.args.shelf.now c.args.stock.now in
    let mid = workplace_of old.history c.take_output.new.self old.stock in
    let last = workplace_of c.commit.new.history c.commit.new.shelf c.commit.new.stock in
    let reacted : c.perform.new.self ≡ record old.shelf { phase = performed old.shelf.phase } =
    when_ok (c.perform.new.self ≡ record old.shelf { phase = performed old.shelf.phase }) c.perform.result (sym c.is_err.ensures.value ∙ c.if-is_err.false) c.perform.ensures.ok in
    let phase = without_output (performed old.shelf.phase) in
    let is : mid.shelf ≡ record old.shelf { phase = phase } = c.take_output.ensures.taken ∙ ap (λ (v : View). record v { phase = without_output v.phase }) reacted in
    let due = reacted_due old.shelf.phase in
    let held : held_in mid.shelf old.stock ≡ held_in old.shelf old.stock = moved_held old.shelf mid.shelf old.stock (same_due_objects old.shelf mid.shelf phase is due) in
    turns_on old mid last (turned_phase old mid c.requires.consistent held refl refl refl phase is due) c.commit.ensures.turns
