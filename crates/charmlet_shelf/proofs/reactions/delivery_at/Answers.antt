use Rattle.std.proofs.Common.{◌≡◌, refl, subst}
use Rattle.std.specs.Prelude.{Some, None, IfSome}
use Rattle.charmlet_shelf.specs.Shelf.{HasCounts}
use Rattle.charmlet_shelf.specs.Risen.{risen}
use Rattle.charmlet_shelf.proofs.Risen.{found_value}
use Rattle.charmlet_shelf.proofs.Holding.{due_here}
use Rattle.charmlet_shelf.proofs.Records.{at, shown_nowhere, shown_there}
use Rattle.charmlet_shelf.proofs.reactions.delivery_at.Goals as goal

pub returns-in_default-clause-err : goal.returns-in_default-clause-err
returns-in_default-clause-err g c =
    let entries = c.args.residents.now.entries in
    let es = risen entries in
    let none : at es c.args.message.to ≡ None = c.index_from.ensures.none c.in_default.is in
    (shown_nowhere g.C.Chare.state es c.args.message.to none, refl)

pub to_resident-requires-after_bounds : goal.to_resident-requires-after_bounds
to_resident-requires-after_bounds g c κs within =
    let entries = c.args.residents.now.entries in
    let es = risen entries in
    let here : at es c.args.message.to ≡ Some c.index.result.now = found_value entries c.args.message.to c.in-Some.found c.in-Some.ensures.some c.index.result.now c.index.ensures in
    subst (λ o. IfSome o HasCounts) (shown_there g.C.Chare.state es c.args.message.to c.index.result.now here) c.requires

pub returns-clause-ok : goal.returns-clause-ok
returns-clause-ok g c =
    let entries = c.args.residents.now.entries in
    let es = risen entries in
    let here : at es c.args.message.to ≡ Some c.index.result.now = found_value entries c.args.message.to c.in-Some.found c.in-Some.ensures.some c.index.result.now c.index.ensures in
    due_here g.C.Chare.state es c.args.message c.index.result.now here c.to_resident.result c.to_resident.ensures
