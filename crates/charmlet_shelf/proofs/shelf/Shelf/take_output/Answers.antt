use Rattle.std.proofs.Common.{◌≡◌, sym, ap, subst}
use Rattle.charmlet_shelf.specs.Due.{Due, record_after}
use Rattle.charmlet_shelf.specs.PerformedDelivery.{Performed}
use Rattle.charmlet_shelf.specs.Shelf.{Holds, ShowsPhase}
use Rattle.charmlet_shelf.specs.Risen.{risen}
use Rattle.charmlet_shelf.proofs.shelf.Shelf.take_output.Goals as goal

pub invariant_of-self-2 : goal.invariant_of-self-2
invariant_of-self-2 g c =
    let state = g.C.Chare.state in
    let es = risen c.self.inside.residents.entries in
    let due : c.take_output.new.self.due ≡ c.in-Done.outcome.due = ap (λ (p : Performed). p.due) c.take_output.ensures.taken in
    subst (λ (d : Due). Holds state es d (record_after d).state) (sym due) (subst (ShowsPhase state es) c.in-Done.is c.self.invariant)
