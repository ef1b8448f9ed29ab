use Rattle.std.proofs.Common.{sym, subst}
use Rattle.charmlet_shelf.specs.Due.{Due, record_after}
use Rattle.charmlet_shelf.specs.Shelf.{Holds}
use Rattle.charmlet_shelf.specs.Risen.{risen}
use Rattle.charmlet_shelf.proofs.shelf.Shelf.perform.Goals as goal

pub invariant_of-self : goal.invariant_of-self
invariant_of-self g c =
    let state = g.C.Chare.state in
    subst (λ (d : Due). Holds state (risen c.react.new.residents.entries) d (record_after d).state) (sym c.in-Ok.ensures.ok.0) c.in-Ok.ensures.ok.2

pub invariant_of-self-in-Err : goal.invariant_of-self-in-Err
invariant_of-self-in-Err g c =
    let state = g.C.Chare.state in
    subst (λ (d : Due). Holds state (risen c.react.new.residents.entries) d d.receiver.state) (sym c.in-Err.ensures.err.0) c.in-Err.ensures.err.1
