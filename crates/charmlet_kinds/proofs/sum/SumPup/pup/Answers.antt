use Rattle.std.proofs.lemmas.Result.{err_from_is_err_and}
use Rattle.charmlet_pup.proofs.Visits.{Visits_any-then, Visits_any-fails}
use Rattle.charmlet_kinds.proofs.sum.SumPup.pup.Goals as goal

pub returns : goal.returns
returns c =
    Visits_any-then _ _ _ _ _ _ _ _ _ _ c.in_ok-u64.ensures.visits
    (Visits_any-then _ _ _ _ _ _ _ _ _ _ c.in_ok-u64-2.ensures.visits
    (Visits_any-then _ _ _ _ _ _ _ _ _ _ c.in_ok-u64-3.ensures.visits c.u64-4.ensures.visits))

pub returns-in_err-u64-3 : goal.returns-in_err-u64-3
returns-in_err-u64-3 c =
    let p = err_from_is_err_and c.from_residual-in_err-u64-3.result c.from_residual-in_err-u64-3.ensures.1 in
    rw (p.1, p.2)
    (Visits_any-then _ _ _ _ _ _ _ _ _ _ c.in_ok-u64.ensures.visits
    (Visits_any-then _ _ _ _ _ _ _ _ _ _ c.in_ok-u64-2.ensures.visits
    (Visits_any-fails _ _ _ _ _ _ _ _ c.in_err-u64-3.ensures.visits)))
