-- What the proof of the one routine of a struct of numbers stands on.
use Rattle.charmlet_pup.proofs.Visits.{Visits_any-then, Visits_any-fails}

pub ruleset fields = (Visits_any-then, Visits_any-fails)
