use Rattle.std.proofs.Common.{append_assoc}
use Rattle.std.proofs.Output.{has_written_of_eq}
use Rattle.charmlet_dump.proofs.json.JsonLineDisplay.fmt.Goals as goal

pub returns-in-Array-clause-writes : goal.returns-in-Array-clause-writes
returns-in-Array-clause-writes g c plain ok =
    rw c.in-Array.is (has_written_of_eq _ _ _ _ _ (rw (c.kind-kind.ensures, c.version-version.ensures.value) (simp append_assoc)) (c.write-in-Array.ensures.writes plain ok))

pub returns-in-Constructions-clause-writes : goal.returns-in-Constructions-clause-writes
returns-in-Constructions-clause-writes g c plain ok =
    rw c.in-Constructions.is (has_written_of_eq _ _ _ _ _ (simp append_assoc) (c.write-in-Constructions.ensures.writes plain ok))
