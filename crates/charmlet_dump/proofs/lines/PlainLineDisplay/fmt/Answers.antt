use Rattle.std.proofs.Common.{append_assoc}
use Rattle.std.proofs.Output.{has_written_of_eq}
use Rattle.charmlet_dump.proofs.lines.PlainLineDisplay.fmt.Goals as goal

pub returns-in-None-clause-writes : goal.returns-in-None-clause-writes
returns-in-None-clause-writes g c plain ok =
    rw c.in-Element.is (rw c.in-None.is (has_written_of_eq _ _ _ _ _ (simp append_assoc) (c.write-in-None.ensures.writes plain ok)))
