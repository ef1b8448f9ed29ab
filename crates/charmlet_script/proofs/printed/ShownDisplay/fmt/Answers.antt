use Rattle.std.proofs.Common.{append_assoc}
use Rattle.std.proofs.Output.{has_written_of_eq}
use Rattle.charmlet_script.proofs.printed.ShownDisplay.fmt.Goals as goal

pub returns-in-Some-clause-writes : goal.returns-in-Some-clause-writes
returns-in-Some-clause-writes g c plain ok =
    rw c.in-Some.is (has_written_of_eq _ _ _ _ _ (rw c.as_str-packed.ensures.value (simp append_assoc)) (c.write.ensures.writes plain ok))

pub returns-in-None-clause-writes : goal.returns-in-None-clause-writes
returns-in-None-clause-writes g c plain ok =
    rw c.in-None.is (has_written_of_eq _ _ _ _ _ (simp append_assoc) (c.write-in-None.ensures.writes plain ok))
