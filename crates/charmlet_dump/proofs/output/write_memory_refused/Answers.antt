use Rattle.std.specs.Fmt.{digits}
use Rattle.charmlet_dump.proofs.output.write_memory_refused.Goals as goal

pub returns-in-Plain : goal.returns-in-Plain
unfolding digits
returns-in-Plain g c = rw c.in-Plain.is c.write_bytes.ensures

pub returns-in-Json : goal.returns-in-Json
unfolding digits
returns-in-Json g c = rw c.in-Json.is c.write_bytes-in-Json.ensures
