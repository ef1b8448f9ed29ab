use Rattle.std.specs.Fmt.{digits}
use Rattle.charmlet_script_output.proofs.writers.write_memory_refused.Goals as goal

pub returns : goal.returns
unfolding digits
returns g c = c.write_bytes.ensures
