use Rattle.std.proofs.Common.{◌≡◌, ◌++◌, List, ℕ}
use Rattle.std.specs.Io.KnownBytes.{Appends}
use Rattle.charmlet_script_output.proofs.writers.write_bytes.Given as goal

-- what comes before the rest is written
abbrev pub invariant-loop : goal.invariant-loop
invariant-loop g l = (written : List ℕ) × (l.bytes ≡ written ++ l.rest) × Appends (g.W.Write.contents l.initial.writer) (g.W.Write.contents l.writer) written
