use Rattle.std.proofs.Common.{◌≡◌, ◌++◌, drop}
use Rattle.charmlet_recover.specs.Maps.{counts_in}
use Rattle.charmlet_recover.proofs.entries.received_of.Given as goal

-- what is left goes after the counts so far
abbrev pub invariant-loop-entry : goal.invariant-loop-entry
invariant-loop-entry l = l.received.entries ++ counts_in (drop l.entry-index l.entries) ≡ counts_in l.entries
