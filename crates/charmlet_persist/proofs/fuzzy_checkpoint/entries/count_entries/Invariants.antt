use Rattle.std.proofs.Common.{◌≡◌, ◌+◌, ◌≤◌, length}
use Rattle.charmlet_persist.specs.FuzzyCheckpoint.Sealing.{count_kept}
use Rattle.charmlet_persist.proofs.fuzzy_checkpoint.entries.count_entries.Given as goal

abbrev pub invariant-loop-elem : goal.invariant-loop-elem
invariant-loop-elem l = record {
  count : l.count + count_kept l._elem-iterator ≡ count_kept l.table.entries;
  room : l.count + length l._elem-iterator ≤ length l.table.entries;
}
