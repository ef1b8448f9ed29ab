use Rattle.std.proofs.Common.{◌≡◌, []}
use Rattle.charmlet_shelf.specs.Risen.{risen}
use Rattle.charmlet_persist.specs.FuzzyCheckpoint.Checkpoint.{with_all_left}
use Rattle.charmlet_persist.proofs.fuzzy_checkpoint.beginning.capture_all.Given as goal

-- the elements that are left capture what all of them do
abbrev pub invariant-loop-elem : goal.invariant-loop-elem
invariant-loop-elem l = with_all_left (risen l.table.entries) l.elem-iterator ≡ with_all_left [] l.left.entries
