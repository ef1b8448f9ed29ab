use Rattle.std.proofs.Common.{◌≡◌, length}
use Rattle.std.specs.List.{All}
use Rattle.charmlet_parallel_replay.specs.Image.Filled.{IsEmptyReplayer}
use Rattle.charmlet_parallel_replay.proofs.image.replayers.empty_replayers.Given as goal

-- the first replayers are there
abbrev pub invariant-loop : goal.invariant-loop
invariant-loop g l = record {
  count : length l.replayers.items ≡ l.counter;
  empty : All (IsEmptyReplayer l.processors) l.replayers.items;
}
