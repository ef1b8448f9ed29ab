use Rattle.std.proofs.Common.{◌≡◌, length}
use Rattle.charmlet_replayers.specs.Dispatch.Sharing.{worker_of}
use Rattle.charmlet_parallel_replay.proofs.ImageLemmas.Giving.{GivenSoFar}
use Rattle.charmlet_parallel_replay.proofs.image.deliveries.give_deliveries.Given as goal

-- the deliveries so far are given
abbrev pub invariant-deliveries : goal.invariant-deliveries
invariant-deliveries g l = record {
  left : l.placed-iterator.rest.len ≡ length l.placed-iterator.rest.items;
  so_far : GivenSoFar (worker_of l.processors (length l.fn.replayers)) l.fn.deliveries.items l.placed-iterator.rest.items l.fn.replayers l.replayers;
}
