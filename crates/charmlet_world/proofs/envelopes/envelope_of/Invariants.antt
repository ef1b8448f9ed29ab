use Rattle.std.proofs.Common.{◌-◌, ◌<◌, ◌≤◌, length, take, drop}
use Rattle.charmlet_ready_queue.specs.SeqNos.SeqNos.{AllAfter, AllBefore}
use Rattle.charmlet_world.specs.Waiting.{seqs}
use Rattle.charmlet_world.proofs.envelopes.envelope_of.Given as goal

abbrev pub invariant-loop-low : goal.invariant-loop-low
invariant-loop-low l = record {
  order : l.low ≤ l.high;
  within : l.high ≤ length l.envelopes.entries;
  middle_from : l.low < l.high → l.low ≤ l.middle;
  middle_to : l.low < l.high → l.middle < l.high;
  before : AllBefore l.number (take l.low (seqs l.envelopes.entries));
  after : AllAfter l.number (drop l.high (seqs l.envelopes.entries));
}

abbrev pub decreases-loop-low : goal.decreases-loop-low
decreases-loop-low l = l.high - l.low
