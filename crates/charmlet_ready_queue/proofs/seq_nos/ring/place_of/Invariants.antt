use Rattle.std.proofs.Common.{◌-◌, ◌<◌, ◌≤◌, length, take, drop}
use Rattle.charmlet_ready_queue.specs.SeqNos.SeqNos.{AllBefore, AllFrom, in_order}
use Rattle.charmlet_ready_queue.proofs.seq_nos.ring.place_of.Given as goal

abbrev pub invariant-loop-low : goal.invariant-loop-low
invariant-loop-low g l = record {
  order : l.low ≤ l.high;
  within : l.high ≤ length l.ring.items;
  middle_from : l.low < l.high → l.low ≤ l.middle;
  middle_to : l.low < l.high → l.middle < l.high;
  before : AllBefore l.number (take l.low (in_order l.behind l.ring.items));
  from : AllFrom l.number (drop l.high (in_order l.behind l.ring.items));
}

abbrev pub decreases-loop-low : goal.decreases-loop-low
decreases-loop-low g l = l.high - l.low
