use Rattle.std.proofs.Common.{◌≡◌, ◌+◌, ◌≤◌, ◌++◌, length}
use Rattle.charmlet_model.specs.Reaction.{greatest}
use Rattle.charmlet_model.specs.World.{numbered}
use Rattle.charmlet_log_scan.proofs.world.queue.push_sends.Given as goal

-- what is left will be numbered on, and has room
abbrev pub invariant-loop-send : goal.invariant-loop-send
invariant-loop-send l = record {
  pushed : l.pending.messages ++ numbered l.from l.number l.send-iterator.rest.items ≡ l.fn.pending.messages ++ numbered l.from l.sent l.fn.sends.items;
  counts : l.number + length l.send-iterator.rest.items ≤ greatest;
  room : length l.send-iterator.rest.items ≤ l.pending.room;
  few : l.pending.next + length l.send-iterator.rest.items ≤ greatest;
}
