use Rattle.std.proofs.Common.{◌≡◌, ◌+◌, ◌≤◌, ◌++◌, length}
use Rattle.charmlet_model.specs.Reaction.{greatest}
use Rattle.charmlet_log_scan.proofs.world.queue.queue_of.Given as goal

-- what is left goes after the messages so far, and has room
abbrev pub invariant-loop-message : goal.invariant-loop-message
invariant-loop-message l = record {
  so_far : l.pending.messages ++ l.message-iterator.rest.items ≡ l.fn.messages.items;
  room : length l.message-iterator.rest.items ≤ l.pending.room;
  few : l.pending.next + length l.message-iterator.rest.items ≤ greatest;
}
