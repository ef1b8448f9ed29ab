use Rattle.std.proofs.Common.{◌≡◌, ◌≤◌, ◌++◌, length}
use Rattle.charmlet_world.specs.Standing.{risen}
use Rattle.charmlet_world.proofs.scheduler.Scheduler.of.Given as goal

-- what is left goes after the messages so far, and has room
abbrev pub invariant-loop-message : goal.invariant-loop-message
invariant-loop-message l = record {
  so_far : l.scheduler.pending ++ l.message-iterator.rest.items ≡ l.fn.messages.items;
  processors : l.scheduler.processors ≡ l.fn.processors;
  rows : risen l.scheduler.rows ≡ l.fn.elements.entries;
  room : length l.message-iterator.rest.items ≤ l.scheduler.room;
}
