use Rattle.std.proofs.Common.{◌≡◌, ◌+◌, ◌≤◌, ◌++◌, length}
use Rattle.charmlet_model.specs.Reaction.{greatest}
use Rattle.charmlet_model.specs.World.{numbered}
use Rattle.charmlet_world.proofs.sends.push_sends.Given as goal

-- what is left will be numbered on, and has room
abbrev pub invariant-loop-send : goal.invariant-loop-send
invariant-loop-send l = record {
  pushed : l.scheduler.pending ++ numbered l.from l.number l.send-iterator.rest.items ≡ l.fn.scheduler.pending ++ numbered l.from l.sent l.fn.sends.items;
  processors : l.scheduler.processors ≡ l.fn.scheduler.processors;
  rows : l.scheduler.rows ≡ l.fn.scheduler.rows;
  counts : l.number + length l.send-iterator.rest.items ≤ greatest;
  room : length l.send-iterator.rest.items ≤ l.scheduler.room;
  left : l.fn.scheduler.room + length l.send-iterator.rest.items ≤ l.scheduler.room + length l.fn.sends.items;
}
