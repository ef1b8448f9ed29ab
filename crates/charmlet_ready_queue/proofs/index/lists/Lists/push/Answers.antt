use Rattle.std.proofs.Common.{◌∙◌}
use Rattle.charmlet_ready_queue.proofs.index.lists.Lists.push.Goals as goal
use Rattle.charmlet_ready_queue.proofs.IndexLemmas.Numbers.{last_with}

pub returns-then-is_ready-clause-ready : goal.returns-then-is_ready-clause-ready
returns-then-is_ready-clause-ready c = rw c.if-is_ready.true (c.push.ensures.seq_nos ∙ last_with c.args.self.now.ready.seq_nos c.args.number c.requires.last.ready)

pub returns-else-is_ready-clause-waiting : goal.returns-else-is_ready-clause-waiting
returns-else-is_ready-clause-waiting c = rw c.if-is_ready.false (c.push-else-is_ready.ensures.seq_nos ∙ last_with c.args.self.now.waiting.seq_nos c.args.number c.requires.last.waiting)
