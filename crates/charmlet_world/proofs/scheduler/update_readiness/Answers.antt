use Rattle.std.proofs.Common.{refl, sym, ap, subst, ◌∙◌, length}
use Rattle.charmlet_ready_queue.specs.Index.Index.{HaveRoom}
use Rattle.charmlet_world.proofs.Tying.{called_apart, called_held, indexed_moved, indexed_none, indexed_same}
use Rattle.charmlet_world.proofs.scheduler.update_readiness.Goals as goal

pub returns-then-is_same_readiness-clause-index : goal.returns-then-is_same_readiness-clause-index
returns-then-is_same_readiness-clause-index c = indexed_same c.args.to c.args.old c.args.new c.args.pending.now.seq_nos c.args.pending.now.messages c.args.index.now.lists (c.if-is_same_readiness.ensures refl)

pub returns-then-count-eq0-clause-index : goal.returns-then-count-eq0-clause-index
returns-then-count-eq0-clause-index c = indexed_none c.args.to c.args.old c.args.new c.args.pending.now.seq_nos c.args.pending.now.messages c.args.index.now.lists (sym c.count_to-count.ensures ∙ c.if-count-eq0.true)

pub update_readiness-requires-clause-apart : goal.update_readiness-requires-clause-apart
update_readiness-requires-clause-apart c = called_apart c.args.to c.args.old c.args.new c.args.pending.now.seq_nos c.args.pending.now.messages c.args.index.now.lists c.calls-calls.result c.calls-calls.ensures c.requires.called

pub update_readiness-requires-clause-held : goal.update_readiness-requires-clause-held
update_readiness-requires-clause-held c = called_held c.args.to c.args.old c.args.new c.args.pending.now.seq_nos c.args.pending.now.messages c.args.index.now.lists c.calls-calls.result c.calls-calls.ensures c.requires.called

pub update_readiness-requires-clause-room : goal.update_readiness-requires-clause-room
update_readiness-requires-clause-room c = subst (λ n. HaveRoom c.args.index.now.headroom c.args.old c.args.new n c.args.index.now.lists) (sym (ap length c.calls-calls.ensures)) c.requires.room

pub returns-clause-index : goal.returns-clause-index
returns-clause-index c = indexed_moved c.args.to c.args.old c.args.new c.args.pending.now.seq_nos c.args.pending.now.messages c.args.index.now.lists c.calls-calls.result c.calls-calls.ensures c.update_readiness.new.self.lists c.update_readiness.ensures.index
