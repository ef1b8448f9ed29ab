use Rattle.std.proofs.Common.{ap, ◌∙◌}
use Rattle.charmlet_ready_queue.specs.SeqNos.SeqNos.{in_order, turned}
use Rattle.charmlet_ready_queue.proofs.seq_nos.ring.turn_to.Goals as goal
use Rattle.charmlet_ready_queue.proofs.SeqNosLemmas.Rings.{turn_back, turn_on, unturned}

pub returns-then-behind-place-clause-items : goal.returns-then-behind-place-clause-items
returns-then-behind-place-clause-items c = unturned c.args.ring.now.items c.args.behind c.requires.behind ∙ ap (λ n. turned n (in_order c.args.behind c.args.ring.now.items)) c.if-behind-place.true

pub returns-then-behind-place-2-clause-items : goal.returns-then-behind-place-2-clause-items
returns-then-behind-place-2-clause-items c = c.rotate_left.ensures.items ∙ turn_on c.args.ring.now.items c.args.behind c.args.place c.if-behind-place-2.true c.requires.place

pub returns-else-behind-place-2-clause-items : goal.returns-else-behind-place-2-clause-items
returns-else-behind-place-2-clause-items c = c.rotate_right.ensures.items ∙ turn_back c.args.ring.now.items c.args.behind c.args.place c.args.ring.now.len c.args.ring.now.ok.0 c.if-behind-place-2.false c.requires.behind
