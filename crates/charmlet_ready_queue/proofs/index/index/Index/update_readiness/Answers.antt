use Rattle.std.proofs.Common.{◌≡◌, ◌∷◌, length, subst, sym, ◌∙◌}
use Rattle.charmlet_ready_queue.specs.declared.index.place.QueuePlace.{QueuePlace}
use Rattle.charmlet_ready_queue.specs.Index.Index.{AreApart, HaveRoom, IsIndexOf, moved}
use Rattle.charmlet_ready_queue.proofs.IndexLemmas.Between.{Between, between_step, room_step}
use Rattle.charmlet_ready_queue.proofs.index.index.Index.update_readiness.Goals as goal

pub loop-call-preserved : goal.loop-call-preserved
loop-call-preserved g c =
    let call = c.in-Some.call in
    let rest = g.C.Chain.left c.next.new.self in
    let all = g.C.Chain.left c.args.calls.now in
    let lists = c.loop-call.self.lists in
    let news = c.shift.new.self.lists in
    let is : g.C.Chain.left c.loop-call.calls ≡ call ∷ rest = c.in-Some.ensures in
    let inv = c.loop-call.invariant in
    let apart = subst AreApart is inv.apart in
    let room = subst (λ cs. HaveRoom c.args.self.now.headroom c.args.old c.args.new (length cs) lists) is inv.room in
    record {
      between = λ seq_nos place index climbs placed.
          let b = subst (λ cs. Between c.args.old c.args.new all cs seq_nos place lists) is (inv.between seq_nos place index climbs placed) in
          let shifted = c.shift.ensures.index seq_nos b.now b.index climbs b.placed.0 (b.placed.1 ∙ sym c.place-from.ensures) in
          between_step c.args.old c.args.new all call rest seq_nos place lists news apart b (subst (λ (a : QueuePlace). IsIndexOf seq_nos (moved call.number a b.now) news) c.place-into.ensures shifted);
      apart = apart.1;
      room = room_step c.args.self.now.headroom c.args.old c.args.new call rest lists news c.shift.ensures.len c.shift.ensures.room room;
      len = c.shift.ensures.len ∙ inv.len;
      next = c.shift.ensures.next ∙ inv.next;
      headroom = c.shift.ensures.headroom ∙ inv.headroom;
    }
