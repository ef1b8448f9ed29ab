use Rattle.std.proofs.Common.{arith, sym, subst}
use Rattle.charmlet_ready_queue.specs.Index.Index.{Indexed, IsHeld, IsIndexOf}
use Rattle.charmlet_ready_queue.proofs.index.index.Index.take.Goals as goal
use Rattle.charmlet_ready_queue.proofs.IndexLemmas.Steps.{below_without, counted_away, less_room, roomy_without, without_index}

pub take_from-requires-clause-away : goal.take_from-requires-clause-away
take_from-requires-clause-away c = λ apart l there.
    counted_away c.args.number c.args.at c.self.inside.lists.items (subst (λ (v : Indexed). IsHeld c.args.number c.args.at v.lists) (sym c.self.view_is) c.requires.held) apart l there

pub invariant_of-self : goal.invariant_of-self
invariant_of-self c =
    let n = c.args.number in
    let held = subst (λ (v : Indexed). IsHeld n c.args.at v.lists) (sym c.self.view_is) c.requires.held in
    record {
      numbers = c.self.invariant.numbers;
      roomy = λ p l there.
          let one = c.take_from.ensures.each p l there in
          less_room c.self.inside.headroom _ l (omega arith) (roomy_without held.0 held.1 n c.args.at p one.0 l c.self.inside.headroom held.3 held.4 held.5 (held.2 p one.0 one.1) one.2 (c.self.invariant.roomy p one.0 one.1));
      below = λ p l there.
          let one = c.take_from.ensures.each p l there in
          below_without c.self.inside.next n c.args.at p one.0 l one.2 (c.self.invariant.below p one.0 one.1);
    }

pub returns-clause-index : goal.returns-clause-index
returns-clause-index c = λ seq_nos place is climbs there here.
    without_index seq_nos place c.args.number c.args.at c.self.inside.lists.items c.take_from.new.lists.items climbs there here (subst (λ (v : Indexed). IsIndexOf seq_nos place v.lists) (sym c.self.view_is) is) c.take_from.ensures.each
