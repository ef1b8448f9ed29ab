use Rattle.std.proofs.Common.{◌+◌, ◌-◌, ◌<◌, ◌++◌, ◌∷◌, [], arith, sym, subst}
use Rattle.charmlet_ready_queue.specs.SeqNos.SeqNos.{AllBefore}
use Rattle.charmlet_ready_queue.proofs.SeqNosLemmas.Rising.{all_weaker}
use Rattle.charmlet_ready_queue.specs.Index.Index.{Indexed, IsIndexOf, moved, touches}
use Rattle.charmlet_ready_queue.proofs.index.index.Index.push.Goals as goal
use Rattle.charmlet_ready_queue.proofs.IndexLemmas.Numbers.{last_with, none_before}
use Rattle.charmlet_ready_queue.proofs.IndexLemmas.Steps.{below_with, bit_small, less_room, roomy_with, with_index}

pub invariant_of-self : goal.invariant_of-self
invariant_of-self c =
    let n = c.self.inside.next in
    let h = c.self.inside.headroom in
    let some : 0 < h = subst (λ (v : Indexed). 0 < v.headroom) (sym c.self.view_is) c.requires.room in
    record {
      numbers = omega (arith, some, c.self.invariant.numbers);
      roomy = λ p l there.
          let one = c.push_in.ensures.each p l there in
          let small = bit_small (touches c.args.at p) in
          roomy_with n c.args.at p one.0 l (h - 1) one.2 (less_room _ h one.0 (omega (arith, some, small)) (c.self.invariant.roomy p one.0 one.1));
      below = λ p l there.
          let one = c.push_in.ensures.each p l there in
          let before = c.self.invariant.below p one.0 one.1 in
          below_with (n + 1) n c.args.at p one.0 l (omega arith) one.2 (record {
            ready = all_weaker (λ m. m < n) (λ m. m < n + 1) (λ m lt. omega (arith, lt)) one.0.ready.seq_nos before.ready;
            waiting = all_weaker (λ m. m < n) (λ m. m < n + 1) (λ m lt. omega (arith, lt)) one.0.waiting.seq_nos before.waiting;
          });
    }

pub returns-clause-index : goal.returns-clause-index
returns-clause-index c = λ seq_nos place is climbs before.
    let news = c.push_in.new.lists.items in
    let at = c.args.at in
    let here = subst (λ (v : Indexed). IsIndexOf seq_nos place v.lists) (sym c.self.view_is) is in
    let first = subst (λ (v : Indexed). AllBefore v.next seq_nos) (sym c.self.view_is) before in
    let n = c.self.inside.next in
    subst (λ (v : Indexed). IsIndexOf (seq_nos ++ v.next ∷ []) (moved v.next at place) news) c.self.view_is
    (subst (λ bs. IsIndexOf bs (moved n at place) news) (sym (last_with seq_nos n first))
    (with_index seq_nos place n at c.self.inside.lists.items news climbs (none_before n seq_nos first) here c.push_in.ensures.each))
