use Rattle.std.proofs.Common.{◌+◌, ◌<◌, arith, sym, subst, slice_get, length}
use Rattle.std.specs.Prelude.{IfSome}
use Rattle.charmlet_ready_queue.specs.Index.Index.{HasRoomFor, Indexed, IsHeld, IsIndexOf, IsRoomy, touches}
use Rattle.charmlet_ready_queue.proofs.index.index.Index.shift.Goals as goal
use Rattle.charmlet_ready_queue.proofs.IndexLemmas.Numbers.{bit}
use Rattle.charmlet_ready_queue.proofs.IndexLemmas.Steps.{below_with, below_without, bit_small, counted_away, held_below, less_room, mid_roomy, roomy_with, roomy_without, shifted_index, some_each}

pub take_from-requires-clause-away : goal.take_from-requires-clause-away
take_from-requires-clause-away c = λ apart l there.
    counted_away c.args.number c.args.from c.self.inside.lists.items (subst (λ (v : Indexed). IsHeld c.args.number c.args.from v.lists) (sym c.self.view_is) c.requires.held) apart l there

pub put_in-requires-clause-room : goal.put_in-requires-clause-room
put_in-requires-clause-room c = λ p l there touched.
    let r = (mid_roomy c.args.number c.args.from c.args.into c.self.inside.headroom c.self.inside.lists.items c.take_from.new.lists.items (subst (λ (v : Indexed). IsHeld c.args.number c.args.from v.lists) (sym c.self.view_is) c.requires.held) c.self.invariant.roomy (subst (λ (v : Indexed). HasRoomFor v.headroom c.args.from c.args.into v.lists) (sym c.self.view_is) c.requires.room) c.take_from.ensures.each p l there) in
    less_room 1 (c.self.inside.headroom + bit (touches c.args.into p)) l (rw touched (omega arith)) r

pub invariant_of-self : goal.invariant_of-self
invariant_of-self c = record {
  numbers = c.self.invariant.numbers;
  roomy = λ p l there.
      let one = c.put_in.ensures.each p l there in
      roomy_with c.args.number c.args.into p one.0 l c.self.inside.headroom one.2 (mid_roomy c.args.number c.args.from c.args.into c.self.inside.headroom c.self.inside.lists.items c.take_from.new.lists.items (subst (λ (v : Indexed). IsHeld c.args.number c.args.from v.lists) (sym c.self.view_is) c.requires.held) c.self.invariant.roomy (subst (λ (v : Indexed). HasRoomFor v.headroom c.args.from c.args.into v.lists) (sym c.self.view_is) c.requires.room) c.take_from.ensures.each p one.0 one.1);
  below = λ p l there.
      let n = c.args.number in
      let held = subst (λ (v : Indexed). IsHeld n c.args.from v.lists) (sym c.self.view_is) c.requires.held in
      let within = subst (λ (v : Indexed). c.args.from.on < length v.lists) (sym c.self.view_is) c.requires.from_on in
      let lt = held_below n c.self.inside.next c.args.from c.self.inside.lists.items held within c.self.invariant.below in
      let two = c.put_in.ensures.each p l there in
      let one = c.take_from.ensures.each p two.0 two.1 in
      below_with c.self.inside.next n c.args.into p two.0 l lt two.2 (below_without c.self.inside.next n c.args.from p one.0 two.0 one.2 (c.self.invariant.below p one.0 one.1));
}

pub returns-clause-index : goal.returns-clause-index
returns-clause-index c = λ seq_nos place is climbs there here.
    shifted_index seq_nos place c.args.number c.args.from c.args.into c.self.inside.lists.items c.take_from.new.lists.items c.put_in.new.lists.items climbs there here (subst (λ (v : Indexed). IsIndexOf seq_nos place v.lists) (sym c.self.view_is) is) c.take_from.ensures.each c.put_in.ensures.each

pub returns-clause-room : goal.returns-clause-room
returns-clause-room c = λ p k had.
    let n = c.args.number in
    let from = c.args.from in
    let held = subst (λ (v : Indexed). IsHeld n from v.lists) (sym c.self.view_is) c.requires.held in
    let had_here = subst (λ (v : Indexed). IfSome (slice_get v.lists p) (IsRoomy (k + 1))) (sym c.self.view_is) had in
    some_each c.put_in.new.lists.items p (IsRoomy k) (λ l there.
    let two = c.put_in.ensures.each p l there in
    let one = c.take_from.ensures.each p two.0 two.1 in
    let old : IsRoomy (k + 1) one.0 = rw one.1 at had_here in
    let mid = roomy_without held.0 held.1 n from p one.0 two.0 (k + 1) held.3 held.4 held.5 (held.2 p one.0 one.1) one.2 old in
    let small = bit_small (touches c.args.into p) in
    roomy_with n c.args.into p two.0 l k two.2 (less_room (k + bit (touches c.args.into p)) (k + 1 + bit (touches from p)) two.0 (omega (arith, small)) mid))
