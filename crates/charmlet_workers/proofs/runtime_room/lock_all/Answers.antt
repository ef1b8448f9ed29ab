use Rattle.std.proofs.Common.{◌≡◌, ◌<◌, ◌+◌, length, vec_len, subst, sym, ap, ◌∙◌, rules, arith}
use Rattle.charmlet_locks.specs.Locks.{RoomShown}
use Rattle.charmlet_workers.proofs.Orders.{AreFrom, first_number, ordered_count, ordered_from, other_numbers}
use Rattle.charmlet_workers.proofs.runtime_room.lock_all.Goals as goal

pub loop-locks-init : goal.loop-locks-init
loop-locks-init g c =
    let processors = g.B.RuntimeName.processors in
    let items = c.args.shelves.items in
    let none : c.args.locks.filled ≡ 0 = ap (λ (r : RoomShown). r.filled) c.requires.room in
    let count : length items ≡ processors = ordered_count processors items c.requires.shelves in
    let long : vec_len c.args.shelves ≡ length items = search rules in
    record {
      places = ap (λ (r : RoomShown). r.places) c.requires.room;
      all = omega (arith, none, count, long);
      numbers = subst (λ n. AreFrom n items) (sym none) (ordered_from processors items c.requires.shelves);
      room = omega (arith, count, long);
    }

pub loop-locks-preserved : goal.loop-locks-preserved
loop-locks-preserved g c =
    let filled = c.loop-locks.locks.filled in
    let items = c.loop-locks.shelves.items in
    let next : c.put.new.self.filled ≡ filled + 1 = ap (λ (r : RoomShown). r.filled) c.put.ensures in
    let some : 0 < length items = search rules in
    record {
      places = ap (λ (r : RoomShown). r.places) c.put.ensures ∙ c.loop-locks.invariant.places;
      all = omega (arith, next, c.loop-locks.invariant.all, c.remove.ensures.len);
      numbers = subst (λ n. AreFrom n c.remove.new.self.items) (sym next) (subst (AreFrom (filled + 1)) (sym c.remove.ensures.items) (other_numbers filled items some c.loop-locks.invariant.numbers));
      room = search rules;
    }

pub put-requires-clause-number : goal.put-requires-clause-number
put-requires-clause-number g c =
    let items = c.loop-locks.shelves.items in
    let some : 0 < length items = search rules in
    ap (λ shelf. shelf.number) c.remove.ensures.value ∙ first_number c.loop-locks.locks.filled items c.remove.result some c.loop-locks.invariant.numbers
