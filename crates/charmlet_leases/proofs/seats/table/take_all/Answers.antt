use Rattle.std.proofs.Common.{◌≡◌, ◌+◌, List, [], ◌∷◌, ◌++◌, map, vec_len, Option, Some, None, ap, sym, ◌∙◌, arith, subst, rules}
use Rattle.std.specs.Prelude.{slice_get, slice_set}
use Rattle.charmlet_model.specs.declared.names.MsgId.{MsgId}
use Rattle.charmlet_leases.specs.Seats.Seats.{HeldSeat, lists_out}
use Rattle.charmlet_leases.specs.Seats.Woven.{IsWoven}
use Rattle.charmlet_leases.proofs.SeatsLemmas.Weaving.{map-last, woven-last, woven-none, woven-without}
use Rattle.charmlet_leases.proofs.seats.table.take_all.Goals as goal

pub loop-seat-preserved : goal.loop-seat-preserved
loop-seat-preserved g c =
    let ids : HeldSeat → List MsgId = λ seat. seat.ids in
    let seat = c.in-Some.seat in
    let last : c.loop-seat.seats.items ≡ c.pop.new.self.items ++ seat ∷ [] = search rules in
    let lists : map ids c.loop-seat.seats.items ≡ map ids c.pop.new.self.items ++ seat.ids ∷ [] = ap (map ids) last ∙ map-last ids c.pop.new.self.items seat in
    let fewer : vec_len c.pop.new.self + 1 ≡ vec_len c.loop-seat.seats = search rules in
    let there : slice_get c.loop-seat.authority seat.place ≡ Some (Some seat.ids) = search rules in
    let new : c.take_in.new.authority ≡ slice_set c.loop-seat.authority seat.place None = search rules in
    let count = c.take_in.ensures.fewer in
    let was = c.loop-seat.invariant.0 in (
      omega (arith, fewer, count, was),
      λ whole w.
          let so_far = c.loop-seat.invariant.1 whole w in
          let out = woven-without c.loop-seat.authority so_far.0 seat.place seat.ids there so_far.1 in (
            out.0,
            subst (λ (b : List (Option (List MsgId))). IsWoven (lists_out b) out.0) (sym new) out.2,
            λ others. so_far.2 (subst (λ l. IsWoven l so_far.0) (sym lists) (woven-last (map ids c.pop.new.self.items) seat.ids out.0 so_far.0 out.1 others)),
          ),
    )

pub returns : goal.returns
returns g c = λ whole w.
    let ids : HeldSeat → List MsgId = λ seat. seat.ids in
    let so_far = c.loop-seat.invariant.1 whole w in
    let empty : vec_len c.loop-seat.seats ≡ 0 = search rules in
    let nothing : c.loop-seat.seats.items ≡ [] = search rules in
    let none : so_far.0 ≡ [] = woven-none c.loop-seat.authority so_far.0 (c.loop-seat.invariant.0 ∙ empty) so_far.1 in
    so_far.2 (subst (λ (l : List HeldSeat). IsWoven (map ids l) so_far.0) (sym nothing) none)
