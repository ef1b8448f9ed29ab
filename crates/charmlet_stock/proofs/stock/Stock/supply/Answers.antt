use Rattle.std.proofs.Common.{rules, ◌≡◌, [], ◌∷◌, ◌+◌, length, arith, refl, sym, ap, subst, ◌∙◌}
use Rattle.std.proofs.lemmas.List.{nil_from_length}
use Rattle.charmlet_model.specs.Shelves.{count_of}
use Rattle.charmlet_stock.specs.declared.by_kind.ByKind.{ByKind}
use Rattle.charmlet_stock.specs.declared.pile.Tally.{Tally}
use Rattle.charmlet_stock.specs.ByKind.{at}
use Rattle.charmlet_stock.specs.Pile.{supplied_more}
use Rattle.charmlet_stock.specs.Stock.{HasRoomForAll, census_of, tally_in}
use Rattle.charmlet_stock.proofs.Room.{room_for_first, room_left, supplied_next, supplied_none}
use Rattle.charmlet_stock.proofs.Results.{when_ok}
use Rattle.charmlet_stock.proofs.stock.Stock.supply.Goals as goal

pub loop-object-init : goal.loop-object-init
loop-object-init g c =
    let state = g.C.Chare.state in
    let is = sym c.is_err.ensures.value ∙ c.if-is_err.false in
    let room : HasRoomForAll state c.reserve.new.self.piles c.as_slice.result.now = when_ok _ c.reserve.result is c.reserve.ensures.ok in
    let counted : c.into_iter-object-iterator.result.rest.len ≡ length c.into_iter-object-iterator.result.rest.items = search rules in
    (subst (HasRoomForAll state c.reserve.new.self.piles) (c.as_slice.ensures.value ∙ sym c.into_iter-object-iterator.ensures.into_iter_gives.0) room, (λ kind. refl), counted, refl)

pub add-requires-after_bounds : goal.add-requires-after_bounds
add-requires-after_bounds g c κs within =
    let state = g.C.Chare.state in
    let items : c.loop-object.object-iterator.rest.items ≡ c.in-Some.object ∷ c.next.new.self.rest.items = search rules in
    room_for_first state c.loop-object.self.piles c.in-Some.object c.next.new.self.rest.items (subst (HasRoomForAll state c.loop-object.self.piles) items c.loop-object.invariant.0)

pub loop-object-preserved : goal.loop-object-preserved
loop-object-preserved g c =
    let state = g.C.Chare.state in
    let others = c.next.new.self.rest.items in
    let object = c.in-Some.object in
    let items : c.loop-object.object-iterator.rest.items ≡ object ∷ others = search rules in
    let fewer : c.next.new.self.rest.len + 1 ≡ c.loop-object.object-iterator.rest.len = search rules in
    let counted : c.loop-object.object-iterator.rest.len ≡ length (object ∷ others) = subst (λ objects. c.loop-object.object-iterator.rest.len ≡ length objects) items c.loop-object.invariant.2 in (
      room_left state c.loop-object.self.piles c.add.new.self.piles object others c.add.ensures.room c.add.ensures.others (subst (HasRoomForAll state c.loop-object.self.piles) items c.loop-object.invariant.0),
      (λ kind.
          ap (λ (tallies : ByKind Tally). supplied_more (at tallies kind) (count_of state others kind)) c.add.ensures.added
          ∙ supplied_next state (census_of c.loop-object.self) object others kind
          ∙ ap (λ objects. supplied_more (tally_in c.loop-object.self kind) (count_of state objects kind)) (sym items)
          ∙ c.loop-object.invariant.1 kind),
      omega arith,
      c.add.ensures.keeping ∙ c.loop-object.invariant.3,
    )

pub returns-clause-ok : goal.returns-clause-ok
returns-clause-ok g c = λ kind.
    let state = g.C.Chare.state in
    let none : c.loop-object.object-iterator.rest.len ≡ 0 = search rules in
    let items : c.loop-object.object-iterator.rest.items ≡ [] = nil_from_length _ (sym c.loop-object.invariant.2 ∙ none) in
    sym (supplied_none (tally_in c.loop-object.self kind))
    ∙ ap (λ objects. supplied_more (tally_in c.loop-object.self kind) (count_of state objects kind)) (sym items)
    ∙ c.loop-object.invariant.1 kind
    ∙ ap (λ objects. supplied_more (tally_in c.reserve.new.self kind) (count_of state objects kind)) c.into_iter-object-iterator.ensures.into_iter_gives.0
    ∙ ap (λ (tallies : ByKind Tally). supplied_more (at tallies kind) (count_of state c.args.blanks.items kind)) c.reserve.ensures.same
