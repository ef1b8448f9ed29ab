use Rattle.std.proofs.Common.{rules, ◌≡◌, ◌+◌, ◌-◌, ◌<◌, refl, sym, ap, subst, ◌∙◌, arith}
use Rattle.charmlet_model.specs.Reaction.{kind_of}
use Rattle.charmlet_stock.specs.declared.by_kind.ByKind.{ByKind}
use Rattle.charmlet_stock.specs.declared.pile.Tally.{Tally}
use Rattle.charmlet_stock.specs.ByKind.{at, with_at}
use Rattle.charmlet_stock.specs.Pile.{HasRoomFor, supplied_more, with_out}
use Rattle.charmlet_stock.specs.Stock.{census_of, tally_in}
use Rattle.charmlet_stock.proofs.Room.{at_again, changed_again, less_room, out_again, out_none, supplied_again, supplied_none, with_same}
use Rattle.charmlet_stock.proofs.stock.Stock.transfer_from.Goals as goal

pub loop-init : goal.loop-init
loop-init g c =
    let k = c.args.kind in (
      subst (HasRoomFor (at c.reserve_of.new.self.piles k)) (omega arith) c.in_ok-reserve_of.ensures.ok,
      with_same (census_of c.reserve_of.new.self) k ∙ ap (with_at (census_of c.reserve_of.new.self) k) (sym (supplied_none (tally_in c.reserve_of.new.self k))),
      with_same (census_of c.args.source.now) k ∙ ap (with_at (census_of c.args.source.now) k) (sym (out_none (tally_in c.args.source.now k))),
      refl,
      refl,
    )

pub unreachable-requires : goal.unreachable-requires
unreachable-requires g c =
    let k = c.args.kind in
    let none = (c.take.ensures.none c.in_default.is).0 in
    let here : tally_in c.loop.source k ≡ with_out (tally_in c.args.source.now k) c.loop.counter =
    ap (λ (v : ByKind Tally). at v k) c.loop.invariant.2 ∙ at_again (census_of c.args.source.now) k (with_out (tally_in c.args.source.now k) c.loop.counter) in
    let left : (tally_in c.loop.source k).in_stock ≡ (tally_in c.args.source.now k).in_stock - c.loop.counter = ap (λ (t : Tally). t.in_stock) here in
    let enough = c.requires in
    let more : c.loop.counter < c.args.count = c.loop-test.true in
    omega arith

pub add-requires-after_bounds : goal.add-requires-after_bounds
add-requires-after_bounds g c κs within =
    let k = c.args.kind in
    let is : kind_of (g.C.Chare.state c.in-Some.blank) ≡ k = search rules in
    let more : c.loop.counter < c.args.count = c.loop-test.true in
    subst (λ j. HasRoomFor (at c.loop.self.piles j) 1) (sym is) (less_room (at c.loop.self.piles k) 1 (c.args.count - c.loop.counter) (omega arith) c.loop.invariant.0)

pub loop-preserved : goal.loop-preserved
loop-preserved g c =
    let k = c.args.kind in
    let n = c.loop.counter in
    let first = census_of c.reserve_of.new.self in
    let is : kind_of (g.C.Chare.state c.in-Some.blank) ≡ k = search rules in
    let more : n < c.args.count = c.loop-test.true in
    let added : census_of c.add.new.self ≡ with_at (census_of c.loop.self) k (supplied_more (tally_in c.loop.self k) 1) =
    subst (λ j. census_of c.add.new.self ≡ with_at (census_of c.loop.self) j (supplied_more (tally_in c.loop.self j) 1)) is c.add.ensures.added in
    let here : tally_in c.loop.self k ≡ supplied_more (at first k) n = ap (λ (v : ByKind Tally). at v k) c.loop.invariant.1 ∙ at_again first k (supplied_more (at first k) n) in
    let taken : census_of c.take.new.self ≡ with_at (census_of c.loop.source) k (with_out (tally_in c.loop.source k) 1) = search rules in
    let there : tally_in c.loop.source k ≡ with_out (tally_in c.args.source.now k) n =
    ap (λ (v : ByKind Tally). at v k) c.loop.invariant.2 ∙ at_again (census_of c.args.source.now) k (with_out (tally_in c.args.source.now k) n) in
    let room : HasRoomFor (at c.loop.self.piles k) (c.args.count - (n + 1) + 1) = subst (HasRoomFor (at c.loop.self.piles k)) (omega arith) c.loop.invariant.0 in (
      subst (λ j. HasRoomFor (at c.loop.self.piles j) (c.args.count - (n + 1) + 1) → HasRoomFor (at c.add.new.self.piles j) (c.args.count - (n + 1))) is (c.add.ensures.room (c.args.count - (n + 1))) room,
      changed_again first (census_of c.loop.self) (census_of c.add.new.self) k _ _ c.loop.invariant.1
          (added ∙ ap (with_at (census_of c.loop.self) k) (ap (λ t. supplied_more t 1) here ∙ supplied_again (at first k) n)),
      changed_again (census_of c.args.source.now) (census_of c.loop.source) (census_of c.take.new.self) k _ _ c.loop.invariant.2
          (taken ∙ ap (with_at (census_of c.loop.source) k) (ap (λ t. with_out t 1) there ∙ out_again (tally_in c.args.source.now k) n)),
      c.add.ensures.keeping ∙ c.loop.invariant.3,
      c.take.ensures.keeping ∙ c.loop.invariant.4,
    )

pub returns-clause-drawn : goal.returns-clause-drawn
returns-clause-drawn g c =
    let k = c.args.kind in
    let all : c.loop.counter ≡ c.args.count = search rules in
    let same : census_of c.reserve_of.new.self ≡ census_of c.args.self.now = c.reserve_of.ensures.same in
    c.loop.invariant.1 ∙ ap (λ n. with_at (census_of c.reserve_of.new.self) k (supplied_more (tally_in c.reserve_of.new.self k) n)) all
    ∙ ap (λ (v : ByKind Tally). with_at v k (supplied_more (at v k) c.args.count)) same

pub returns-clause-left : goal.returns-clause-left
returns-clause-left g c =
    let k = c.args.kind in
    let all : c.loop.counter ≡ c.args.count = search rules in
    c.loop.invariant.2 ∙ ap (λ n. with_at (census_of c.args.source.now) k (with_out (tally_in c.args.source.now k) n)) all
