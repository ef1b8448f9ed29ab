use Rattle.std.proofs.Common.{rules, ◌≡◌, ◌+◌, ◌-◌, ◌<◌, ◌≤◌, sym, ap, subst, ◌∙◌, arith}
use Rattle.charmlet_stock.specs.declared.by_kind.ByKind.{ByKind}
use Rattle.charmlet_stock.specs.declared.pile.Tally.{Tally}
use Rattle.charmlet_stock.specs.ByKind.{at, with_at}
use Rattle.charmlet_stock.specs.Pile.{with_out}
use Rattle.charmlet_stock.specs.Stock.{census_of, part_of, tally_in}
use Rattle.charmlet_stock.proofs.Room.{at_again, changed_again, out_again, out_none, with_same}
use Rattle.charmlet_cli_workers.proofs.Takings.{left_of}
use Rattle.charmlet_cli_workers.proofs.supply.taken_from.Goals as goal

pub loop-init : goal.loop-init
loop-init g c =
    let k = c.args.kind in
    let first = census_of c.args.source.now in (
      omega (arith, c.in_ok-blanks.ensures),
      omega (arith, c.in_ok-blanks.ensures),
      with_same first k ∙ ap (with_at first k) (sym (out_none (tally_in c.args.source.now k))),
    )

pub unreachable-requires : goal.unreachable-requires
unreachable-requires g c =
    let k = c.args.kind in
    let first = census_of c.args.source.now in
    let none = (c.take.ensures.none c.in_default.is).0 in
    let here : tally_in c.loop.source k ≡ with_out (tally_in c.args.source.now k) c.loop.counter =
    ap (λ (v : ByKind Tally). at v k) c.loop.invariant.2 ∙ at_again first k (with_out (tally_in c.args.source.now k) c.loop.counter) in
    let left : (tally_in c.loop.source k).in_stock ≡ (tally_in c.args.source.now k).in_stock - c.loop.counter = ap (λ (t : Tally). t.in_stock) here in
    let enough = c.requires in
    let more : c.loop.counter < c.args.count = c.loop-test.true in
    omega arith

pub returns : goal.returns
returns g c = λ k.
    let kind = c.args.kind in
    let first = census_of c.args.source.now in
    let all : c.loop.counter ≡ c.args.count = search rules in
    let taken : census_of c.loop.source ≡ with_at first kind (with_out (at first kind) c.args.count) = c.loop.invariant.2 ∙ ap (λ n. with_at first kind (with_out (at first kind) n)) all in
    subst (λ (v : ByKind Tally). (at first k).in_stock ≤ (at v k).in_stock + part_of kind c.args.count k) (sym taken) (left_of first kind c.args.count k)

pub loop-preserved : goal.loop-preserved
loop-preserved g c =
    let k = c.args.kind in
    let n = c.loop.counter in
    let first = census_of c.args.source.now in
    let taken : census_of c.take.new.self ≡ with_at (census_of c.loop.source) k (with_out (tally_in c.loop.source k) 1) = search rules in
    let there : tally_in c.loop.source k ≡ with_out (tally_in c.args.source.now k) n =
    ap (λ (v : ByKind Tally). at v k) c.loop.invariant.2 ∙ at_again first k (with_out (tally_in c.args.source.now k) n) in (
      search rules,
      search rules,
      changed_again first (census_of c.loop.source) (census_of c.take.new.self) k _ _ c.loop.invariant.2
          (taken ∙ ap (with_at (census_of c.loop.source) k) (ap (λ t. with_out t 1) there ∙ out_again (tally_in c.args.source.now k) n)),
    )
