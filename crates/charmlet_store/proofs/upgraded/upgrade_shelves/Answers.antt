use Rattle.std.proofs.Common.{◌≡◌, ℕ, ◌+◌, ◌<◌, suc, List, length, get_or, refl, ap, subst, ◌∙◌, arith}
use Rattle.std.specs.Prelude.{slice_set}
use Rattle.charmlet_shelf.specs.Shelf.{View, is_idle}
use Rattle.charmlet_store.specs.Upgraded.{up_shelf}
use Rattle.charmlet_store.proofs.Upgrades.{firsts, firsts_all, next_of, one_more}
use Rattle.charmlet_store.proofs.upgraded.upgrade_shelves.Goals as goal

pub loop-index-init : goal.loop-index-init
loop-index-init g c = refl

pub upgrade-requires-after_bounds : goal.upgrade-requires-after_bounds
upgrade-requires-after_bounds g c κs within_bounds =
    let old = c.args.shelves.now.items in
    let at = c.loop-index.index in
    let lent = c.index_mut.result.now in
    let within : at < length old = omega (arith, c.loop-index-test.true, c.len-index-end.ensures, c.args.shelves.now.ok.0) in
    let same : lent ≡ get_or old at lent = c.index_mut.ensures.value ∙ ap (λ (xs : List View). get_or xs at lent) c.loop-index.invariant ∙ next_of at old lent in
    ap (λ (v : View). is_idle v.phase) same ∙ ap is_idle (c.requires at lent within)

pub loop-index-preserved : goal.loop-index-preserved
loop-index-preserved g c =
    let old = c.args.shelves.now.items in
    let at = c.loop-index.index in
    let items = c.loop-index.shelves.items in
    let lent = c.index_mut.result.now in
    let within : at < length old = omega (arith, c.loop-index-test.true, c.len-index-end.ensures, c.args.shelves.now.ok.0) in
    let inv : items ≡ firsts at old = c.loop-index.invariant in
    let same : lent ≡ get_or old at lent = c.index_mut.ensures.value ∙ ap (λ (xs : List View). get_or xs at lent) inv ∙ next_of at old lent in
    let made : c.upgrade.new.self ≡ up_shelf (get_or old at lent) = c.upgrade.ensures ∙ ap up_shelf same in
    let next : suc at ≡ at + 1 = omega arith in
    subst (λ (n : ℕ). slice_set items at c.upgrade.new.self ≡ firsts n old) next ((λ i. slice_set (inv i) at (made i)) ∙ one_more at old lent within)

pub returns : goal.returns
returns g c =
    let old = c.args.shelves.now.items in
    let whole : c.loop-index.index ≡ length old = omega (arith, c.loop-index.auto.index-end, c.loop-index-test.false, c.len-index-end.ensures, c.args.shelves.now.ok.0) in
    c.loop-index.invariant ∙ ap (λ (n : ℕ). firsts n old) whole ∙ firsts_all old
