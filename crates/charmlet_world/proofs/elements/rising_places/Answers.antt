use Rattle.std.proofs.Common.{rules, refl, ◌≡◌, ◌-◌, suc, sym, ap, ◌∙◌, arith, drop, slice_get}
use Rattle.std.specs.Prelude.{Some, None, IfSome}
use Rattle.std.specs.BTreeMap.{insert_entry}
use Rattle.charmlet_model.specs.Names.{elem_cmp}
use Rattle.charmlet_world.specs.Standing.{places_of, risen}
use Rattle.charmlet_world.proofs.Places.{never_placed, no_more_place, one_more_place}
use Rattle.charmlet_world.proofs.elements.rising_places.Goals as goal

pub loop-index-preserved : goal.loop-index-preserved
loop-index-preserved c =
    let es = c.args.rows.now.entries in
    let i = c.loop-index.index - 1 in
    let x = c.in-Some.elem.now in
    let e = c.in-Some.element.now in
    let at : slice_get es i ≡ Some (x, e) = sym c.in-Some.ensures.entry in
    let step : c.loop-index.index ≡ suc i = omega (arith, c.loop-index-test.true) in
    let before : c.loop-index.tree.entries ≡ places_of (risen (drop (suc i) es)) = c.loop-index.invariant.so_far ∙ ap (λ k. places_of (risen (drop k es))) step in
    record {
      within = omega (arith, c.loop-index.invariant.within);
      so_far = elim e.place as (λ o. e.place ≡ o → IfSome o (λ place. c.put_place.new.tree.entries ≡ insert_entry elem_cmp c.loop-index.tree.entries x place) → c.put_place.new.tree.entries ≡ places_of (risen (drop i es))) [
        | None ↦ λ none _. c.in_ok-put_place.ensures.none none ∙ before ∙ sym (no_more_place es i x e c.len-index.ensures.unique at none)
        | Some place ↦ λ is put. put ∙ ap (λ ps. insert_entry elem_cmp ps x place) before ∙ sym (one_more_place es i x e place at is)
      ] refl c.in_ok-put_place.ensures.some;
    }

pub returns-in_err-put_place-clause-nothing : goal.returns-in_err-put_place-clause-nothing
returns-in_err-put_place-clause-nothing c = λ nothing.
    let es = c.args.rows.now.entries in
    let none = never_placed es (c.loop-index.index - 1) c.in-Some.elem.now c.in-Some.element.now c.len-index.ensures.unique (sym c.in-Some.ensures.entry) nothing in
    let ok = c.in_err-put_place.ensures.nothing none in
    search rules
