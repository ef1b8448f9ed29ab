use Rattle.std.proofs.Common.{◌≡◌, ◌-◌, List, suc, sym, ap, ◌∙◌, arith, drop, if◌then◌else◌}
use Rattle.std.specs.BTreeMap.{insert_entry}
use Rattle.charmlet_model.specs.declared.names.Elem.{Elem}
use Rattle.charmlet_model.specs.Names.{elem_cmp}
use Rattle.charmlet_world.specs.declared.element.Element.{Element}
use Rattle.charmlet_world.specs.Standing.{is_left, left_of, risen}
use Rattle.charmlet_world.proofs.Left.{one_more_left}
use Rattle.charmlet_world.proofs.elements.rising_left.Goals as goal

pub loop-index-preserved : goal.loop-index-preserved
loop-index-preserved c =
    let es = c.args.rows.now.entries in
    let i = c.loop-index.index - 1 in
    let x = c.in-Some.elem.now in
    let e = c.in-Some.element.now in
    let step : c.loop-index.index ≡ suc i = omega (arith, c.loop-index-test.true) in
    let before : c.loop-index.tree.entries ≡ left_of (risen (drop (suc i) es)) = c.loop-index.invariant.so_far ∙ ap (λ k. left_of (risen (drop k es))) step in
    record {
      within = omega (arith, c.loop-index.invariant.within);
      so_far = c.in_ok-put_left.ensures
          ∙ ap (λ (t : List (Elem × Element)). if is_left e then insert_entry elem_cmp t x e else t) before
          ∙ sym (one_more_left es i x e c.len-index.ensures.unique (sym c.in-Some.ensures.entry));
    }
