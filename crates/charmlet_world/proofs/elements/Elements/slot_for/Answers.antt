use Rattle.std.proofs.Common.{◌≡◌, ◌++◌, ◌∷◌, [], sym, ap, ◌∙◌, slice_get, Some, None, true, false}
use Rattle.std.specs.Prelude.{is_some, unwrap_or}
use Rattle.std.specs.BTreeMap.{insert_entry}
use Rattle.std.specs.Map.{lookup}
use Rattle.indexmap.specs.IndexMap.{set_value_at}
use Rattle.indexmap.proofs.CallerLemmas.{insert_entry-new}
use Rattle.charmlet_model.specs.Names.{elem_cmp, same_elem}
use Rattle.charmlet_world.specs.Standing.{Standing, element_in, no_element, risen, with_row}
use Rattle.charmlet_world.specs.declared.element.Element.{Element}
use Rattle.charmlet_world.proofs.Risen.{risen-new, risen-same}
use Rattle.charmlet_world.proofs.Rows.{inserted_at, put_back, stood_at, with_new_row, with_same_row}
use Rattle.charmlet_world.proofs.elements.Elements.slot_for.Goals as goal

pub returns-in-Some-clause-entries : goal.returns-in-Some-clause-entries
returns-in-Some-clause-entries c =
    with_same_row c.args.elem c.args.self.now.entries (ap (λ (s : Standing). is_some (lookup (same_elem c.args.elem) s.entries)) (sym c.self.view_is) ∙ c.in-Some.ensures.which)

pub returns-in-Some-clause-risen : goal.returns-in-Some-clause-risen
returns-in-Some-clause-risen c =
    risen-same c.args.elem c.args.self.now.entries (ap (λ (s : Standing). is_some (lookup (same_elem c.args.elem) s.entries)) (sym c.self.view_is) ∙ c.in-Some.ensures.which)

pub returns-in_err-index-clause-there : goal.returns-in_err-index-clause-there
returns-in_err-index-clause-there c = λ there.
    let no : false ≡ true = sym (ap is_some c.in_err-index.ensures.absent) ∙ ap (λ (s : Standing). is_some (lookup (same_elem c.args.elem) s.entries)) c.self.view_is ∙ there in
    let never : ⊥ = cc in absurd never

-- ---- a new row

after : (c : goal.In_default-was) → c.insert_full.new.self.entries ≡ c.self.inside.rows.entries ++ (c.args.elem, no_element) ∷ []
after c =
    c.in_ok-index.ensures.entries ∙ insert_entry-new same_elem c.self.inside.rows c.args.elem c.new.result (sym c.in_ok-index.ensures.old ∙ c.in_default-was.is)
    ∙ ap (λ (e : Element). c.self.inside.rows.entries ++ (c.args.elem, e) ∷ []) c.new.ensures

pub returns-in_default-was-clause-found : goal.returns-in_default-was-clause-found
returns-in_default-was-clause-found c =
    let es = c.self.inside.rows.entries in
    let x = c.args.elem in
    let none : lookup (same_elem x) es ≡ None = sym c.in_ok-index.ensures.old ∙ c.in_default-was.is in
    (λ i. slice_get (c.in_ok-index.ensures.entries i) (c.in_ok-index.ensures.index i))
    ∙ inserted_at x c.new.result es
    ∙ (λ i. Some (x, c.new.ensures i))
    ∙ ap (λ o. Some (x, unwrap_or o no_element)) (sym none)
    ∙ ap (λ (s : Standing). Some (x, element_in s.entries x)) c.self.view_is

pub returns-in_default-was-clause-entries : goal.returns-in_default-was-clause-entries
returns-in_default-was-clause-entries c =
    after c ∙ with_new_row c.args.elem c.self.inside.rows.entries (sym c.in_ok-index.ensures.old ∙ c.in_default-was.is)
    ∙ ap (λ (s : Standing). with_row s.entries c.args.elem) c.self.view_is

pub returns-in_default-was-clause-risen : goal.returns-in_default-was-clause-risen
returns-in_default-was-clause-risen c =
    ap risen (after c) ∙ risen-new c.args.elem c.self.inside.rows.entries (sym c.in_ok-index.ensures.old ∙ c.in_default-was.is)
    ∙ ap (λ (s : Standing). insert_entry elem_cmp (risen s.entries) c.args.elem (element_in s.entries c.args.elem)) c.self.view_is

-- ---- a row that was there

whole : (c : goal.After-set) → c.set.new.self.entries ≡ c.self.inside.rows.entries
whole c =
    c.set.ensures.entries
    ∙ (λ i. set_value_at (c.in_ok-index.ensures.entries i) (c.in_ok-index.ensures.index i) c.in-Some-was.element)
    ∙ put_back c.args.elem c.new.result c.in-Some-was.element c.self.inside.rows.entries (sym c.in_ok-index.ensures.old ∙ c.in-Some-was.is)

pub returns-clause-found : goal.returns-clause-found
returns-clause-found c =
    let es = c.self.inside.rows.entries in
    let x = c.args.elem in
    let was = c.in-Some-was.element in
    let at : lookup (same_elem x) es ≡ Some was = sym c.in_ok-index.ensures.old ∙ c.in-Some-was.is in
    (λ i. slice_get (whole c i) (c.in_ok-index.ensures.index i)) ∙ stood_at x c.new.result was es at ∙ ap (λ o. Some (x, unwrap_or o no_element)) (sym at)
    ∙ ap (λ (s : Standing). Some (x, element_in s.entries x)) c.self.view_is

pub returns-clause-entries : goal.returns-clause-entries
returns-clause-entries c =
    whole c ∙ with_same_row c.args.elem c.self.inside.rows.entries (ap is_some (sym c.in_ok-index.ensures.old ∙ c.in-Some-was.is))
    ∙ ap (λ (s : Standing). with_row s.entries c.args.elem) c.self.view_is

pub returns-clause-risen : goal.returns-clause-risen
returns-clause-risen c =
    ap risen (whole c) ∙ risen-same c.args.elem c.self.inside.rows.entries (ap is_some (sym c.in_ok-index.ensures.old ∙ c.in-Some-was.is))
    ∙ ap (λ (s : Standing). insert_entry elem_cmp (risen s.entries) c.args.elem (element_in s.entries c.args.elem)) c.self.view_is
