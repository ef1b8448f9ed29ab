-- Records with one written over them.
use Rattle.std.proofs.Common.{◌≡◌, Bool, true, false, cond, List, [], ◌∷◌, refl, sym, ap, subst, ◌∙◌}
use Rattle.std.specs.Prelude.{Option, Some, None, IsSome, is_some, option_map}
use Rattle.std.specs.declared.cmp.Ordering.{Ordering}
use Rattle.std.specs.declared.cmp.Ordering.TheVariants.{Less, Equal, Greater}
use Rattle.std.specs.Ordering.{eq_by_cmp, match_ordering}
use Rattle.std.specs.BTreeMap.{insert_entry, is_at}
use Rattle.std.specs.List.Sorted.{IsStrictlySortedBy}
use Rattle.std.specs.Map.{lookup, keys_of, set_value, remove_entry}
use Rattle.std.proofs.lemmas.Cmp.{eq_by_cmp_equiv}
use Rattle.std.proofs.lemmas.Map.{keys-set_value, lookup-set_value}
use Rattle.std.proofs.lemmas.Map.Made.{lookup-map_values}
use Rattle.charmlet_model.specs.declared.names.Elem.{Elem}
use Rattle.charmlet_model.specs.declared.state.Record.{Record}
use Rattle.charmlet_model.specs.declared.state.Resident.{Resident}
use Rattle.charmlet_model.specs.declared.state.State.{State}
use Rattle.charmlet_model.specs.Names.{elem_cmp}
use Rattle.charmlet_model.specs.Shelves.{if_there, record_in, records_of}
use Rattle.charmlet_model.proofs.Maps.{elem_exact, elem_total, lookup-insert_entry, rising-insert_entry, same_maps}
use Rattle.charmlet_model.proofs.Removals.{lookup-removed, rising-removed}
use Rattle.charmlet_shelf.specs.Shelf.{with_record}
use Rattle.std.proofs.lemmas.Map.Views.{tells_apart}

abbrev pub Rising : {X : Type 0} → List (Elem × X) → Type 0
Rising es = IsStrictlySortedBy elem_cmp (keys_of es)

-- what is found of an element
abbrev pub at : {X : Type 0} → List (Elem × X) → Elem → Option X
at es x = lookup (is_at (elem_cmp x)) es

-- entries that are found alike are equal
pub alike : {X : Type 0} (es fs : List (Elem × X)) → Rising es → Rising fs → ((q : Elem) → at es q ≡ at fs q) → es ≡ fs
alike es fs = same_maps elem_cmp elem_total elem_exact es fs

-- ---- one record over the others

module _ (rs : List (Elem × Record)) (rising : Rising rs) (x : Elem) where
  pub found_with : (q : Elem) (r : Record) → at (with_record rs x r) q ≡ cond (eq_by_cmp elem_cmp q x) (if_there r) (at rs q)
  found_with q r = elim (is_some r.state) as (λ b. at (cond b (insert_entry elem_cmp rs x r) (remove_entry (is_at (elem_cmp x)) rs)) q ≡ cond (eq_by_cmp elem_cmp q x) (cond b (Some r) None) (at rs q)) [
    | true ↦ lookup-insert_entry elem_cmp elem_total q x r rs
    | false ↦ lookup-removed elem_total q x rs rising
  ]

  pub rising_with : (r : Record) → Rising (with_record rs x r)
  rising_with r = elim (is_some r.state) as (λ b. Rising (cond b (insert_entry elem_cmp rs x r) (remove_entry (is_at (elem_cmp x)) rs))) [
    | true ↦ rising-insert_entry elem_cmp elem_total x r rs rising
    | false ↦ rising-removed elem_cmp (is_at (elem_cmp x)) rs rising
  ]

-- the last of two counts
pub written_over : (rs : List (Elem × Record)) → Rising rs → (x : Elem) (a b : Record) → with_record (with_record rs x a) x b ≡ with_record rs x b
written_over rs rising x a b =
    alike _ _ (rising_with (with_record rs x a) (rising_with rs rising x a) x b) (rising_with rs rising x b)
    (λ q. found_with (with_record rs x a) (rising_with rs rising x a) x q b
    ∙ ap (cond (eq_by_cmp elem_cmp q x) (if_there b)) (found_with rs rising x q a)
    ∙ elim (eq_by_cmp elem_cmp q x) as (λ e. cond e (if_there b) (cond e (if_there a) (at rs q)) ≡ cond e (if_there b) (at rs q)) [ true ↦ refl | false ↦ refl ]
    ∙ sym (found_with rs rising x q b))

-- a record that is there already changes nothing
pub written_same : (rs : List (Elem × Record)) → Rising rs → (x : Elem) (r : Record) → at rs x ≡ if_there r → with_record rs x r ≡ rs
written_same rs rising x r is =
    alike _ _ (rising_with rs rising x r) rising
    (λ q. found_with rs rising x q r
    ∙ elim (eq_by_cmp elem_cmp q x) as (λ e. eq_by_cmp elem_cmp q x ≡ e → cond e (if_there r) (at rs q) ≡ at rs q) [
      | true ↦ λ here. sym is ∙ ap (at rs) (sym (tells_apart elem_exact q x here))
      | false ↦ λ _. refl
    ] refl)

-- ---- what objects show

module _ {C : Type 0} (state : C → State) where
  pub shown_at : (es : List (Elem × Resident C)) (x : Elem) → at (records_of state es) x ≡ option_map (record_in state) (at es x)
  shown_at es x = lookup-map_values (record_in state) (is_at (elem_cmp x)) es

  pub keys_shown : (es : List (Elem × Resident C)) → keys_of (records_of state es) ≡ keys_of es
  keys_shown [] = refl
  keys_shown (e ∷ es) = ap (λ ks. e.0 ∷ ks) (keys_shown es)

  pub rising_shown : (es : List (Elem × Resident C)) → Rising es → Rising (records_of state es)
  rising_shown es rising = subst (IsStrictlySortedBy elem_cmp) (sym (keys_shown es)) rising

  -- one that goes
  pub shown_removed : (es : List (Elem × Resident C)) → Rising es → (x : Elem) (r : Record) → is_some r.state ≡ false →
      records_of state (remove_entry (is_at (elem_cmp x)) es) ≡ with_record (records_of state es) x r
  shown_removed es rising x r gone =
      alike _ _ (rising_shown _ (rising-removed elem_cmp (is_at (elem_cmp x)) es rising)) (rising_with (records_of state es) (rising_shown es rising) x r)
      (λ q. shown_at (remove_entry (is_at (elem_cmp x)) es) q
      ∙ ap (option_map (record_in state)) (lookup-removed elem_total q x es rising)
      ∙ elim (eq_by_cmp elem_cmp q x) as (λ e. option_map (record_in state) (cond e None (at es q)) ≡ cond e None (option_map (record_in state) (at es q))) [ true ↦ refl | false ↦ refl ]
      ∙ (λ i. cond (eq_by_cmp elem_cmp q x) (sym (ap (λ b. cond b (Some r) None) gone) i) (sym (shown_at es q) i))
      ∙ sym (found_with (records_of state es) (rising_shown es rising) x q r))

  -- one that is written
  pub shown_written : (es : List (Elem × Resident C)) → Rising es → (x : Elem) (old new : Resident C) → at es x ≡ Some old →
      records_of state (set_value (is_at (elem_cmp x)) es new) ≡ with_record (records_of state es) x (record_in state new)
  shown_written es rising x old new is =
      let laws = eq_by_cmp_equiv elem_total in
      let written = set_value (is_at (elem_cmp x)) es new in
      let found : IsSome (at es x) = subst IsSome (sym is) refl in
      alike _ _ (rising_shown written (subst (IsStrictlySortedBy elem_cmp) (sym (keys-set_value (is_at (elem_cmp x)) es new)) rising)) (rising_with (records_of state es) (rising_shown es rising) x (record_in state new))
      (λ q. shown_at written q
      ∙ ap (option_map (record_in state)) (lookup-set_value laws (is_at (elem_cmp x)) (λ a b h. laws.congr x a b h) q new es found ∙ ap (λ b. cond b (Some new) (at es q)) (laws.symm x q))
      ∙ elim (eq_by_cmp elem_cmp q x) as (λ e. option_map (record_in state) (cond e (Some new) (at es q)) ≡ cond e (Some (record_in state new)) (option_map (record_in state) (at es q))) [ true ↦ refl | false ↦ refl ]
      ∙ ap (cond (eq_by_cmp elem_cmp q x) (Some (record_in state new))) (sym (shown_at es q))
      ∙ sym (found_with (records_of state es) (rising_shown es rising) x q (record_in state new)))

  pub shown_there : (es : List (Elem × Resident C)) (x : Elem) (resident : Resident C) → at es x ≡ Some resident → at (records_of state es) x ≡ Some (record_in state resident)
  shown_there es x resident is = shown_at es x ∙ ap (option_map (record_in state)) is

  pub shown_nowhere : (es : List (Elem × Resident C)) (x : Elem) → at es x ≡ None → at (records_of state es) x ≡ None
  shown_nowhere es x is = shown_at es x ∙ ap (option_map (record_in state)) is

  -- an element is there exactly where it has an object
  pub there_shown : (es : List (Elem × Resident C)) (x : Elem) → is_some (at (records_of state es) x) ≡ is_some (at es x)
  there_shown es x = ap is_some (shown_at es x) ∙ mapped (at es x)
    where
      mapped : (o : Option (Resident C)) → is_some (option_map (record_in state) o) ≡ is_some o
      mapped None = refl
      mapped (Some r) = refl

  -- objects that show the same are of the same elements
  pub there_alike : (es fs : List (Elem × Resident C)) (x : Elem) → records_of state es ≡ records_of state fs → is_some (at es x) ≡ is_some (at fs x)
  there_alike es fs x same = sym (there_shown es x) ∙ ap (λ rs. is_some (at rs x)) same ∙ there_shown fs x

  -- an object that is written and shows what it showed changes nothing
  pub shown_same : (test : Elem → Bool) (es : List (Elem × Resident C)) (old new : Resident C) → lookup test es ≡ Some old → record_in state new ≡ record_in state old →
      records_of state (set_value test es new) ≡ records_of state es
  shown_same test [] old new found same = refl
  shown_same test (e ∷ es) old new found same =
      elim (test e.0) as (λ b. cond b (Some e.1) (lookup test es) ≡ Some old → records_of state (cond b ((e.0, new) ∷ es) (e ∷ set_value test es new)) ≡ records_of state (e ∷ es)) [
        | true ↦ λ here. ap (λ r. (e.0, r) ∷ records_of state es) (same ∙ ap (record_in state) (let is : old ≡ e.1 = cc in is))
        | false ↦ λ there. ap (λ rs. (e.0, record_in state e.1) ∷ rs) (shown_same test es old new there same)
      ] found

  -- an object comes to its place, whatever else there is
  pub shown_put : (es : List (Elem × Resident C)) (x : Elem) (resident : Resident C) → records_of state (insert_entry elem_cmp es x resident) ≡ insert_entry elem_cmp (records_of state es) x (record_in state resident)
  shown_put [] x resident = refl
  shown_put (e ∷ es) x resident =
      chosen (elem_cmp x e.0) ((x, resident) ∷ e ∷ es) ((e.0, resident) ∷ es) (e ∷ insert_entry elem_cmp es x resident)
      ∙ ap (λ fs. match_ordering (elem_cmp x e.0) ((x, record_in state resident) ∷ (e.0, record_in state e.1) ∷ records_of state es) ((e.0, record_in state resident) ∷ records_of state es) ((e.0, record_in state e.1) ∷ fs)) (shown_put es x resident)
    where
      chosen : (o : Ordering) (a b d : List (Elem × Resident C)) → records_of state (match_ordering o a b d) ≡ match_ordering o (records_of state a) (records_of state b) (records_of state d)
      chosen Less a b d = refl
      chosen Equal a b d = refl
      chosen Greater a b d = refl

  -- and goes
  pub shown_taken : (test : Elem → Bool) (es : List (Elem × Resident C)) → records_of state (remove_entry test es) ≡ remove_entry test (records_of state es)
  shown_taken test [] = refl
  shown_taken test (e ∷ es) =
      elim (test e.0) as (λ b. records_of state (cond b es (e ∷ remove_entry test es)) ≡ cond b (records_of state es) ((e.0, record_in state e.1) ∷ remove_entry test (records_of state es))) [
        | true ↦ refl
        | false ↦ ap (λ fs. (e.0, record_in state e.1) ∷ fs) (shown_taken test es)
      ]

-- what comes where nothing was, and goes, leaves all as it was
pub put_and_taken : {X : Type 0} (es : List (Elem × X)) → Rising es → (x : Elem) (v : X) → at es x ≡ None → remove_entry (is_at (elem_cmp x)) (insert_entry elem_cmp es x v) ≡ es
put_and_taken es rising x v absent =
    let put = rising-insert_entry elem_cmp elem_total x v es rising in
    alike _ _ (rising-removed elem_cmp (is_at (elem_cmp x)) (insert_entry elem_cmp es x v) put) rising
    (λ q. lookup-removed elem_total q x (insert_entry elem_cmp es x v) put
    ∙ ap (cond (eq_by_cmp elem_cmp q x) None) (lookup-insert_entry elem_cmp elem_total q x v es)
    ∙ elim (eq_by_cmp elem_cmp q x) as (λ e. eq_by_cmp elem_cmp q x ≡ e → cond e None (cond e (Some v) (at es q)) ≡ at es q) [
      | true ↦ λ here. sym absent ∙ ap (at es) (sym (tells_apart elem_exact q x here))
      | false ↦ λ _. refl
    ] refl)
