-- What is kept of elements that come back, and the blanks that they take.
use Rattle.std.proofs.Common.{◌≡◌, ℕ, ◌+◌, ◌-◌, ◌<◌, ◌≤◌, ◌==◌, ◌&&◌, Bool, true, false, cond, List, [], ◌∷◌, ◌++◌, length, take, drop, drop-cons, get_or, add-one, suc, refl, sym, ap, subst, ◌∙◌, arith, if◌then◌else◌}
use Rattle.std.specs.Prelude.{Option, Some, None, IsSome, is_some, map, option_map, unwrap_or}
use Rattle.std.specs.declared.cmp.Ordering.{Ordering}
use Rattle.std.specs.declared.cmp.Ordering.TheVariants.{Less, Equal, Greater}
use Rattle.std.specs.Ordering.{is_eq, match_ordering, nat_cmp, ordering_reverse}
use Rattle.std.specs.BTreeMap.{insert_entry, is_at}
use Rattle.std.specs.List.{AllByRecursion}
use Rattle.std.specs.List.Sorted.{IsStrictlySortedBy}
use Rattle.std.specs.Map.{keys_of, lookup}
use Rattle.charmlet_model.specs.declared.names.Elem.{Elem}
use Rattle.charmlet_model.specs.declared.kind.Kind.{Kind}
use Rattle.charmlet_model.specs.declared.kind_version.KindVersion.{KindVersion}
use Rattle.charmlet_model.specs.declared.state.Record.{Record}
use Rattle.charmlet_model.specs.Core.{Blanks, with_taken}
use Rattle.charmlet_model.specs.Kind.{kind_number}
use Rattle.charmlet_model.specs.KindVersion.{kind_of_version}
use Rattle.charmlet_model.specs.Names.{elem_cmp}
use Rattle.charmlet_model.specs.Unpacked.{state_at}
use Rattle.charmlet_model.proofs.Maps.{elem_exact, elem_total}
use Rattle.charmlet_history.specs.Opened.{opened_element, opened_elements}
use Rattle.charmlet_image.specs.declared.entries.Entry.{Entry}
use Rattle.charmlet_image.specs.Reading.{kind_version_in}
use Rattle.charmlet_image.specs.Views.{entry_said}
use Rattle.charmlet_image.specs.Written.{AreRecords, IsEntry}
use Rattle.charmlet_record.specs.Reading.{Kinds}
use Rattle.charmlet_recovery.specs.Blanks.{array_is, is_of, one_if, wanted_by_records}
use Rattle.charmlet_migrate.proofs.Assigning.{same_kind}
use Rattle.std.specs.Cmp.{nat_eq_equiv}
use Rattle.std.proofs.lemmas.List.{map-append, take-append-drop, take_more}
use Rattle.charmlet_model.specs.declared.kind_version.KindVersion.TheVariants.{Counter}
use Rattle.charmlet_chare.specs.declared.chare.Chare.{Ghosts}
use Rattle.charmlet_stock.specs.Stock.{blanks_in, supplied_to}
use Rattle.charmlet_shard.specs.RestoredShard.{IsHeld, IsRestored}
use Rattle.charmlet_shard.specs.declared.restored_shard.RestoredShard.{RestoredShard}

-- ---- one record more is kept as one element more

pub opened_insert : (n : ℕ) (records : List (Elem × Record)) (x : Elem) (r : Record) → opened_elements n (insert_entry elem_cmp records x r) ≡ insert_entry elem_cmp (opened_elements n records) x (opened_element n x r)
opened_insert n [] x r = refl
opened_insert n (e ∷ es) x r = by (elem_cmp x e.0) (λ equal. elem_exact x e.0 equal) (opened_insert n es x r)
  where
    by : (o : Ordering) → (o ≡ Equal → x ≡ e.0) → opened_elements n (insert_entry elem_cmp es x r) ≡ insert_entry elem_cmp (opened_elements n es) x (opened_element n x r) →
        opened_elements n (match_ordering o ((x, r) ∷ e ∷ es) ((e.0, r) ∷ es) (e ∷ insert_entry elem_cmp es x r))
        ≡ match_ordering o ((x, opened_element n x r) ∷ (e.0, opened_element n e.0 e.1) ∷ opened_elements n es) ((e.0, opened_element n x r) ∷ opened_elements n es)
        ((e.0, opened_element n e.0 e.1) ∷ insert_entry elem_cmp (opened_elements n es) x (opened_element n x r))
    by Less same rest = refl
    by Equal same rest = ap (λ y. (e.0, opened_element n y r) ∷ opened_elements n es) (sym (same refl))
    by Greater same rest = ap (λ fs. (e.0, opened_element n e.0 e.1) ∷ fs) rest

-- ---- blanks

-- a blank of the kind version of an array that is known
pub taken_of_array : (blanks : Blanks) (manifest : Kinds) (array : ℕ) (k : KindVersion) (b : Bool) → lookup (is_at (nat_cmp array)) manifest ≡ Some k → (b ≡ true → 1 ≤ blanks (kind_of_version k)) → (kind : Kind) →
    with_taken (if b then Some k else None) blanks kind + one_if (b && array_is manifest kind array) ≡ blanks kind
taken_of_array blanks manifest array k false is some kind = omega arith
taken_of_array blanks manifest array k true is some kind =
    ap (λ o. with_taken (Some k) blanks kind + one_if (is_of kind o)) is
    ∙ elim (kind_number kind == kind_number (kind_of_version k)) as (λ b. (kind_number kind == kind_number (kind_of_version k)) ≡ b → cond b (blanks kind - 1) (blanks kind) + one_if b ≡ blanks kind) [
      | true ↦ λ same. let one : 1 ≤ blanks kind = subst (λ j. 1 ≤ blanks j) (sym (same_kind kind (kind_of_version k) same)) (some refl) in omega arith
      | false ↦ λ _. omega arith
    ] refl

-- ---- entries that rise

at_middle : {K X : Type 0} (P : K → Type 0) (es : List (K × X)) (k : K) (x : X) (rest : List (K × X)) → AllByRecursion P (keys_of (es ++ (k, x) ∷ rest)) → P k
at_middle P [] k x rest all = all.0
at_middle P (e ∷ es) k x rest all = at_middle P es k x rest all.1

-- each one comes after those before it
abbrev IsAbove : List (Elem × Record) → Elem → Type 0
IsAbove es x = AllByRecursion (λ y. elem_cmp x y ≡ Greater) (keys_of es)

above : (es : List (Elem × Record)) (x : Elem) (r : Record) (rest : List (Elem × Record)) → IsStrictlySortedBy elem_cmp (keys_of (es ++ (x, r) ∷ rest)) → IsAbove es x
unfolding IsStrictlySortedBy
above [] x r rest rising = tt
above (e ∷ es) x r rest rising = (elem_total.antisymm x e.0 ∙ ap ordering_reverse (at_middle (λ y. elem_cmp e.0 y ≡ Less) es x r rest rising.0), above es x r rest rising.1)

last_of : (es : List (Elem × Record)) (x : Elem) (r : Record) → IsAbove es x → insert_entry elem_cmp es x r ≡ es ++ (x, r) ∷ []
last_of [] x r h = refl
last_of (e ∷ es) x r h =
    ap (λ o. match_ordering o ((x, r) ∷ e ∷ es) ((e.0, r) ∷ es) (e ∷ insert_entry elem_cmp es x r)) h.0
    ∙ ap (λ (more : List (Elem × Record)). e ∷ more) (last_of es x r h.1)

-- and isn't among them
none_of : (es : List (Elem × Record)) (x : Elem) → IsAbove es x → lookup (is_at (elem_cmp x)) es ≡ None
none_of [] x h = refl
none_of (e ∷ es) x h = ap (λ o. cond (is_eq o) (Some e.1) (lookup (is_at (elem_cmp x)) es)) h.0 ∙ none_of es x h.1

-- ---- the entries of an image that came back

abbrev said : Kinds → List Entry → List (Elem × Record)
said manifest = map (entry_said manifest)

wanted_after : (manifest : Kinds) (kind : Kind) (xs ys : List (Elem × Record)) → wanted_by_records manifest kind (xs ++ ys) ≡ wanted_by_records manifest kind xs + wanted_by_records manifest kind ys
wanted_after manifest kind [] ys = omega arith
wanted_after manifest kind (e ∷ xs) ys = let more = wanted_after manifest kind xs ys in omega arith

-- an object that is packed is a state
packed_some : (manifest : Kinds) (e : Entry) → is_some (entry_said manifest e).1.state ≡ is_some e.packed
packed_some manifest e = mapped (λ packed. state_at (kind_version_in manifest e.element.array) packed.now) e.packed
  where
    mapped : {A B : Type 0} (f : A → B) (o : Option A) → is_some (option_map f o) ≡ is_some o
    mapped f None = refl
    mapped f (Some x) = refl

-- These entries came back, and the blanks that their objects took are gone.
pub record Brought {C : Type 0} {G : Ghosts C} (manifest : Kinds) (old : RestoredShard C G) (front : List Entry) (now : RestoredShard C G) : Type 0 where
  pub held : IsHeld now
  pub restored : IsRestored (said manifest front) now
  pub taken : (kind : Kind) → blanks_in now.stock kind + wanted_by_records manifest kind (said manifest front) ≡ blanks_in old.stock kind
  pub processors : now.processors ≡ old.processors
  pub supplied : supplied_to now.stock ≡ supplied_to old.stock

module _ {C : Type 0} {G : Ghosts C} (manifest : Kinds) (old : RestoredShard C G) (entries : List Entry) (i : ℕ) (e : Entry) (lt : i < length entries) (is : e ≡ get_or entries i e)
    (good : AreRecords manifest (said manifest entries)) (now : RestoredShard C G) (way : Brought manifest old (take i entries) now) where
  abbrev front : List Entry
  front = take i entries

  abbrev later : List Entry
  later = drop (i + 1) entries

  whole : entries ≡ front ++ e ∷ later
  whole = sym (take-append-drop i entries) ∙ ap (λ es. take i entries ++ es) (drop-cons entries i e lt ∙ ap (λ y. y ∷ drop (suc i) entries) (sym is) ∙ ap (λ (k : ℕ). e ∷ drop k entries) (sym (add-one i)))

  all_said : said manifest entries ≡ said manifest front ++ entry_said manifest e ∷ said manifest later
  all_said = ap (said manifest) whole ∙ map-append (entry_said manifest) front (e ∷ later)

  is_above : IsAbove (said manifest front) e.element
  is_above = above (said manifest front) e.element (entry_said manifest e).1 (said manifest later) (subst (λ es. IsStrictlySortedBy elem_cmp (keys_of es)) all_said good.rising)

  pub is_unknown : lookup (is_at (elem_cmp e.element)) (said manifest front) ≡ None
  is_unknown = none_of (said manifest front) e.element is_above

  its_entry : IsEntry manifest (entry_said manifest e)
  its_entry = at_place (said manifest front) (subst (AllByRecursion (IsEntry manifest)) all_said good.each)
    where
      at_place : (es : List (Elem × Record)) → AllByRecursion (IsEntry manifest) (es ++ entry_said manifest e ∷ said manifest later) → IsEntry manifest (entry_said manifest e)
      at_place [] h = h.0
      at_place (x ∷ es) h = at_place es h.1

  pub is_known_array : IsSome (lookup (is_at (nat_cmp e.element.array)) manifest)
  is_known_array = its_entry.0.1

  -- there is a blank for it
  pub has_blank : ((kind : Kind) → wanted_by_records manifest kind (said manifest entries) ≤ blanks_in old.stock kind) → is_some e.packed ≡ true →
      1 ≤ blanks_in now.stock (kind_of_version (kind_version_in manifest e.element.array))
  has_blank enough packed =
      let kind = kind_of_version (kind_version_in manifest e.element.array) in
      let all = enough kind in
      let sum = ap (wanted_by_records manifest kind) all_said ∙ wanted_after manifest kind (said manifest front) (entry_said manifest e ∷ said manifest later) in
      let one : one_if (is_some (entry_said manifest e).1.state && array_is manifest kind e.element.array) ≡ 1 =
      (λ i. one_if ((packed_some manifest e ∙ packed) i && own (lookup (is_at (nat_cmp e.element.array)) manifest) is_known_array i)) in
      let before = way.taken kind in
      omega arith
    where
      own : (o : Option KindVersion) → IsSome o → is_of (kind_of_version (unwrap_or o Counter)) o ≡ true
      own None h = absurd (let never : ⊥ = cc in never)
      own (Some k) h = nat_eq_equiv.refl (kind_number (kind_of_version k))

  -- it comes back too
  pub one_brought : (new : RestoredShard C G) → IsHeld new → IsRestored (insert_entry elem_cmp (said manifest front) e.element (entry_said manifest e).1) new →
      ((kind : Kind) → blanks_in new.stock kind + one_if (is_some e.packed && array_is manifest kind e.element.array) ≡ blanks_in now.stock kind) → new.processors ≡ now.processors → supplied_to new.stock ≡ supplied_to now.stock →
      Brought manifest old (take (i + 1) entries) new
  one_brought new held restored taken processors supplied =
      let list : take (i + 1) entries ≡ front ++ e ∷ [] = take_more entries i e lt ∙ ap (λ y. take i entries ++ y ∷ []) (sym is) in
      let records : said manifest (front ++ e ∷ []) ≡ said manifest front ++ entry_said manifest e ∷ [] = map-append (entry_said manifest) front (e ∷ []) in
      subst (λ es. Brought manifest old es new) (sym list) (record {
        held = held;
        restored = subst (λ rs. IsRestored rs new) (last_of (said manifest front) e.element (entry_said manifest e).1 is_above ∙ sym records) restored;
        taken = λ kind.
            let one = taken kind in
            let before = way.taken kind in
            let sum = ap (wanted_by_records manifest kind) records ∙ wanted_after manifest kind (said manifest front) (entry_said manifest e ∷ []) in
            let same : one_if (is_some (entry_said manifest e).1.state && array_is manifest kind e.element.array) ≡ one_if (is_some e.packed && array_is manifest kind e.element.array) =
            ap (λ b. one_if (b && array_is manifest kind e.element.array)) (packed_some manifest e) in
            omega arith;
        processors = processors ∙ way.processors;
        supplied = supplied ∙ way.supplied;
      })
