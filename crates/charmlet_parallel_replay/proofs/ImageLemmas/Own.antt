-- The entries of an image that are a replayer's.
use Rattle.std.proofs.Common.{◌≡◌, ℕ, ◌+◌, ◌<◌, ◌≤◌, ◌&&◌, Bool, true, false, cond, suc, List, [], ◌∷◌, ◌++◌, length, take, drop, drop-cons, get_or, add-one, refl, sym, ap, subst, ◌∙◌, arith}
use Rattle.std.specs.Prelude.{Option, Some, None, IsSome, is_some, map, option_map}
use Rattle.std.specs.declared.cmp.Ordering.TheVariants.{Less, Greater}
use Rattle.std.specs.Ordering.{is_eq, match_ordering, nat_cmp, ordering_reverse}
use Rattle.std.specs.BTreeMap.{insert_entry, is_at}
use Rattle.std.specs.List.{AllByRecursion}
use Rattle.std.specs.List.Sorted.{IsStrictlySortedBy}
use Rattle.std.specs.Map.{keys_of, lookup}
use Rattle.std.proofs.lemmas.List.{append-nil, map-append, take-append-drop, take_more}
use Rattle.charmlet_model.specs.declared.kind.Kind.{Kind}
use Rattle.charmlet_model.specs.declared.names.Elem.{Elem}
use Rattle.charmlet_model.specs.declared.state.Record.{Record}
use Rattle.charmlet_model.specs.Names.{elem_cmp}
use Rattle.charmlet_model.specs.Unpacked.{state_at}
use Rattle.charmlet_model.proofs.Maps.{elem_total}
use Rattle.charmlet_record.specs.Reading.{Kinds}
use Rattle.charmlet_image.specs.declared.entries.Entry.{Entry}
use Rattle.charmlet_image.specs.Reading.{kind_version_in}
use Rattle.charmlet_image.specs.Views.{entry_said}
use Rattle.charmlet_image.specs.Written.{AreRecords, IsEntry}
use Rattle.charmlet_recovery.specs.Blanks.{array_is, one_if, wanted_by_records}
use Rattle.charmlet_log_scan.specs.Partition.Parts.{part}
use Rattle.charmlet_log_scan.proofs.PartitionLemmas.Parts.{lookup-part, part-takes}

-- ---- parts of lists

part-append : (mine : Elem → Bool) (xs ys : List (Elem × Record)) → part mine (xs ++ ys) ≡ part mine xs ++ part mine ys
part-append mine [] ys = refl
part-append mine (e ∷ xs) ys =
    elim (mine e.0) as (λ b. cond b (e ∷ part mine (xs ++ ys)) (part mine (xs ++ ys)) ≡ cond b (e ∷ part mine xs) (part mine xs) ++ part mine ys) [
      | true ↦ ap (λ (es : List (Elem × Record)). e ∷ es) (part-append mine xs ys)
      | false ↦ part-append mine xs ys
    ]

wanted-append : (manifest : Kinds) (kind : Kind) (xs ys : List (Elem × Record)) → wanted_by_records manifest kind (xs ++ ys) ≡ wanted_by_records manifest kind xs + wanted_by_records manifest kind ys
wanted-append manifest kind [] ys = omega arith
wanted-append manifest kind (e ∷ xs) ys = let more = wanted-append manifest kind xs ys in omega (arith, more)

-- ---- entries that rise

at_middle : {K X : Type 0} (P : K → Type 0) (es : List (K × X)) (k : K) (x : X) (rest : List (K × X)) → AllByRecursion P (keys_of (es ++ (k, x) ∷ rest)) → P k
at_middle P [] k x rest all = all.0
at_middle P (e ∷ es) k x rest all = at_middle P es k x rest all.1

-- each one comes after those before it
abbrev IsAbove : List (Elem × Record) → Elem → Type 0
IsAbove es x = AllByRecursion (λ y. elem_cmp x y ≡ Greater) (keys_of es)

above : (es : List (Elem × Record)) (x : Elem) (r : Record) (rest : List (Elem × Record)) → IsStrictlySortedBy elem_cmp (keys_of (es ++ (x, r) ∷ rest)) → IsAbove es x
unfolding IsStrictlySortedBy
above [] x r rest rising = tt
above (e ∷ es) x r rest rising = (elem_total.antisymm x e.0 ∙ ap ordering_reverse (at_middle (λ y. elem_cmp e.0 y ≡ Less) es x r rest rising.0), above es x r rest rising.1)

last_of : (es : List (Elem × Record)) (x : Elem) (r : Record) → IsAbove es x → insert_entry elem_cmp es x r ≡ es ++ (x, r) ∷ []
last_of [] x r h = refl
last_of (e ∷ es) x r h =
    ap (λ o. match_ordering o ((x, r) ∷ e ∷ es) ((e.0, r) ∷ es) (e ∷ insert_entry elem_cmp es x r)) h.0
    ∙ ap (λ (more : List (Elem × Record)). e ∷ more) (last_of es x r h.1)

-- and isn't among them
none_of : (es : List (Elem × Record)) (x : Elem) → IsAbove es x → lookup (is_at (elem_cmp x)) es ≡ None
none_of [] x h = refl
none_of (e ∷ es) x h = ap (λ o. cond (is_eq o) (Some e.1) (lookup (is_at (elem_cmp x)) es)) h.0 ∙ none_of es x h.1

front_rises : (es rest : List (Elem × Record)) → IsStrictlySortedBy elem_cmp (keys_of (es ++ rest)) → IsStrictlySortedBy elem_cmp (keys_of es)
unfolding IsStrictlySortedBy
front_rises [] rest rising = tt
front_rises (e ∷ es) rest rising = (front_all es rest rising.0, front_rises es rest rising.1)
  where
    front_all : (fs gs : List (Elem × Record)) → AllByRecursion (λ y. elem_cmp e.0 y ≡ Less) (keys_of (fs ++ gs)) → AllByRecursion (λ y. elem_cmp e.0 y ≡ Less) (keys_of fs)
    front_all [] gs all = tt
    front_all (f ∷ fs) gs all = (all.0, front_all fs gs all.1)

-- ---- the entries of an image

abbrev pub said : Kinds → List Entry → List (Elem × Record)
said manifest = map (entry_said manifest)

-- an object that is packed is a state
packed_some : (manifest : Kinds) (e : Entry) → is_some (entry_said manifest e).1.state ≡ is_some e.packed
packed_some manifest e = mapped (λ packed. state_at (kind_version_in manifest e.element.array) packed.now) e.packed
  where
    mapped : {A B : Type 0} (f : A → B) (o : Option A) → is_some (option_map f o) ≡ is_some o
    mapped f None = refl
    mapped f (Some x) = refl

module _ (manifest : Kinds) (entries : List Entry) (i : ℕ) (e : Entry) (lt : i < length entries) (is : e ≡ get_or entries i e)
    (good : AreRecords manifest (said manifest entries)) where
  abbrev front : List Entry
  front = take i entries

  abbrev later : List Entry
  later = drop (i + 1) entries

  whole : entries ≡ front ++ e ∷ later
  whole = sym (take-append-drop i entries) ∙ ap (λ es. take i entries ++ es) (drop-cons entries i e lt ∙ ap (λ y. y ∷ drop (suc i) entries) (sym is) ∙ ap (λ (k : ℕ). e ∷ drop k entries) (sym (add-one i)))

  all_said : said manifest entries ≡ said manifest front ++ entry_said manifest e ∷ said manifest later
  all_said = ap (said manifest) whole ∙ map-append (entry_said manifest) front (e ∷ later)

  rising_said : IsStrictlySortedBy elem_cmp (keys_of (said manifest front ++ entry_said manifest e ∷ said manifest later))
  rising_said = subst (λ es. IsStrictlySortedBy elem_cmp (keys_of es)) all_said good.rising

  is_above : IsAbove (said manifest front) e.element
  is_above = above (said manifest front) e.element (entry_said manifest e).1 (said manifest later) rising_said

  next_said : said manifest (take (i + 1) entries) ≡ said manifest front ++ entry_said manifest e ∷ []
  next_said = ap (said manifest) (take_more entries i e lt ∙ ap (λ y. take i entries ++ y ∷ []) (sym is)) ∙ map-append (entry_said manifest) front (e ∷ [])

  its_entry : IsEntry manifest (entry_said manifest e)
  its_entry = at_place (said manifest front) (subst (AllByRecursion (IsEntry manifest)) all_said good.each)
    where
      at_place : (es : List (Elem × Record)) → AllByRecursion (IsEntry manifest) (es ++ entry_said manifest e ∷ said manifest later) → IsEntry manifest (entry_said manifest e)
      at_place [] h = h.0
      at_place (x ∷ es) h = at_place es h.1

  pub known_array : IsSome (lookup (is_at (nat_cmp e.element.array)) manifest)
  known_array = its_entry.0.1

  module _ (mine : Elem → Bool) where
    -- ---- an entry of another replayer

    pub others : mine e.element ≡ false → part mine (said manifest (take (i + 1) entries)) ≡ part mine (said manifest front)
    others other =
        ap (part mine) next_said ∙ part-append mine (said manifest front) (entry_said manifest e ∷ [])
        ∙ ap (λ b. part mine (said manifest front) ++ cond b (entry_said manifest e ∷ []) []) other ∙ append-nil (part mine (said manifest front))

    -- ---- one of its own

    module _ (own : mine e.element ≡ true) where
      pub unknown : lookup (is_at (elem_cmp e.element)) (part mine (said manifest front)) ≡ None
      unknown = lookup-part mine (said manifest front) e.element own ∙ none_of (said manifest front) e.element is_above

      pub inserted : insert_entry elem_cmp (part mine (said manifest front)) e.element (entry_said manifest e).1 ≡ part mine (said manifest (take (i + 1) entries))
      inserted =
          sym (part-takes mine (said manifest front) e.element (entry_said manifest e).1 (front_rises (said manifest front) (entry_said manifest e ∷ said manifest later) rising_said) own)
          ∙ ap (part mine) (last_of (said manifest front) e.element (entry_said manifest e).1 is_above ∙ sym next_said)

      part_more : part mine (said manifest (take (i + 1) entries)) ≡ part mine (said manifest front) ++ entry_said manifest e ∷ []
      part_more =
          ap (part mine) next_said ∙ part-append mine (said manifest front) (entry_said manifest e ∷ [])
          ∙ ap (λ b. part mine (said manifest front) ++ cond b (entry_said manifest e ∷ []) []) own

      abbrev its : Kind → ℕ
      its kind = one_if (is_some e.packed && array_is manifest kind e.element.array)

      its_wanted : (kind : Kind) → one_if (is_some (entry_said manifest e).1.state && array_is manifest kind e.element.array) ≡ its kind
      its_wanted kind = ap (λ b. one_if (b && array_is manifest kind e.element.array)) (packed_some manifest e)

      pub wanted_more : (kind : Kind) → wanted_by_records manifest kind (part mine (said manifest (take (i + 1) entries))) ≡ wanted_by_records manifest kind (part mine (said manifest front)) + its kind
      wanted_more kind =
          let sum = ap (wanted_by_records manifest kind) part_more ∙ wanted-append manifest kind (part mine (said manifest front)) (entry_said manifest e ∷ []) in
          let one = its_wanted kind in
          omega (arith, sum, one)

      pub wanted_within : (kind : Kind) → wanted_by_records manifest kind (part mine (said manifest front)) + its kind ≤ wanted_by_records manifest kind (part mine (said manifest entries))
      wanted_within kind =
          let split : part mine (said manifest entries) ≡ part mine (said manifest front) ++ entry_said manifest e ∷ part mine (said manifest later) =
          ap (part mine) all_said ∙ part-append mine (said manifest front) (entry_said manifest e ∷ said manifest later)
          ∙ ap (λ b. part mine (said manifest front) ++ cond b (entry_said manifest e ∷ part mine (said manifest later)) (part mine (said manifest later))) own in
          let sum = ap (wanted_by_records manifest kind) split ∙ wanted-append manifest kind (part mine (said manifest front)) (entry_said manifest e ∷ part mine (said manifest later)) in
          let one = its_wanted kind in
          omega (arith, sum, one)
