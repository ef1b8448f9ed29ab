-- Lists of clients and of records, item by item.
use Rattle.std.proofs.Common.{◌≡◌, ℕ, true, false, cond, List, [], ◌∷◌, ◌++◌, length, refl, sym, ap, ◌∙◌, append_assoc}
use Rattle.std.specs.Prelude.{Option, Some, All, unwrap_or, if◌then◌else◌}
use Rattle.std.specs.List.{AllByRecursion, flat_map}
use Rattle.std.specs.List.Sorted.{IsStrictlySortedBy}
use Rattle.std.specs.Ordering.{eq_by_cmp}
use Rattle.std.specs.BTreeMap.{is_at}
use Rattle.std.specs.Map.{lookup, keys_of}
use Rattle.std.proofs.lemmas.Cmp.{eq_by_cmp_equiv}
use Rattle.std.proofs.lemmas.List.{append-nil, length-map}
use Rattle.std.proofs.lemmas.List.Elements.{All-from_recursion}
use Rattle.std.proofs.lemmas.Map.Keys.{IsDistinct-from_sorted, IsDistinct-head}
use Rattle.charmlet_pup.specs.Fields.{number_bytes}
use Rattle.charmlet_model.specs.declared.names.Elem.{Elem}
use Rattle.charmlet_model.specs.declared.client.ClientRow.{ClientRow}
use Rattle.charmlet_model.specs.declared.state.State.{State}
use Rattle.charmlet_model.specs.Names.{elem_cmp}
use Rattle.charmlet_model.specs.Spelling.{spell_list}
use Rattle.charmlet_model.proofs.Maps.{elem_total}
use Rattle.charmlet_image.specs.declared.header.Mark.TheVariants.{Third}
use Rattle.charmlet_image.specs.Images.{spell_client}
use Rattle.charmlet_world.specs.Client.Client.{Rows}
use Rattle.charmlet_world.specs.declared.element.Element.{Element}
use Rattle.charmlet_world.specs.Seen.{element_at, no_element, present_rows}
use Rattle.charmlet_history.specs.Records.{record_with, records_from}
use Rattle.charmlet_world.specs.Seen.{has_record}

-- a client with its present row
abbrev pub spell_rows : ℕ × Rows → List ℕ
spell_rows e = spell_client Third (e.0, e.1.present)

pub rows_spelled : (es : List (ℕ × Rows)) → flat_map (spell_client Third) (present_rows es) ≡ flat_map spell_rows es
rows_spelled [] = refl
rows_spelled (e ∷ es) = ap (λ (rest : List ℕ). spell_rows e ++ rest) (rows_spelled es)

-- ---- the text of a list, item by item

module _ {X : Type 0} (spell : X → List ℕ) (before total : List ℕ) (xs : List X) where
  -- one more item is appended
  pub one_appended : (x : X) (rest : List X) (after : List ℕ) → xs ≡ x ∷ rest → before ++ flat_map spell xs ≡ total → after ≡ before ++ spell x → after ++ flat_map spell rest ≡ total
  one_appended x rest after is all one =
      ap (λ (t : List ℕ). t ++ flat_map spell rest) one ∙ append_assoc before (spell x) (flat_map spell rest) ∙ ap (λ ys. before ++ flat_map spell ys) (sym is) ∙ all

  -- no item is left
  pub all_appended : xs ≡ [] → before ++ flat_map spell xs ≡ total → before ≡ total
  all_appended is all = sym (append-nil before) ∙ ap (λ ys. before ++ flat_map spell ys) (sym is) ∙ all

-- the clients after how many they are
pub clients_text : (before : List ℕ) (es : List (ℕ × Rows)) → (before ++ number_bytes 4 (length es)) ++ flat_map spell_rows es ≡ before ++ spell_list (spell_client Third) (present_rows es)
clients_text before es =
    append_assoc before (number_bytes 4 (length es)) (flat_map spell_rows es)
    ∙ (λ i. before ++ (number_bytes 4 (sym (length-map {B = ℕ × ClientRow} es (λ (e : ℕ × Rows). (e.0, e.1.present))) i) ++ sym (rows_spelled es) i))

-- ---- the records from elements, element by element

module _ (state : Elem → Option State) (e : Elem × Element) (es : List (Elem × Element)) where
  pub records_more : has_record e.1 ≡ true → records_from state (e ∷ es) ≡ (e.0, record_with (state e.0) e.1) ∷ records_from state es
  records_more has = ap (λ b. if b then (e.0, record_with (state e.0) e.1) ∷ records_from state es else records_from state es) has

  pub records_less : has_record e.1 ≡ false → records_from state (e ∷ es) ≡ records_from state es
  records_less has = ap (λ b. if b then (e.0, record_with (state e.0) e.1) ∷ records_from state es else records_from state es) has

-- ---- entries at their keys

-- an entry that is found at its own key
abbrev pub IsOwn : List (Elem × Element) → Elem × Element → Type 0
IsOwn es e = e.1 ≡ element_at es e.0

module _ (e : Elem × Element) (es : List (Elem × Element)) where
  apart_own : (fs : List (Elem × Element)) → AllByRecursion (λ y. eq_by_cmp elem_cmp e.0 y ≡ false) (keys_of fs) → AllByRecursion (IsOwn es) fs → AllByRecursion (IsOwn (e ∷ es)) fs
  apart_own [] apart own = tt
  apart_own (f ∷ fs) apart own =
      let away : eq_by_cmp elem_cmp f.0 e.0 ≡ false = (eq_by_cmp_equiv elem_total).symm f.0 e.0 ∙ apart.0 in (
        own.0 ∙ sym (ap (λ b. unwrap_or (cond b (Some e.1) (lookup (is_at (elem_cmp f.0)) es)) no_element) away),
        apart_own fs apart.1 own.1,
      )

  rest_rises : IsStrictlySortedBy elem_cmp (keys_of (e ∷ es)) → IsStrictlySortedBy elem_cmp (keys_of es)
  unfolding IsStrictlySortedBy
  rest_rises h = h.1

own_by : (es : List (Elem × Element)) → IsStrictlySortedBy elem_cmp (keys_of es) → AllByRecursion (IsOwn es) es
own_by [] rising = tt
own_by (e ∷ es) rising =
    let others = IsDistinct-head (eq_by_cmp elem_cmp) e.0 (keys_of es) (IsDistinct-from_sorted elem_cmp (keys_of (e ∷ es)) rising) in
    let itself : eq_by_cmp elem_cmp e.0 e.0 ≡ true = (eq_by_cmp_equiv elem_total).refl e.0 in (
      sym (ap (λ b. unwrap_or (cond b (Some e.1) (lookup (is_at (elem_cmp e.0)) es)) no_element) itself),
      apart_own e es es others (own_by es (rest_rises e es rising)),
    )

-- each entry of a map is found at its own key
pub all_own : (es : List (Elem × Element)) → IsStrictlySortedBy elem_cmp (keys_of es) → All (IsOwn es) es
all_own es rising = All-from_recursion (IsOwn es) es (own_by es rising)
