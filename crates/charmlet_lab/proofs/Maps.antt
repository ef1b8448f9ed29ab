-- Maps that have each other's entries.
use Rattle.std.proofs.Common.{◌≡◌, Bool, true, false, cond, List, [], ◌∷◌, refl, sym, ap, subst, ◌∙◌, Some, None}
use Rattle.std.specs.declared.cmp.Ordering.{Ordering}
use Rattle.std.specs.declared.cmp.Ordering.TheVariants.{Less}
use Rattle.std.specs.Ordering.{is_eq, eq_by_cmp, ordering_reverse}
use Rattle.std.specs.Cmp.{IsTotalOrder}
use Rattle.std.specs.List.{AllByRecursion}
use Rattle.std.specs.List.Sorted.{IsStrictlySortedBy}
use Rattle.std.specs.BTreeMap.{is_at}
use Rattle.std.specs.Map.{lookup, keys_of}
use Rattle.std.proofs.lemmas.Cmp.{tied_itself}
use Rattle.std.proofs.lemmas.Map.Lookups.{CmpEqualImpliesEq}
use Rattle.std.proofs.lemmas.Map.Views.{tells_apart}
use Rattle.charmlet_model.proofs.Maps.{same_maps}
use Rattle.charmlet_lab.specs.Same.{HasEntries}

module _ {K X : Type 0} (R : K → K → Ordering) (o : IsTotalOrder R) (exact : CmpEqualImpliesEq R) where
  -- what is found among some entries is found among all
  found_too : (all es : List (K × X)) → HasEntries R all es → (q : K) (v : X) → lookup (is_at (R q)) es ≡ Some v → lookup (is_at (R q)) all ≡ Some v
  found_too all [] has q v h = absurd (let no : ⊥ = cc in no)
  found_too all (e ∷ es) has q v h = elim (eq_by_cmp R q e.0) as
      (λ b. eq_by_cmp R q e.0 ≡ b → cond b (Some e.1) (lookup (is_at (R q)) es) ≡ Some v → lookup (is_at (R q)) all ≡ Some v) [
        | true ↦ λ same here. subst (λ k. lookup (is_at (R k)) all ≡ Some v) (sym (tells_apart exact q e.0 same)) (has.0 ∙ here)
        | false ↦ λ _ later. found_too all es has.1 q v later
      ] refl h

  -- maps that have each other's entries have the same at each key
  same_lookups : (es fs : List (K × X)) → HasEntries R es fs → HasEntries R fs es → (q : K) → lookup (is_at (R q)) es ≡ lookup (is_at (R q)) fs
  same_lookups es fs has given q = elim (lookup (is_at (R q)) es) as (λ found. lookup (is_at (R q)) es ≡ found → found ≡ lookup (is_at (R q)) fs) [
    | Some v ↦ λ is. sym (found_too fs es given q v is)
    | None ↦ λ none. elim (lookup (is_at (R q)) fs) as (λ found. lookup (is_at (R q)) fs ≡ found → None ≡ found) [
      | Some v ↦ λ is. absurd (let no : ⊥ = let both = sym none ∙ found_too es fs has q v is in cc in no)
      | None ↦ λ _. refl
    ] refl
  ] refl

  -- and are the same
  pub same_entries : (es fs : List (K × X)) → IsStrictlySortedBy R (keys_of es) → IsStrictlySortedBy R (keys_of fs) → HasEntries R es fs → HasEntries R fs es → es ≡ fs
  same_entries es fs rising_es rising_fs has given = same_maps R o exact es fs rising_es rising_fs (same_lookups es fs has given)

  -- an entry before all others hides none of them
  beside : (e : K × X) (all es : List (K × X)) → AllByRecursion (λ k. R e.0 k ≡ Less) (keys_of es) → HasEntries R all es → HasEntries R (e ∷ all) es
  beside e all [] below has = tt
  beside e all (f ∷ fs) below has =
      let apart : eq_by_cmp R f.0 e.0 ≡ false = ap is_eq (o.antisymm f.0 e.0 ∙ ap ordering_reverse below.0) in
      (ap (λ b. cond b (Some e.1) (lookup (is_at (R f.0)) all)) apart ∙ has.0, beside e all fs below.1 has.1)

  -- a map has its own entries
  pub has_its_own : (es : List (K × X)) → IsStrictlySortedBy R (keys_of es) → HasEntries R es es
  unfolding IsStrictlySortedBy
  has_its_own [] rising = tt
  has_its_own (e ∷ es) rising = (ap (λ b. cond b (Some e.1) (lookup (is_at (R e.0)) es)) (ap is_eq (tied_itself o e.0)), beside e es es rising.0 (has_its_own es rising.1))

  -- so does the same map
  pub has_same : (es fs : List (K × X)) → IsStrictlySortedBy R (keys_of es) → es ≡ fs → HasEntries R es fs
  has_same es fs rising same = subst (HasEntries R es) same (has_its_own es rising)

  -- where a map has the other one's entries, they are the same if and only if the other one has its
  -- entries too
  pub same_if_both : (b : Bool) (es fs : List (K × X)) → IsStrictlySortedBy R (keys_of es) → IsStrictlySortedBy R (keys_of fs) → HasEntries R es fs →
      ((b ≡ true → HasEntries R fs es) × (HasEntries R fs es → b ≡ true)) → ((b ≡ true → es ≡ fs) × (es ≡ fs → b ≡ true))
  same_if_both b es fs rising_es rising_fs has given =
      ((λ h. same_entries es fs rising_es rising_fs has (given.0 h)), (λ same. given.1 (has_same fs es rising_fs (sym same))))

  -- where it doesn't, they aren't
  pub not_same : (b : Bool) (es fs : List (K × X)) → IsStrictlySortedBy R (keys_of es) → b ≡ false →
      ((b ≡ true → HasEntries R es fs) × (HasEntries R es fs → b ≡ true)) → ((b ≡ true → es ≡ fs) × (es ≡ fs → b ≡ true))
  not_same b es fs rising_es lacks has = ((λ h. absurd (let never : ⊥ = let both : true ≡ false = sym h ∙ lacks in cc in never)), (λ same. has.1 (has_same es fs rising_es same)))
