-- Maps of replayers that are merged.
use Rattle.std.proofs.Common.{◌≡◌, ℕ, true, false, cond, List, [], ◌∷◌, refl, sym, ap, subst, ◌∙◌}
use Rattle.std.specs.Prelude.{Some, option_map}
use Rattle.std.specs.BTreeMap.{is_at}
use Rattle.std.specs.List.Sorted.{IsStrictlySortedBy}
use Rattle.std.specs.Map.{keys_of, lookup}
use Rattle.std.specs.Ordering.{eq_by_cmp}
use Rattle.std.proofs.lemmas.Bool.{eq-eqb}
use Rattle.std.proofs.lemmas.Map.Views.{tells_apart}
use Rattle.charmlet_model.specs.declared.names.Elem.{Elem}
use Rattle.charmlet_model.specs.declared.state.Record.{Record}
use Rattle.charmlet_model.specs.Names.{elem_cmp}
use Rattle.charmlet_model.proofs.Maps.{elem_exact, elem_total, same_maps}
use Rattle.charmlet_shard.specs.Opened.{opened_element, opened_elements}
use Rattle.charmlet_shard.specs.element.Element.{Element}
use Rattle.charmlet_log_scan.specs.Partition.Parts.{is_of_worker, part}
use Rattle.charmlet_log_scan.proofs.PartitionLemmas.Parts.{lookup-part}

lookup-opened : (n : ℕ) (x : Elem) (es : List (Elem × Record)) → lookup (is_at (elem_cmp x)) (opened_elements n es) ≡ option_map (opened_element n x) (lookup (is_at (elem_cmp x)) es)
lookup-opened n x [] = refl
lookup-opened n x (e ∷ es) =
    elim (eq_by_cmp elem_cmp x e.0) as (λ b. eq_by_cmp elem_cmp x e.0 ≡ b → cond b (Some (opened_element n e.0 e.1)) (lookup (is_at (elem_cmp x)) (opened_elements n es))
    ≡ option_map (opened_element n x) (cond b (Some e.1) (lookup (is_at (elem_cmp x)) es))) [
      | true ↦ λ same. ap (λ y. Some (opened_element n y e.1)) (sym (tells_apart elem_exact x e.0 same))
      | false ↦ λ _. lookup-opened n x es
    ] refl

keys-opened : (n : ℕ) (es : List (Elem × Record)) → keys_of (opened_elements n es) ≡ keys_of es
keys-opened n [] = refl
keys-opened n (e ∷ es) = ap (λ ks. e.0 ∷ ks) (keys-opened n es)

pub merged-are-opened : (n : ℕ) (records : List (Elem × Record)) (worker : Elem → ℕ) (maps : ℕ → List (Elem × Element)) (merged : List (Elem × Element)) → IsStrictlySortedBy elem_cmp (keys_of records) → IsStrictlySortedBy elem_cmp (keys_of merged) →
    ((w : ℕ) → maps w ≡ opened_elements n (part (is_of_worker worker w) records)) → ((x : Elem) → lookup (is_at (elem_cmp x)) merged ≡ lookup (is_at (elem_cmp x)) (maps (worker x))) → merged ≡ opened_elements n records
merged-are-opened n records worker maps merged rising rising_merged opened found =
    same_maps elem_cmp elem_total elem_exact merged (opened_elements n records) rising_merged (subst (IsStrictlySortedBy elem_cmp) (sym (keys-opened n records)) rising)
    (λ x.
    found x ∙ ap (lookup (is_at (elem_cmp x))) (opened (worker x)) ∙ lookup-opened n x (part (is_of_worker worker (worker x)) records)
    ∙ ap (option_map (opened_element n x)) (lookup-part (is_of_worker worker (worker x)) records x (eq-eqb (worker x) (worker x) refl))
    ∙ sym (lookup-opened n x records))
