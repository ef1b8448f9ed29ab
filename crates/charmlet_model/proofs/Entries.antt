-- Entries of maps after a write.
use Rattle.std.proofs.Common.{◌≡◌, List, sym, ap, subst, cond, ◌∙◌}
use Rattle.std.specs.Prelude.{Some, IsSome}
use Rattle.std.specs.declared.cmp.Ordering.{Ordering}
use Rattle.std.specs.Cmp.{IsTotalOrder}
use Rattle.std.specs.BTreeMap.{insert_entry, is_at}
use Rattle.std.specs.List.Sorted.{IsStrictlySortedBy}
use Rattle.std.specs.Map.{lookup, keys_of, set_value}
use Rattle.std.proofs.lemmas.Cmp.{eq_by_cmp_equiv}
use Rattle.std.proofs.lemmas.Map.{keys-set_value, lookup-set_value}
use Rattle.std.proofs.lemmas.Map.Lookups.{CmpEqualImpliesEq}
use Rattle.charmlet_model.proofs.Maps.{lookup-insert_entry, rising-insert_entry, same_maps}

-- a value that is written over another one is inserted
pub set_is_insert : {K X : Type 0} (R : K → K → Ordering) → IsTotalOrder R → CmpEqualImpliesEq R → (k : K) (w : X) (es : List (K × X)) → IsStrictlySortedBy R (keys_of es) →
    IsSome (lookup (is_at (R k)) es) → set_value (is_at (R k)) es w ≡ insert_entry R es k w
set_is_insert R o exact k w es rising found =
    let same = eq_by_cmp_equiv o in
    same_maps R o exact (set_value (is_at (R k)) es w) (insert_entry R es k w)
    (subst (IsStrictlySortedBy R) (sym (keys-set_value (is_at (R k)) es w)) rising) (rising-insert_entry R o k w es rising)
    (λ q. lookup-set_value same (is_at (R k)) (λ x y h. same.congr k x y h) q w es found
    ∙ ap (λ b. cond b (Some w) (lookup (is_at (R q)) es)) (same.symm k q) ∙ sym (lookup-insert_entry R o q k w es))
