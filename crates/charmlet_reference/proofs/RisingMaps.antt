-- A key above those of a map goes after them.
use Rattle.std.proofs.Common.{◌≡◌, List, [], ◌∷◌, ◌++◌, refl, ap, ◌∙◌}
use Rattle.std.specs.declared.cmp.Ordering.{Ordering}
use Rattle.std.specs.declared.cmp.Ordering.TheVariants.{Less, Greater}
use Rattle.std.specs.Ordering.{match_ordering, ordering_reverse}
use Rattle.std.specs.Cmp.{IsTotalOrder}
use Rattle.std.specs.List.{AllByRecursion}
use Rattle.std.specs.List.Sorted.{IsStrictlySortedBy}
use Rattle.std.specs.Map.{keys_of}
use Rattle.std.specs.BTreeMap.{insert_entry}

at_middle : {K X : Type 0} (P : K → Type 0) (es : List (K × X)) (k : K) (x : X) (rest : List (K × X)) → AllByRecursion P (keys_of (es ++ (k, x) ∷ rest)) → P k
at_middle P [] k x rest all = all.0
at_middle P (e ∷ es) k x rest all = at_middle P es k x rest all.1

-- of entries that rise each one goes after those before it
pub goes_last : {K X : Type 0} (cmp : K → K → Ordering) → IsTotalOrder cmp → (es : List (K × X)) (k : K) (x : X) (rest : List (K × X)) →
    IsStrictlySortedBy cmp (keys_of (es ++ (k, x) ∷ rest)) → insert_entry cmp es k x ++ rest ≡ es ++ (k, x) ∷ rest
unfolding IsStrictlySortedBy
goes_last cmp order [] k x rest rising = refl
goes_last {K = K} {X = X} cmp order (e ∷ es) k x rest rising =
    let greater : cmp k e.0 ≡ Greater = order.antisymm k e.0 ∙ ap ordering_reverse (at_middle (λ y. cmp e.0 y ≡ Less) es k x rest rising.0) in
    ap (λ o. match_ordering o ((k, x) ∷ e ∷ es) ((e.0, x) ∷ es) (e ∷ insert_entry cmp es k x) ++ rest) greater
    ∙ ap (λ (more : List (K × X)). e ∷ more) (goes_last cmp order es k x rest rising.1)
