-- Maps that have all the entries of another one.
use Rattle.std.specs.Prelude.{◌≡◌, List, [], ◌∷◌, Some}
use Rattle.std.specs.declared.cmp.Ordering.{Ordering}
use Rattle.std.specs.BTreeMap.{is_at}
use Rattle.std.specs.Map.{lookup}

-- each of these entries is found among all
abbrev pub HasEntries : {K X : Type 0} → (K → K → Ordering) → (all some : List (K × X)) → Type 0
HasEntries cmp all [] = Unit {0}
HasEntries cmp all (e ∷ es) = (lookup (is_at (cmp e.0)) all ≡ Some e.1) × HasEntries cmp all es
