-- The clients' rows in rising order of their clients.
use Rattle.std.proofs.Common.{◌≡◌, ℕ, ◌+◌, ◌<◌, suc, Bool, true, false, cond, not, nat_lt, List, [], ◌∷◌, ◌++◌, length, refl, sym, ap, subst, ◌∙◌, if◌then◌else◌, slice_get, drop, arith, rules}
use Rattle.std.proofs.lemmas.Bool.{ltb-true}
use Rattle.std.specs.Prelude.{Option, Some, None, IfSome, nat_eq, position, unwrap_or, is_some, map}
use Rattle.std.specs.declared.cmp.Ordering.{Ordering}
use Rattle.std.specs.declared.cmp.Ordering.TheVariants.{Less, Equal, Greater}
use Rattle.std.specs.BTreeMap.{insert_entry, is_at}
use Rattle.std.specs.List.{IsDistinct, AllByRecursion, position_or_len}
use Rattle.std.specs.Ordering.{eq_by_cmp, is_eq, nat_cmp, match_ordering}
use Rattle.std.specs.Cmp.{both_ways, nat_cmp_total, nat_eq_equiv}
use Rattle.std.specs.List.Sorted.{IsStrictlySortedBy}
use Rattle.std.specs.Map.{keys_of, lookup}
use Rattle.std.proofs.lemmas.Cmp.{tied_itself}
use Rattle.std.proofs.lemmas.Map.Lookups.{exact_unsigned}
use Rattle.std.proofs.lemmas.Map.Views.{exact_unsigned_eq, tells_apart}
use Rattle.charmlet_model.specs.declared.client.ClientRow.{ClientRow}
use Rattle.charmlet_model.proofs.Maps.{length-insert_entry, lookup-insert_entry, rising-insert_entry, same_maps}
use Rattle.charmlet_world.specs.Client.Client.{Rows}
use Rattle.charmlet_world.specs.Seen.{client_at, new_client, present_rows}
use Rattle.charmlet_log_scan.specs.World.Clients.{IsPlace, client_in, risen_clients}

abbrev pub Entries : Type 0
Entries = List (ℕ × Rows)

-- the two tests of equality answer alike
same_test : (k q : ℕ) → nat_eq k q ≡ eq_by_cmp nat_cmp q k
same_test k q = both_ways (nat_eq k q) (eq_by_cmp nat_cmp q k)
    (λ h. subst (λ x. eq_by_cmp nat_cmp x k ≡ true) (exact_unsigned_eq k q h) (ap is_eq (tied_itself nat_cmp_total k)))
    (λ h. subst (λ x. nat_eq k x ≡ true) (sym (tells_apart exact_unsigned q k h)) (nat_eq_equiv.refl k))

own_test : (q k : ℕ) → eq_by_cmp nat_cmp q k ≡ nat_eq q k
own_test q k = sym (same_test k q) ∙ nat_eq_equiv.symm k q

rising : (es : Entries) → IsStrictlySortedBy nat_cmp (keys_of (risen_clients es))
unfolding IsStrictlySortedBy
rising [] = tt
rising (e ∷ es) = rising-insert_entry nat_cmp nat_cmp_total e.0 e.1 (risen_clients es) (rising es)

-- what is found among them is what was kept
pub found_risen : (q : ℕ) (es : Entries) → lookup (is_at (nat_cmp q)) (risen_clients es) ≡ lookup (nat_eq q) es
found_risen q [] = refl
found_risen q (e ∷ es) =
    lookup-insert_entry nat_cmp nat_cmp_total q e.0 e.1 (risen_clients es)
    ∙ (λ i. cond (own_test q e.0 i) (Some e.1) (found_risen q es i))

pub same_client : (q : ℕ) (es : Entries) → client_at (risen_clients es) q ≡ client_in es q
same_client q es = ap (λ o. unwrap_or o new_client) (found_risen q es)

-- no key passes
absent : (q : ℕ) (es : Entries) → AllByRecursion (λ y. nat_eq q y ≡ false) (keys_of es) → lookup (nat_eq q) es ≡ None
absent q [] h = refl
absent q (e ∷ es) h = ap (λ b. cond b (Some e.1) (lookup (nat_eq q) es)) h.0 ∙ absent q es h.1

-- there are as many of them as rows, each of another client
pub risen_long : (es : Entries) → IsDistinct nat_eq (keys_of es) → length (risen_clients es) ≡ length es
unfolding IsDistinct
risen_long [] distinct = refl
risen_long (e ∷ es) distinct =
    let put = length-insert_entry nat_cmp nat_cmp_total e.0 e.1 (risen_clients es) (rising es) in
    let none : is_some (lookup (is_at (nat_cmp e.0)) (risen_clients es)) ≡ false = ap is_some (found_risen e.0 es ∙ absent e.0 es distinct.0) in
    let rest = risen_long es distinct.1 in
    let longer : length (risen_clients es) + 1 ≡ length (e ∷ es) = omega arith in
    put ∙ ap (λ b. cond b (length (risen_clients es)) (length (risen_clients es) + 1)) none ∙ longer

-- rows that differ at one client by what it has now
pub risen_with : (es fs : Entries) (k : ℕ) (w : Rows) → ((q : ℕ) → lookup (nat_eq q) fs ≡ cond (nat_eq k q) (Some w) (lookup (nat_eq q) es)) → risen_clients fs ≡ insert_entry nat_cmp (risen_clients es) k w
risen_with es fs k w same =
    same_maps nat_cmp nat_cmp_total exact_unsigned (risen_clients fs) (insert_entry nat_cmp (risen_clients es) k w) (rising fs) (rising-insert_entry nat_cmp nat_cmp_total k w (risen_clients es) (rising es))
    (λ q. found_risen q fs ∙ same q ∙ (λ i. cond (same_test k q i) (Some w) (sym (found_risen q es) i)) ∙ sym (lookup-insert_entry nat_cmp nat_cmp_total q k w (risen_clients es)))

-- ---- where a client's row stands

at_first : (x : ℕ) (es : Entries) → position_or_len (nat_eq x) (keys_of es) < length (keys_of es) → IsPlace es (position_or_len (nat_eq x) (keys_of es)) x
at_first x [] h = absurd (omega arith)
at_first x (e ∷ es) h =
    let p = position_or_len (nat_eq x) (keys_of es) in
    elim (nat_eq x e.0) as (λ b. nat_eq x e.0 ≡ b → cond (not b) (1 + p) 0 < length (keys_of (e ∷ es)) → slice_get (e ∷ es) (cond (not b) (1 + p) 0) ≡ Some (x, unwrap_or (if b then Some e.1 else lookup (nat_eq x) es) new_client)) [
      | true ↦ λ same _. let key = exact_unsigned_eq x e.0 same in λ j. Some (sym key j, e.1)
      | false ↦ λ _ less. let step : suc p ≡ 1 + p = omega arith in subst (λ k. slice_get (e ∷ es) k ≡ Some (x, client_in es x)) step (at_first x es (omega arith))
    ] refl h

first_place : (p n i : ℕ) → cond (nat_lt p n) (Some p) None ≡ Some i → (p ≡ i) × (p < n)
first_place p n i is =
    elim (nat_lt p n) as (λ b. nat_lt p n ≡ b → cond b (Some p) None ≡ Some i → (p ≡ i) × (p < n)) [
      | true ↦ λ less here. ((let same : p ≡ i = cc in same), ltb-true p n less)
      | false ↦ λ _ none. absurd (let no : ⊥ = cc in no)
    ] refl is

-- where a table finds it, its row is
pub is_found : (x : ℕ) (es : Entries) (r : Option ℕ) → r ≡ position (nat_eq x) (keys_of es) → IfSome r (λ i. IsPlace es i x)
is_found x es None is = search rules
is_found x es (Some i) is =
    let first = first_place (position_or_len (nat_eq x) (keys_of es)) (length (keys_of es)) i (sym is) in
    subst (λ k. IsPlace es k x) first.0 (at_first x es first.1)

-- ---- the rows in the present world

chosen : (r : Ordering) (a b c : Entries) (d e f : List (ℕ × ClientRow)) → present_rows a ≡ d → present_rows b ≡ e → present_rows c ≡ f → present_rows (match_ordering r a b c) ≡ match_ordering r d e f
chosen Less a b c d e f x y z = x
chosen Equal a b c d e f x y z = y
chosen Greater a b c d e f x y z = z

present_inserted : (es : Entries) (k : ℕ) (w : Rows) → present_rows (insert_entry nat_cmp es k w) ≡ insert_entry nat_cmp (present_rows es) k w.present
present_inserted [] k w = refl
present_inserted (e ∷ es) k w =
    chosen (nat_cmp k e.0) ((k, w) ∷ e ∷ es) ((e.0, w) ∷ es) (e ∷ insert_entry nat_cmp es k w) _ _ _ refl refl (ap (λ fs. (e.0, e.1.present) ∷ fs) (present_inserted es k w))

-- one more row, from the last on
one_more_row : (es : Entries) (i : ℕ) (x : ℕ) (w : Rows) → slice_get es i ≡ Some (x, w) → risen_clients (drop i es) ≡ insert_entry nat_cmp (risen_clients (drop (suc i) es)) x w
one_more_row [] i x w at = absurd (let no : ⊥ = cc in no)
one_more_row (e ∷ es) Prim.Native.Nat.zero x w at = let same : e ≡ (x, w) = (λ j. unwrap_or (at j) e) in λ j. insert_entry nat_cmp (risen_clients es) (same j).0 (same j).1
one_more_row (e ∷ es) (suc i) x w at = one_more_row es i x w at

pub one_more_present : (es : Entries) (i : ℕ) (x : ℕ) (w : Rows) → slice_get es i ≡ Some (x, w)
    → present_rows (risen_clients (drop i es)) ≡ insert_entry nat_cmp (present_rows (risen_clients (drop (suc i) es))) x w.present
one_more_present es i x w at = ap present_rows (one_more_row es i x w at) ∙ present_inserted (risen_clients (drop (suc i) es)) x w

-- ---- what is found there

pub row_there : (es : Entries) (place x y : ℕ) (w : Rows) → IsPlace es place x → slice_get es place ≡ Some (y, w) → w ≡ client_in es x
row_there es place x y w here at = let both : Some (y, w) ≡ Some (x, client_in es x) = sym at ∙ here in λ j. (unwrap_or (both j) (y, w)).1

pub client_there : (es : Entries) (place x y : ℕ) (w : Rows) → IsPlace es place x → slice_get es place ≡ Some (y, w) → y ≡ x
client_there es place x y w here at = let both : Some (y, w) ≡ Some (x, client_in es x) = sym at ∙ here in λ j. (unwrap_or (both j) (y, w)).0

-- a client that has no row has made no request
pub made_none : (es : Entries) (x : ℕ) → lookup (nat_eq x) es ≡ None → client_at (risen_clients es) x ≡ new_client
made_none es x none = same_client x es ∙ ap (λ o. unwrap_or o new_client) none
