-- Lists whose items depend on those before them: rising keys and distinct ids.
use Rattle.std.proofs.Common.{◌≡◌, Bool, true, false, not, ◌&&◌, List, [], ◌∷◌, ◌++◌, length, Option, Some, None, IsTrue, refl, sym, ap, ◌∙◌, arith, length-append}
use Rattle.std.specs.List.{AllByRecursion, slice_get}
use Rattle.std.specs.List.Sorted.{IsStrictlySortedBy}
use Rattle.std.specs.Map.{keys_of}
use Rattle.std.specs.Cmp.{IsTotalOrder}
use Rattle.std.specs.declared.cmp.Ordering.{Ordering}
use Rattle.std.specs.declared.cmp.Ordering.TheVariants.{Less, Equal, Greater}
use Rattle.std.proofs.lemmas.Bool.{and_parts, and_from}
use Rattle.charmlet_model.specs.declared.message.Message.{Message}
use Rattle.charmlet_model.specs.declared.names.MsgId.{MsgId}
use Rattle.charmlet_model.specs.Names.{same_id}
use Rattle.charmlet_model.specs.Fit.{AreDistinct}
use Rattle.charmlet_image.specs.Reading.{last_of, is_less, is_above, rises, is_fresh}
use Rattle.charmlet_image.proofs.AfterLemmas.{AllAfter}

-- each item is related to those after it
abbrev pub AllPairs : {X : Type 0} → (X → X → Type 0) → List X → Type 0
AllPairs R [] = Unit {0}
AllPairs R (x ∷ xs) = AllByRecursion (R x) xs × AllPairs R xs

-- A test by the items before is a relation of each item to those after it.
pub record IsTestOf {X : Type 0} (R : X → X → Type 0) (test : List X → X → Bool) : Type 0 where
  pub none : (x : X) → IsTrue (test [] x)
  pub split : (before : List X) (m x : X) → IsTrue (test before m) → IsTrue (test (before ++ m ∷ []) x) → IsTrue (test before x) × R m x
  pub join : (before : List X) (m x : X) → IsTrue (test before x) → R m x → IsTrue (test (before ++ m ∷ []) x)

all_split : {X : Type 0} (P Q R : X → Type 0) (xs : List X) → ((x : X) → P x → Q x × R x) → AllByRecursion P xs → AllByRecursion Q xs × AllByRecursion R xs
all_split P Q R [] f all = (tt, tt)
all_split P Q R (x ∷ xs) f all =
    let here = f x all.0 in
    let more = all_split P Q R xs f all.1 in
    ((here.0, more.0), (here.1, more.1))

pub all_join : {X : Type 0} (P Q R : X → Type 0) (xs : List X) → ((x : X) → Q x → R x → P x) → AllByRecursion Q xs → AllByRecursion R xs → AllByRecursion P xs
all_join P Q R [] f q r = tt
all_join P Q R (x ∷ xs) f q r = (f x q.0 r.0, all_join P Q R xs f q.1 r.1)

all_of : {X : Type 0} (P : X → Type 0) (xs : List X) → ((x : X) → P x) → AllByRecursion P xs
all_of P [] f = tt
all_of P (x ∷ xs) f = (f x, all_of P xs f)

abbrev pub Next : {X : Type 0} → (X → Type 0) → (List X → X → Bool) → List X → X → Type 0
Next Is test before x = Is x × IsTrue (test before x)

pairs_from : {X : Type 0} (Is : X → Type 0) (R : X → X → Type 0) (test : List X → X → Bool) → IsTestOf R test → (before xs : List X) → AllAfter (Next Is test) before xs →
    (AllByRecursion Is xs × AllPairs R xs) × AllByRecursion (λ x. IsTrue (test before x)) xs
pairs_from Is R test t before [] all = ((tt, tt), tt)
pairs_from Is R test t before (x ∷ xs) all =
    let more = pairs_from Is R test t (before ++ x ∷ []) xs all.1 in
    let parts = all_split (λ y. IsTrue (test (before ++ x ∷ []) y)) (λ y. IsTrue (test before y)) (R x) xs (λ y h. t.split before x y all.0.1 h) more.1 in
    (((all.0.0, more.0.0), (parts.1, more.0.1)), (all.0.1, parts.0))

pairs_to : {X : Type 0} (Is : X → Type 0) (R : X → X → Type 0) (test : List X → X → Bool) → IsTestOf R test → (before xs : List X) → AllByRecursion Is xs → AllPairs R xs →
    AllByRecursion (λ x. IsTrue (test before x)) xs → AllAfter (Next Is test) before xs
pairs_to Is R test t before [] each pairs tests = tt
pairs_to Is R test t before (x ∷ xs) each pairs tests =
    let tests_after = all_join (λ y. IsTrue (test (before ++ x ∷ []) y)) (λ y. IsTrue (test before y)) (R x) xs (λ y h r. t.join before x y h r) tests.1 pairs.0 in
    ((each.0, tests.0), pairs_to Is R test t (before ++ x ∷ []) xs each.1 pairs.1 tests_after)

pub after_is_pairs : {X : Type 0} (Is : X → Type 0) (R : X → X → Type 0) (test : List X → X → Bool) → IsTestOf R test → (xs : List X) → AllAfter (Next Is test) [] xs → AllByRecursion Is xs × AllPairs R xs
after_is_pairs Is R test t xs all = (pairs_from Is R test t [] xs all).0

pub pairs_are_after : {X : Type 0} (Is : X → Type 0) (R : X → X → Type 0) (test : List X → X → Bool) → IsTestOf R test → (xs : List X) → AllByRecursion Is xs → AllPairs R xs → AllAfter (Next Is test) [] xs
pairs_are_after Is R test t xs each pairs = pairs_to Is R test t [] xs each pairs (all_of (λ x. IsTrue (test [] x)) xs t.none)

-- ---- rising keys

last_is : {X : Type 0} (xs : List X) (x : X) → last_of (xs ++ x ∷ []) ≡ Some x
last_is xs x = ap (slice_get (xs ++ x ∷ [])) (omega (arith, length-append xs (x ∷ []))) ∙ at_end xs x
  where
    at_end : {X : Type 0} (xs : List X) (x : X) → slice_get (xs ++ x ∷ []) (length xs) ≡ Some x
    at_end [] x = refl
    at_end (y ∷ ys) x = at_end ys x

less_is : (o : Ordering) → is_less o ≡ true → o ≡ Less
less_is Less e = refl
less_is Equal e = absurd cc
less_is Greater e = absurd cc

abbrev pub Below : {K V : Type 0} → (K → K → Ordering) → K × V → K × V → Type 0
Below cmp a b = cmp a.0 b.0 ≡ Less

still_above : {K V : Type 0} (cmp : K → K → Ordering) → IsTotalOrder cmp → (o : Option (K × V)) (m x : K) → is_above cmp o m ≡ true → cmp m x ≡ Less → is_above cmp o x ≡ true
still_above cmp order None m x h r = refl
still_above cmp order (Some e) m x h r = ap is_less (order.trans e.0 m x (less_is (cmp e.0 m) h) r)

pub rises_tests : {K V : Type 0} (cmp : K → K → Ordering) → IsTotalOrder cmp → IsTestOf (Below {K = K} {V = V} cmp) (λ before e. rises cmp before e.0)
rises_tests {K = K} {V = V} cmp order = record {
  none = λ x. refl;
  split = λ before m x h t.
      let r : cmp m.0 x.0 ≡ Less = less_is (cmp m.0 x.0) (ap (λ o. is_above cmp o x.0) (sym (last_is before m)) ∙ t) in
      (still_above cmp order (last_of before) m.0 x.0 h r, r);
  join = λ before m x h r. ap (λ o. is_above cmp o x.0) (last_is before m) ∙ ap is_less r;
}

keys_above : {K V : Type 0} (cmp : K → K → Ordering) (e : K × V) (es : List (K × V)) → AllByRecursion (Below cmp e) es → AllByRecursion (λ k. cmp e.0 k ≡ Less) (keys_of es)
keys_above cmp e [] all = tt
keys_above cmp e (x ∷ es) all = (all.0, keys_above cmp e es all.1)

entries_above : {K V : Type 0} (cmp : K → K → Ordering) (e : K × V) (es : List (K × V)) → AllByRecursion (λ k. cmp e.0 k ≡ Less) (keys_of es) → AllByRecursion (Below cmp e) es
entries_above cmp e [] all = tt
entries_above cmp e (x ∷ es) all = (all.0, entries_above cmp e es all.1)

pub sorted_from_pairs : {K V : Type 0} (cmp : K → K → Ordering) (es : List (K × V)) → AllPairs (Below cmp) es → IsStrictlySortedBy cmp (keys_of es)
unfolding IsStrictlySortedBy
sorted_from_pairs cmp [] pairs = tt
sorted_from_pairs cmp (e ∷ es) pairs = (keys_above cmp e es pairs.0, sorted_from_pairs cmp es pairs.1)

pub pairs_from_sorted : {K V : Type 0} (cmp : K → K → Ordering) (es : List (K × V)) → IsStrictlySortedBy cmp (keys_of es) → AllPairs (Below cmp) es
unfolding IsStrictlySortedBy
pairs_from_sorted cmp [] sorted = tt
pairs_from_sorted cmp (e ∷ es) sorted = (entries_above cmp e es sorted.0, pairs_from_sorted cmp es sorted.1)

-- ---- distinct ids

abbrev pub Apart : Message → Message → Type 0
Apart a b = same_id a.id b.id ≡ false

fresh_more : (before : List Message) (m : Message) (id : MsgId) → is_fresh (before ++ m ∷ []) id ≡ (is_fresh before id && not (same_id m.id id))
fresh_more [] m id = flipped (same_id m.id id)
  where
    flipped : (b : Bool) → (not b && true) ≡ (true && not b)
    flipped true = refl
    flipped false = refl
fresh_more (x ∷ xs) m id = ap (λ b. not (same_id x.id id) && b) (fresh_more xs m id) ∙ grouped (not (same_id x.id id)) (is_fresh xs id) (not (same_id m.id id))
  where
    grouped : (a b c : Bool) → (a && (b && c)) ≡ ((a && b) && c)
    grouped true b c = refl
    grouped false b c = refl

not_true : (b : Bool) → not b ≡ true → b ≡ false
not_true true e = absurd cc
not_true false e = refl

pub fresh_tests : IsTestOf Apart (λ before m. is_fresh before m.id)
fresh_tests = record {
  none = λ x. refl;
  split = λ before m x h t.
      let parts = and_parts (is_fresh before x.id) (not (same_id m.id x.id)) (sym (fresh_more before m x.id) ∙ t) in
      (parts.0, not_true (same_id m.id x.id) parts.1);
  join = λ before m x h r. fresh_more before m x.id ∙ and_from (is_fresh before x.id) (not (same_id m.id x.id)) h (ap not r);
}

pub distinct_from_pairs : (ms : List Message) → AllPairs Apart ms → AreDistinct ms
distinct_from_pairs [] pairs = tt
distinct_from_pairs (m ∷ ms) pairs = (pairs.0, distinct_from_pairs ms pairs.1)

pub pairs_from_distinct : (ms : List Message) → AreDistinct ms → AllPairs Apart ms
pairs_from_distinct [] distinct = tt
pairs_from_distinct (m ∷ ms) distinct = (distinct.0, pairs_from_distinct ms distinct.1)
