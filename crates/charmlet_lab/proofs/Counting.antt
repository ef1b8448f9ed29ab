-- Crashes that were tried, and one more.
use Rattle.std.proofs.Common.{◌≡◌, ◌<◌, ◌≤◌, ℕ, suc, ◌+◌, Bool, Option, List, [], ◌∷◌, ◌++◌, map, length, take, take_all, get_or, sym, ap, ◌∙◌, arith, append-nil}
use Rattle.std.specs.Prelude.{if◌then◌else◌}
use Rattle.std.specs.List.{AllByRecursion, count_by}
use Rattle.std.proofs.lemmas.List.{get_or-map, length-append, length-map, map-append, take_more}
use Rattle.std.proofs.lemmas.List.Sums.{sum_by-append}
use Rattle.charmlet_disk.specs.declared.crash.CrashChoice.{CrashChoice}
use Rattle.charmlet_disk.specs.declared.disk.Disk as disks
use Rattle.charmlet_script.specs.Script.{Contents}
use Rattle.charmlet_lab.specs.declared.line.LabLine.{LabLine}
use Rattle.charmlet_lab.specs.Trials.{AreTried, IsTried, Place, Tried, choices, places, places_at}

-- what holds of all and of one more holds of all with it
all_more : {A : Type 0} (P : A → Type 0) (xs : List A) (x : A) → AllByRecursion P xs → P x → AllByRecursion P (xs ++ x ∷ [])
all_more P [] x all p = (p, tt)
all_more P (y ∷ ys) x all p = (all.0, all_more P ys x all.1 p)

abbrev one_if : Bool → ℕ
one_if b = if b then 1 else 0

-- one more is counted
count_more : {A : Type 0} (f : A → Bool) (xs : List A) (x : A) → count_by f (xs ++ x ∷ []) ≡ count_by f xs + one_if (f x)
count_more f xs x = sum_by-append (λ y. one_if (f y)) xs (x ∷ []) ∙ ap (λ n. count_by f xs + n) (let one : count_by f (x ∷ []) ≡ one_if (f x) = omega arith in one)

module _ {D : Type 0} (G : disks.Ghosts D) (calls_left : D → Option ℕ) (script : Contents) where
  -- one crash more
  pub one_more : (at : List Place) (line next : LabLine) (t : Tried D) (place : Place) (bad : Bool) → AreTried G calls_left script at line → IsTried G calls_left script t → t.place ≡ place → t.bad ≡ bad →
      next.outcomes ≡ line.outcomes + 1 → next.bad ≡ line.bad + (if bad then 1 else 0) → AreTried G calls_left script (at ++ place ∷ []) next
  one_more at line next t place bad are tried is same outcomes counted = record {
    tried = are.tried ++ t ∷ [];
    each = all_more (IsTried G calls_left script) are.tried t are.each tried;
    where_they_are = map-append (λ (t : Tried D). t.place) are.tried (t ∷ []) ∙ ap (λ ps. ps ++ t.place ∷ []) are.where_they_are ∙ ap (λ p. at ++ p ∷ []) is;
    outcomes = omega (arith, outcomes, are.outcomes, length-append are.tried (t ∷ []));
    bad = counted ∙ ap (λ n. n + (if bad then 1 else 0)) are.bad ∙ ap (λ b. count_by (λ (t : Tried D). t.bad) are.tried + one_if b) (sym same) ∙ sym (count_more (λ (t : Tried D). t.bad) are.tried t);
  }

  -- how many stops there were isn't counted with them
  pub same_counts : (at : List Place) (line next : LabLine) → AreTried G calls_left script at line → next.outcomes ≡ line.outcomes → next.bad ≡ line.bad → AreTried G calls_left script at next
  same_counts at line next are outcomes bad = record { tried = are.tried; each = are.each; where_they_are = are.where_they_are; outcomes = outcomes ∙ are.outcomes; bad = bad ∙ are.bad }

-- the crashes of one stop more
places_more : (n : ℕ) → places (n + 1) ≡ places n ++ places_at n
places_more n = ap places (let one : n + 1 ≡ suc n = omega arith in one)

-- of a stop one more
pub places_taken : (calls k : ℕ) (choice : CrashChoice) → k < length choices → take (k + 1) (places_at calls) ≡ take k (places_at calls) ++ (calls, get_or choices k choice) ∷ []
places_taken calls k choice within =
    let at : CrashChoice → Place = λ c. (calls, c) in
    take_more (map at choices) k (calls, choice) (omega (arith, within, length-map choices at)) ∙ ap (λ p. take k (places_at calls) ++ p ∷ []) (get_or-map at choices k choice (calls, choice) within)

-- none of a stop were tried yet
pub none_taken : (at : List Place) (calls : ℕ) → at ++ take 0 (places_at calls) ≡ at
none_taken at calls = append-nil at

-- all of a stop were tried
pub all_taken : (calls k : ℕ) → length choices ≤ k → places calls ++ take k (places_at calls) ≡ places (calls + 1)
all_taken calls k all = ap (λ ps. places calls ++ ps) (take_all k (places_at calls) (omega (arith, all))) ∙ sym (places_more calls)
