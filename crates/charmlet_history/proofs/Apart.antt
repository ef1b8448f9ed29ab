-- An entry that is kept apart from the others.
use Rattle.std.proofs.Common.{◌≡◌, ℕ, ◌+◌, true, false, cond, List, [], length, refl, sym, ap, subst, ◌∙◌, arith}
use Rattle.std.specs.Prelude.{Option, Some, None, IfSome, is_some}
use Rattle.std.specs.Ordering.{eq_by_cmp, nat_cmp}
use Rattle.std.specs.BTreeMap.{insert_entry, is_at}
use Rattle.std.specs.Cmp.{nat_cmp_total}
use Rattle.std.specs.List.Sorted.{IsStrictlySortedBy}
use Rattle.std.specs.Map.{lookup, keys_of, remove_entry}
use Rattle.std.proofs.lemmas.Cmp.{eq_by_cmp_equiv}
use Rattle.std.proofs.lemmas.Map.Lookups.{exact_unsigned}
use Rattle.std.proofs.lemmas.Map.Views.{tells_apart}
use Rattle.charmlet_model.specs.declared.names.MsgId.{MsgId}
use Rattle.charmlet_model.proofs.Maps.{length-insert_entry, lookup-insert_entry, rising-insert_entry, same_maps}
use Rattle.charmlet_model.proofs.Removals.{lookup-removed, rising-removed}
use Rattle.charmlet_history.specs.Assigned.{AreApart, all_entries}

-- the processors rise
abbrev Rising : List (ℕ × MsgId) → Type 0
Rising es = IsStrictlySortedBy nat_cmp (keys_of es)

-- what is found of a processor
abbrev at : List (ℕ × MsgId) → ℕ → Option MsgId
at es p = lookup (is_at (nat_cmp p)) es

-- the one that is kept apart, if there is one, isn't the processor's
abbrev pub IsElsewhere : Option (ℕ × MsgId) → ℕ → Type 0
IsElsewhere first p = IfSome first (λ e. e.0 ≡ p → ⊥)

-- entries that are found alike are equal
alike : (es fs : List (ℕ × MsgId)) → Rising es → Rising fs → ((q : ℕ) → at es q ≡ at fs q) → es ≡ fs
alike es fs = same_maps nat_cmp nat_cmp_total exact_unsigned es fs

-- processors that differ are told apart
differ : (p q : ℕ) → (q ≡ p → ⊥) → eq_by_cmp nat_cmp p q ≡ false
differ p q away = elim (eq_by_cmp nat_cmp p q) as (λ b. eq_by_cmp nat_cmp p q ≡ b → b ≡ false) [
  | true ↦ λ is. absurd (away (sym (tells_apart exact_unsigned p q is)))
  | false ↦ λ _. refl
] refl

-- an entry that is put is found at its processor, and at no other
found_with : (es : List (ℕ × MsgId)) (own : ℕ) (id : MsgId) (q : ℕ) → at (insert_entry nat_cmp es own id) q ≡ cond (eq_by_cmp nat_cmp q own) (Some id) (at es q)
found_with es own id q = lookup-insert_entry nat_cmp nat_cmp_total q own id es

-- and keeps the processors rising
rising_with : (es : List (ℕ × MsgId)) (own : ℕ) (id : MsgId) → Rising es → Rising (insert_entry nat_cmp es own id)
rising_with es own id rising = rising-insert_entry nat_cmp nat_cmp_total own id es rising

-- an entry that is taken is missed at its processor, and at no other
found_without : (es : List (ℕ × MsgId)) → Rising es → (p q : ℕ) → at (remove_entry (is_at (nat_cmp p)) es) q ≡ cond (eq_by_cmp nat_cmp q p) None (at es q)
found_without es rising p q = lookup-removed nat_cmp_total q p es rising

-- which keeps the processors rising too
rising_without : (es : List (ℕ × MsgId)) (p : ℕ) → Rising es → Rising (remove_entry (is_at (nat_cmp p)) es)
rising_without es p rising = rising-removed nat_cmp (is_at (nat_cmp p)) es rising

-- ---- what is found

-- the one that is kept apart
pub own_found : (others : List (ℕ × MsgId)) (own : ℕ) (id : MsgId) → at (insert_entry nat_cmp others own id) own ≡ Some id
own_found others own id = found_with others own id own ∙ ap (λ b. cond b (Some id) (at others own)) ((eq_by_cmp_equiv nat_cmp_total).refl own)

-- another
pub other_found : (first : Option (ℕ × MsgId)) (others : List (ℕ × MsgId)) (p : ℕ) → IsElsewhere first p → at (all_entries first others) p ≡ at others p
other_found None others p away = refl
other_found (Some e) others p away = found_with others e.0 e.1 p ∙ ap (λ b. cond b (Some e.1) (at others p)) (differ p e.0 away)

-- a processor that has none isn't that of the one that is kept apart
elsewhere : (first : Option (ℕ × MsgId)) (others : List (ℕ × MsgId)) (p : ℕ) → is_some (at (all_entries first others) p) ≡ false → IsElsewhere first p
elsewhere None others p none = tt
elsewhere (Some e) others p none = λ same.
    let found : is_some (at (insert_entry nat_cmp others e.0 e.1) p) ≡ true = subst (λ q. is_some (at (insert_entry nat_cmp others e.0 e.1) q) ≡ true) same (ap is_some (own_found others e.0 e.1)) in
    let never : ⊥ = cc in never

-- ---- how many there are

-- the one that is kept apart, and the others
pub one_more : (first : Option (ℕ × MsgId)) (others : List (ℕ × MsgId)) → AreApart first others → is_some first ≡ true → length others + 1 ≡ length (all_entries first others)
one_more None others apart some = absurd (let never : ⊥ = cc in never)
one_more (Some e) others apart some =
    sym (length-insert_entry nat_cmp nat_cmp_total e.0 e.1 others apart.rising ∙ ap (λ o. cond (is_some o) (length others) (length others + 1)) apart.apart)

-- an entry that is kept apart is one
pub never_empty : (first : Option (ℕ × MsgId)) (others : List (ℕ × MsgId)) → AreApart first others → is_some first ≡ true → all_entries first others ≡ [] → ⊥
never_empty first others apart some empty = let count = one_more first others apart some ∙ ap length empty in omega (arith, count)

-- ---- a further one

module _ (first : Option (ℕ × MsgId)) (others : List (ℕ × MsgId)) (apart : AreApart first others) (p : ℕ) (id : MsgId) where
  -- a further one comes to the others
  pub apart_with : is_some (at (all_entries first others) p) ≡ false → AreApart first (insert_entry nat_cmp others p id)
  apart_with none = record { rising = rising_with others p id apart.rising; apart = still first (elsewhere first others p none) apart.apart }
    where
      still : (o : Option (ℕ × MsgId)) → IsElsewhere o p → IfSome o (λ e. at others e.0 ≡ None) → IfSome o (λ e. at (insert_entry nat_cmp others p id) e.0 ≡ None)
      still None away none = tt
      still (Some e) away none = found_with others p id e.0 ∙ ap (λ b. cond b (Some id) (at others e.0)) (differ e.0 p (λ same. away (sym same))) ∙ none

  -- and so to all
  pub all_with : is_some (at (all_entries first others) p) ≡ false → all_entries first (insert_entry nat_cmp others p id) ≡ insert_entry nat_cmp (all_entries first others) p id
  all_with none = either_order first (elsewhere first others p none)
    where
      either_order : (o : Option (ℕ × MsgId)) → IsElsewhere o p → all_entries o (insert_entry nat_cmp others p id) ≡ insert_entry nat_cmp (all_entries o others) p id
      either_order None away = refl
      either_order (Some e) away =
          alike _ _ (rising_with (insert_entry nat_cmp others p id) e.0 e.1 (rising_with others p id apart.rising)) (rising_with (insert_entry nat_cmp others e.0 e.1) p id (rising_with others e.0 e.1 apart.rising))
          (λ q. found_with (insert_entry nat_cmp others p id) e.0 e.1 q
          ∙ ap (cond (eq_by_cmp nat_cmp q e.0) (Some e.1)) (found_with others p id q)
          ∙ elim (eq_by_cmp nat_cmp q e.0) as (λ b. eq_by_cmp nat_cmp q e.0 ≡ b → cond b (Some e.1) (cond (eq_by_cmp nat_cmp q p) (Some id) (at others q)) ≡ cond (eq_by_cmp nat_cmp q p) (Some id) (cond b (Some e.1) (at others q))) [
            | true ↦ λ here. ap (λ b. cond b (Some id) (Some e.1)) (sym (differ q p (λ same. away (sym (tells_apart exact_unsigned q e.0 here) ∙ sym same))))
            | false ↦ λ _. refl
          ] refl
          ∙ ap (cond (eq_by_cmp nat_cmp q p) (Some id)) (sym (found_with others e.0 e.1 q))
          ∙ sym (found_with (insert_entry nat_cmp others e.0 e.1) p id q))

-- ---- one fewer

-- the one that is kept apart
pub own_taken : (others : List (ℕ × MsgId)) (own : ℕ) (id : MsgId) → AreApart (Some (own, id)) others → remove_entry (is_at (nat_cmp own)) (insert_entry nat_cmp others own id) ≡ others
own_taken others own id apart =
    let put = rising_with others own id apart.rising in
    alike _ _ (rising_without (insert_entry nat_cmp others own id) own put) apart.rising
    (λ q. found_without (insert_entry nat_cmp others own id) put own q
    ∙ ap (cond (eq_by_cmp nat_cmp q own) None) (found_with others own id q)
    ∙ elim (eq_by_cmp nat_cmp q own) as (λ b. eq_by_cmp nat_cmp q own ≡ b → cond b None (cond b (Some id) (at others q)) ≡ at others q) [
      | true ↦ λ here. sym apart.apart ∙ ap (at others) (sym (tells_apart exact_unsigned q own here))
      | false ↦ λ _. refl
    ] refl)

-- another
pub other_taken : (first : Option (ℕ × MsgId)) (others : List (ℕ × MsgId)) → AreApart first others → (p : ℕ) → IsElsewhere first p →
    all_entries first (remove_entry (is_at (nat_cmp p)) others) ≡ remove_entry (is_at (nat_cmp p)) (all_entries first others)
other_taken None others apart p away = refl
other_taken (Some e) others apart p away =
    let put = rising_with others e.0 e.1 apart.rising in
    let less = rising_without others p apart.rising in
    alike _ _ (rising_with (remove_entry (is_at (nat_cmp p)) others) e.0 e.1 less) (rising_without (insert_entry nat_cmp others e.0 e.1) p put)
    (λ q. found_with (remove_entry (is_at (nat_cmp p)) others) e.0 e.1 q
    ∙ ap (cond (eq_by_cmp nat_cmp q e.0) (Some e.1)) (found_without others apart.rising p q)
    ∙ elim (eq_by_cmp nat_cmp q e.0) as (λ b. eq_by_cmp nat_cmp q e.0 ≡ b → cond b (Some e.1) (cond (eq_by_cmp nat_cmp q p) None (at others q)) ≡ cond (eq_by_cmp nat_cmp q p) None (cond b (Some e.1) (at others q))) [
      | true ↦ λ here. ap (λ b. cond b None (Some e.1)) (sym (differ q p (λ same. away (sym (tells_apart exact_unsigned q e.0 here) ∙ sym same))))
      | false ↦ λ _. refl
    ] refl
    ∙ ap (cond (eq_by_cmp nat_cmp q p) None) (sym (found_with others e.0 e.1 q))
    ∙ sym (found_without (insert_entry nat_cmp others e.0 e.1) put p q))
