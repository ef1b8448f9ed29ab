-- What a flush makes durable, and what passes hold then.
use Rattle.std.proofs.Common.{◌≡◌, ℕ, zero, suc, ◌+◌, true, false, List, [], ◌∷◌, length, map, inl, inr, refl, sym, ap, subst, ◌∙◌, Bool, Option, Some, None, Result, Ok, Err, if◌then◌else◌, ◌&&◌, nat_lt}
use Rattle.std.specs.Prelude.{IfOk, slice_get, slice_set}
use Rattle.std.specs.List.{AllByRecursion}
use Rattle.charmlet_model.specs.declared.refusal.Refusal.{Refusal}
use Rattle.charmlet_model.specs.declared.refusal.Refusal.TheVariants as refusals
use Rattle.charmlet_model.specs.declared.told.Told.TheVariants.{Accepted}
use Rattle.charmlet_model.specs.Core.{Core, Counts, Flush, Refuses, Stepped, checks, first_refusal, stepped_unless}
use Rattle.charmlet_model.specs.Run.{Goes, StoreView}
use Rattle.charmlet_history.specs.Kept.{counts_or_refused}
use Rattle.charmlet_requests.specs.Knowing.{is_unknown}
use Rattle.charmlet_requests.specs.Pass.{known, with_told}
use Rattle.charmlet_leases.specs.Passes.Passes.{HeldPass, IsCurrent, LentPasses, TellAll, with_answer, with_flush}
use Rattle.charmlet_hub.specs.Hub.{HubShown, store_in}
use Rattle.charmlet_workers.specs.Runtime.{AreFlushed, IsMoment, RuntimeShown}
use Rattle.charmlet_workers.proofs.Rows.{reached_least, row_seen}

-- ---- the store after it

flushed_by : (store : StoreView) (next : Core) (count : ℕ) (n : Stepped) (o : Option Refusal) → n.answer ≡ Counts count → n.core ≡ next → n ≡ stepped_unless store.core store.blanks Flush o →
    (next.durable ≡ length next.history) × (count ≡ next.before + length next.history)
flushed_by store next count n None answer core is =
    let after : next ≡ (stepped_unless store.core store.blanks Flush None).core = sym core ∙ ap (λ (s : Stepped). s.core) is in
    let counts : Counts count ≡ Counts (store.core.before + length store.core.history) = sym answer ∙ ap (λ (s : Stepped). s.answer) is in
    let counted : count ≡ store.core.before + length store.core.history = cc in
    (ap (λ (c : Core). c.durable) after ∙ sym (ap (λ (c : Core). length c.history) after), counted ∙ sym (ap (λ (c : Core). c.before + length c.history) after))
flushed_by store next count n (Some refusal) answer core is =
    let never : Counts count ≡ Refuses refusal = sym answer ∙ ap (λ (s : Stepped). s.answer) is in
    let no : ⊥ = cc in
    absurd no

flushed_core : (store next : StoreView) (count : ℕ) → Goes store Flush (Counts count) next → (next.core.durable ≡ length next.core.history) × (count ≡ next.core.before + length next.core.history)
flushed_core store next count goes =
    let n : Stepped = record { answer = Counts count; core = next.core; blanks = next.blanks } in
    elim goes.1 [
      | inl same ↦ flushed_by store next.core count n (first_refusal (checks store.core store.blanks Flush)) refl refl same
      | inr lacking ↦ elim lacking [
        | inl memory ↦ let is : Counts count ≡ Refuses refusals.Memory = ap (λ (s : Stepped). s.answer) memory.1 in let never : ⊥ = cc in absurd never
        | inr device ↦ let is : Counts count ≡ Refuses refusals.Device = ap (λ (s : Stepped). s.answer) device.1 in let never : ⊥ = cc in absurd never
      ]
    ]

-- ---- the passes after it

-- one that was told of its last accept isn't told again
told_once : (count : ℕ) (held : HeldPass) → with_flush count (with_flush count held) ≡ with_flush count held
told_once count held =
    let last = held.pass.last in
    let lent = nat_lt held.pass.lent_at last in
    let told = with_answer held (with_told held.pass last Accepted) last Accepted in
    let counted : HeldPass → HeldPass = λ h. record h { flushed = count } in
    let again : HeldPass → HeldPass = λ h. with_answer (counted h) (with_told h.pass last Accepted) last Accepted in
    elim (lent && is_unknown (known held.pass last)) as (λ b. (lent && is_unknown (known held.pass last)) ≡ b → with_flush count (counted (if b then told else held)) ≡ counted (if b then told else held)) [
      | true ↦ λ _.
          let seen = row_seen told.pass.row last (reached_least held.pass.row last).0 in
          ap (λ b. counted (if lent && b then again told else counted told)) seen ∙ ap counted (none_more lent (counted told) (again told))
      | false ↦ λ off. ap (λ b. counted (if b then again held else counted held)) off
    ] refl
  where
    none_more : (b : Bool) (x y : HeldPass) → (if b && false then y else x) ≡ x
    none_more true x y = refl
    none_more false x y = refl

-- one that was set stands there
set_there : (xs : List (Option HeldPass)) (place : ℕ) (h g : HeldPass) → slice_get xs place ≡ Some (Some h) → slice_get (slice_set xs place (Some g)) place ≡ Some (Some g)
set_there [] place h g at = let never : ⊥ = cc in absurd never
set_there (x ∷ xs) zero h g at = refl
set_there (x ∷ xs) (suc place) h g at = set_there xs place h g at

-- and all others stand there still, and so does it where it was one
still_there : (xs : List (Option HeldPass)) (place n : ℕ) (h g k : HeldPass) → slice_get xs place ≡ Some (Some h) → (h ≡ k → g ≡ k) → slice_get xs n ≡ Some (Some k) → slice_get (slice_set xs place (Some g)) n ≡ Some (Some k)
still_there [] place n h g k at same got = let never : ⊥ = cc in absurd never
still_there (x ∷ xs) zero zero h g k at same got = let is : h ≡ k = cc in ap (λ (p : HeldPass). Some (Some p)) (same is)
still_there (x ∷ xs) zero (suc n) h g k at same got = got
still_there (x ∷ xs) (suc place) zero h g k at same got = got
still_there (x ∷ xs) (suc place) (suc n) h g k at same got = still_there xs place n h g k at same got

-- one that a flush tells nothing more stands there still
told_there : (count : ℕ) (authority : LentPasses) (passes : List HeldPass) (last : LentPasses) → TellAll count authority passes last → (n : ℕ) (k : HeldPass) → with_flush count k ≡ k → slice_get authority.held n ≡ Some (Some k) → slice_get last.held n ≡ Some (Some k)
told_there count authority [] last told n k once got = subst (λ (b : LentPasses). slice_get b.held n ≡ Some (Some k)) (sym told) got
told_there count authority (held ∷ rest) last told n k once got =
    let kept = told.1 in
    let here = still_there authority.held kept.place n held (with_flush count held) k kept.had (λ is. ap (with_flush count) is ∙ once) got in
    told_there count told.0 rest last told.2 n k once (subst (λ (hs : List (Option HeldPass)). slice_get hs n ≡ Some (Some k)) (sym kept.has) here)

all_told : (P : HeldPass → Type 0) (count : ℕ) (authority : LentPasses) (passes : List HeldPass) (last : LentPasses) → TellAll count authority passes last → ((n : ℕ) (j : HeldPass) → slice_get last.held n ≡ Some (Some j) → P j) → AllByRecursion P (map (with_flush count) passes)
all_told P count authority [] last told each = tt
all_told P count authority (held ∷ rest) last told each =
    let kept = told.1 in
    let new = with_flush count held in
    let here = subst (λ (hs : List (Option HeldPass)). slice_get hs kept.place ≡ Some (Some new)) (sym kept.has) (set_there authority.held kept.place held new kept.had) in
    (each kept.place new (told_there count told.0 rest last told.2 kept.place new (told_once count held) here), all_told P count told.0 rest last told.2 each)

pub flushed_if : {D : Type 0} (shown : RuntimeShown) (hub next : HubShown D) (passes new : List HeldPass) (r : Result ℕ Refusal) → IsMoment shown next.core → Goes (store_in hub) Flush (counts_or_refused r) (store_in next) →
    IfOk r (λ count. TellAll count hub.passes passes next.passes) → IfOk r (λ count. new ≡ map (with_flush count) passes) → ((n : ℕ) (j : HeldPass) → slice_get next.passes.held n ≡ Some (Some j) → IsCurrent j next.core) → IfOk r (AreFlushed shown new)
flushed_if shown hub next passes new (Ok count) moment goes told is each =
    let core = flushed_core (store_in hub) (store_in next) count goes in
    let Current : HeldPass → Type 0 = λ held. IsCurrent held next.core in
    record {
      core = next.core;
      moment = moment;
      durable = core.0;
      counted = core.1;
      current = subst (AllByRecursion Current) (sym is) (all_told Current count hub.passes passes next.passes told each);
    }
flushed_if shown hub next passes new (Err refusal) moment goes told is each = tt
