-- Passes that are taken in, one after another.
use Rattle.std.proofs.Common.{◌≡◌, ◌≢◌, ◌⊎◌, inl, inr, ⊎_elim, ℕ, List, [], ◌∷◌, ◌++◌, length, Option, Some, None, subst, arith, length-append}
use Rattle.std.specs.Prelude.{slice_get, slice_set, Contains}
use Rattle.std.specs.List.{AllByRecursion}
use Rattle.std.proofs.lemmas.List.Elements.{All-contains, All-from_recursion, Contains-append_left, Contains-push}
use Rattle.charmlet_leases.specs.Passes.Passes.{HeldPass, AreAll, AreCurrent, HaveAllAccepts, passes_out}
use Rattle.charmlet_model.specs.Core.{Core}
use Rattle.charmlet_leases.proofs.PassesLemmas.Places.{all-last, at_set, count-without, none-at, was_at}

-- this pass is out
abbrev pub IsOut : List (Option HeldPass) → HeldPass → Type 0
IsOut held h = (place : ℕ) × (slice_get held place ≡ Some (Some h))

-- of the passes that were handed in, with which the authority had this, those are left, with which it has
-- that
pub record IsTakenSoFar (all : List (Option HeldPass)) (handed : List HeldPass) (held : List (Option HeldPass)) (left : List HeldPass) : Type 0 where
  pub count : length (passes_out held) ≡ length left
  pub same : (place : ℕ) (h : HeldPass) → slice_get held place ≡ Some (Some h) → slice_get all place ≡ Some (Some h)
  pub inside : (h : HeldPass) → Contains left h → Contains handed h
  pub each : (place : ℕ) (h : HeldPass) → slice_get all place ≡ Some (Some h) → (slice_get held place ≡ Some (Some h)) ⊎ Contains handed h
  pub only : AllByRecursion (IsOut all) left → AllByRecursion (IsOut all) handed

pub taken-none : (held : List (Option HeldPass)) (passes : List HeldPass) → length (passes_out held) ≡ length passes → IsTakenSoFar held passes held passes
taken-none held passes count = record {
  count = count;
  same = λ place h at. at;
  inside = λ h is. is;
  each = λ place h at. inl at;
  only = λ out. out;
}

pub taken-one : (all : List (Option HeldPass)) (handed : List HeldPass) (held : List (Option HeldPass)) (left : List HeldPass) (place : ℕ) (pass : HeldPass) → slice_get held place ≡ Some (Some pass) →
    IsTakenSoFar all handed held (left ++ pass ∷ []) → IsTakenSoFar all handed (slice_set held place None) left
taken-one all handed held left place pass there so_far = record {
  count =
      let one = count-without held place pass there in
      let was = so_far.count in
      let long = length-append left (pass ∷ []) in
      omega (arith, one, was, long);
  same = λ at h is.
      ⊎_elim (λ (t : (at ≡ place) × (None ≡ Some h)). absurd (let no : ⊥ = cc (t.1) in no))
      (λ (t : (at ≢ place) × (slice_get held at ≡ Some (Some h))). so_far.same at h t.1)
      (at_set held place None (Some h) at is);
  inside = λ h is. so_far.inside h (Contains-append_left left (pass ∷ []) h is);
  each = λ at h is.
      ⊎_elim (λ still. ⊎_elim (λ (same : Some pass ≡ Some h). let one : pass ≡ h = cc in inr (subst (Contains handed) one taken)) (λ there'. inl there') (was_at held place (Some pass) (Some h) None at there still)) (λ is_in. inr is_in) (so_far.each at h is);
  only = λ out. so_far.only (all-last (IsOut all) left pass out (place, so_far.same place pass there));
}
  where
    taken : Contains handed pass
    taken = so_far.inside pass (Contains-push left pass)

pub taken-all : (all : List (Option HeldPass)) (handed : List HeldPass) (held : List (Option HeldPass)) → IsTakenSoFar all handed held [] → AreAll all handed
taken-all all handed held so_far = record {
  each = λ place h at. ⊎_elim (λ still. absurd (none-at held place h so_far.count still)) (λ is. is) (so_far.each place h at);
  only = so_far.only tt;
}

-- what is true of each pass that is out is true of these
pub all-out : (P : HeldPass → Type 0) (held : List (Option HeldPass)) (passes : List HeldPass) → ((place : ℕ) (h : HeldPass) → slice_get held place ≡ Some (Some h) → P h) → AllByRecursion (IsOut held) passes → AllByRecursion P passes
all-out P held [] each only = tt
all-out P held (h ∷ passes) each only = (each only.0.0 h only.0.1, all-out P held passes each only.1)

all-apart : (client : ℕ) (passes : List HeldPass) (h : HeldPass) → AllByRecursion (λ (x : HeldPass). x.pass.client ≢ client) passes → Contains passes h → h.pass.client ≢ client
all-apart client passes h all among =
    let P : HeldPass → Type 0 = λ x. x.pass.client ≢ client in
    All-contains P passes h (All-from_recursion P passes all) among

-- these are the passes of all clients that have accepts
pub all-accepts : (held : List (Option HeldPass)) (out : List ℕ) (passes : List HeldPass) (core : Core) → AreCurrent (record { out = out; held = held }) core → AreAll held passes → HaveAllAccepts passes core
all-accepts held out passes core are all = λ client none. are.others client (λ place h at. all-apart client passes h none (all.each place h at))
