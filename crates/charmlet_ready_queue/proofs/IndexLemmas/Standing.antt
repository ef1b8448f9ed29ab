-- What a caller knows of sequence numbers by where they are.
use Rattle.std.proofs.Common.{◌≡◌, ◌≢◌, ℕ, ◌+◌, suc, Bool, true, false, ◌||◌, List, [], ◌∷◌, refl, sym, ap, subst, ◌∙◌, arith, slice_get}
use Rattle.std.specs.Prelude.{◌==◌, Some}
use Rattle.std.specs.List.{AllByRecursion}
use Rattle.charmlet_ready_queue.specs.declared.index.lists.Lists.{Lists}
use Rattle.charmlet_ready_queue.specs.declared.index.chain.Call.{Call}
use Rattle.charmlet_ready_queue.specs.declared.index.place.QueuePlace.{QueuePlace}
use Rattle.charmlet_ready_queue.specs.declared.index.place.Readiness.{Readiness}
use Rattle.charmlet_ready_queue.specs.Index.Index.{AreApart, HaveRoom, IsRoomy, moved, place_by, stood, touches}

-- ---- the sequence numbers of one element

-- where no processor is touched that wasn't before, there is room
pub rooms_kept : (headroom : ℕ) (old new : Readiness) (count : ℕ) (lists : List Lists) → ((p : ℕ) → touches (place_by new true) p ≡ true → touches (place_by old true) p ≡ true) → HaveRoom headroom old new count lists
rooms_kept headroom old new count lists still p l there was is = let bad : true ≡ false = sym (still p is) ∙ was in cc

-- so it is of an element that stays on its processor, or comes home
pub rooms_on_same : (headroom : ℕ) (old new : Readiness) (count : ℕ) (lists : List Lists) → old.on ≡ new.on → old.home ≡ new.home → HaveRoom headroom old new count lists
rooms_on_same headroom old new count lists on home = rooms_kept headroom old new count lists (λ p is. ap (λ o. (o == p) || (old.home == p)) on ∙ (ap (λ h. (new.on == p) || (h == p)) home ∙ is))

pub rooms_at_home : (headroom : ℕ) (old new : Readiness) (count : ℕ) (lists : List Lists) → old.home ≡ new.home → new.on ≡ new.home → HaveRoom headroom old new count lists
rooms_at_home headroom old new count lists home at = rooms_kept headroom old new count lists (λ p is. by (old.on == p) (old.home == p) (here p is))
  where
    both : (t : Bool) → (t || t) ≡ true → t ≡ true
    both true h = refl
    both false h = h

    here : (p : ℕ) → touches (place_by new true) p ≡ true → (old.home == p) ≡ true
    here p is = both (old.home == p) (ap (λ h. (h == p) || (h == p)) home ∙ (ap (λ o. (o == p) || (new.home == p)) (sym at) ∙ is))

    by : (s t : Bool) → t ≡ true → (s || t) ≡ true
    by true t h = refl
    by false t h = h

or_true : (b : Bool) → (b || true) ≡ true
or_true true = refl
or_true false = refl

-- and of one that moves, where room was made
pub rooms_made : (headroom : ℕ) (old new : Readiness) (count : ℕ) (lists : List Lists) → old.home ≡ new.home → ((l : Lists) → slice_get lists new.on ≡ Some l → IsRoomy (headroom + count) l) → HaveRoom headroom old new count lists
rooms_made headroom old new count lists home made p l there was is = made l (subst (λ q. slice_get lists q ≡ Some l) (sym (there_is (new.on == p) (old.home == p) was (ap (λ h. (new.on == p) || (h == p)) home ∙ is) refl)) there)
  where
    there_is : (s t : Bool) → ((old.on == p) || t) ≡ false → (s || t) ≡ true → (new.on == p) ≡ s → new.on ≡ p
    there_is true t h k e = grind arith
    there_is false true h k e = let bad : true ≡ false = sym (or_true (old.on == p)) ∙ h in cc
    there_is false false h k e = cc

-- sequence numbers of others stay where they are
pub stood_other : (readiness : Readiness) (calls : List Call) (place : ℕ → QueuePlace) (n : ℕ) → AllByRecursion (λ (c : Call). c.number ≢ n) calls → stood readiness calls place n ≡ place n
stood_other readiness [] place n h = refl
stood_other readiness (c ∷ calls) place n h = stood_other readiness calls (moved c.number (place_by readiness c.constructs) place) n h.1 ∙ rw (unlike c.number n h.0) refl
  where
    unlike : (a b : ℕ) → a ≢ b → (b == a) ≡ false
    unlike a b h = grind arith

-- and its own are where it stands
pub stood_there : (readiness : Readiness) (calls : List Call) (place : ℕ → QueuePlace) (i : ℕ) (c : Call) → AreApart calls → slice_get calls i ≡ Some c → stood readiness calls place c.number ≡ place_by readiness c.constructs
stood_there readiness [] place i c apart at = cc
stood_there readiness (d ∷ calls) place Prim.Native.Nat.zero c apart at =
    let same : d ≡ c = cc in
    subst (λ (b : Call). stood readiness calls (moved b.number (place_by readiness b.constructs) place) c.number ≡ place_by readiness c.constructs) (sym same)
    (stood_other readiness calls (moved c.number (place_by readiness c.constructs) place) c.number (subst (λ (b : Call). AllByRecursion (λ (e : Call). e.number ≢ b.number) calls) same apart.0) ∙ rw (like c.number) refl)
  where
    like : (n : ℕ) → (n == n) ≡ true
    like n = grind arith
stood_there readiness (d ∷ calls) place (suc i) c apart at = stood_there readiness calls (moved d.number (place_by readiness d.constructs) place) i c apart.1 at
