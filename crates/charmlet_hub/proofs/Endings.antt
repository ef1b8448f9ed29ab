-- What is under way on one shelf after another ends.
use Rattle.std.proofs.Common.{◌≡◌, Bool, true, false, ◌&&◌, ℕ, zero, suc, ◌+◌, ◌<◌, ◌≤◌, List, [], ◌∷◌, ◌++◌, get_or, length, map, take, drop, refl, sym, ap, subst, ◌∙◌, arith}
use Rattle.std.specs.Prelude.{Some, slice_get, slice_set}
use Rattle.std.specs.List.{All, AllByRecursion}
use Rattle.std.proofs.lemmas.List.{append-nil, drop_all, take-append-le, take_all}
use Rattle.std.proofs.lemmas.List.Elements.{All-from_recursion}
use Rattle.charmlet_sequencer.specs.Moving.{IsIdle}
use Rattle.charmlet_shelf.specs.Shelf.{View}
use Rattle.charmlet_shelf.specs.declared.phase.Phase.{Phase}
use Rattle.charmlet_shelf.specs.declared.phase.Phase.TheVariants as phases
use Rattle.charmlet_leases.proofs.PassesLemmas.Places.{found, next-changed}
use Rattle.charmlet_leases.specs.Seats.Seats.{Seats}
use Rattle.charmlet_hub.specs.Hub.{HubShown}
use Rattle.charmlet_hub.specs.Settling.{SettleAll, Settles, SettlesIn, ended}

-- the next one is the first that is left
pub next_left : {A : Type 0} (f : A → A) (xs : List A) (i : ℕ) (x : A) → slice_get (map f (take i xs) ++ drop i xs) i ≡ Some x → drop i xs ≡ x ∷ drop (suc i) xs
next_left f [] zero x at = absurd (cc)
next_left f [] (suc i) x at = absurd (cc)
next_left f (y ∷ xs) zero x at = let same : y ≡ x = cc in ap (λ z. z ∷ xs) same
next_left f (y ∷ xs) (suc i) x at = next_left f xs i x at

-- and none is left at the end
pub none_left : {A : Type 0} (f : A → A) (xs : List A) (i : ℕ) → length xs ≤ i → map f (take i xs) ++ drop i xs ≡ map f xs
none_left f xs i all = (λ k. map f (take_all i xs all k) ++ drop_all i xs all k) ∙ append-nil (map f xs)

all_ended : (xs : List View) → AllByRecursion IsIdle (map ended xs)
all_ended [] = tt
all_ended (x ∷ xs) = (refl, all_ended xs)

pub shelves_idle : (xs now : List View) → now ≡ map ended xs → All IsIdle now
shelves_idle xs now is = All-from_recursion IsIdle now (subst (AllByRecursion IsIdle) (sym is) (all_ended xs))

-- all of a list stands behind its slice
pub behind : (xs ys : List View) (n : ℕ) → n ≡ length ys → take n (ys ++ drop (length ys) xs) ≡ ys
behind xs ys n all = take-append-le n ys (drop (length ys) xs) (omega arith) ∙ take_all n ys (omega arith)

pub left_true : (a b : Bool) → (a && b) ≡ true → a ≡ true
left_true true b both = refl
left_true false b both = both

module _ {D : Type 0} where
  same_out : (hub next : HubShown D) (phase : Phase) (processor : ℕ) → SettlesIn phase hub processor next → next.seats.out ≡ hub.seats.out
  same_out hub next phases.Idle processor same = ap (λ (h : HubShown D). h.seats.out) same
  same_out hub next (phases.Assigned due) processor settles = ap (λ (s : Seats). s.out) settles.1
  same_out hub next (phases.Done done) processor settles = ap (λ (s : Seats). s.out) settles.2

  -- no seat comes or goes
  pub settled_out : (hub next : HubShown D) (shelf : View) → Settles hub shelf next → next.seats.out ≡ hub.seats.out
  settled_out hub next shelf settles = same_out hub next shelf.phase shelf.number settles

  -- What was under way on the first shelves has ended, and the others are left: what ends on these
  -- is what ends on all.
  pub record HasSettled (first hub : HubShown D) (xs now : List View) (i : ℕ) : Type 0 where
    pub settles : (last : HubShown D) → SettleAll hub (drop i xs) last → SettleAll first xs last
    pub shelves : now ≡ map ended (take i xs) ++ drop i xs
    pub passes : hub.passes ≡ first.passes
    pub out : hub.seats.out ≡ first.seats.out
    pub disk : hub.disk ≡ first.disk

  module _ (first hub : HubShown D) (xs now : List View) (i : ℕ) (so_far : HasSettled first hub xs now i) where
    -- on one more
    pub one_settled : (next : HubShown D) (x y : View) → i < length now → x ≡ get_or now i x → Settles hub x next → y ≡ ended x →
        next ≡ record hub { core = next.core; census = next.census; seats = next.seats } → HasSettled first next xs (slice_set now i y) (i + 1)
    one_settled next x y within is settles end rest =
        let at : slice_get (map ended (take i xs) ++ drop i xs) i ≡ Some x = subst (λ l. slice_get l i ≡ Some x) so_far.shelves (found now i x within is) in
        let left = next_left ended xs i x at in
        let one : suc i ≡ i + 1 = omega arith in
        record {
          settles = λ last all. so_far.settles last (subst (λ l. SettleAll hub l last) (sym left) (next, settles, subst (λ n. SettleAll next (drop n xs) last) (sym one) all));
          shelves = (λ k. slice_set (so_far.shelves k) i (end k)) ∙ next-changed ended xs i x at ∙ ap (λ n. map ended (take n xs) ++ drop n xs) one;
          passes = ap (λ (h : HubShown D). h.passes) rest ∙ so_far.passes;
          out = settled_out hub next x settles ∙ so_far.out;
          disk = ap (λ (h : HubShown D). h.disk) rest ∙ so_far.disk;
        }

    -- on all
    module _ (all : length xs ≤ i) where
      pub all_settled : SettleAll first xs hub
      all_settled = so_far.settles hub (subst (λ l. SettleAll hub l hub) (sym (drop_all i xs all)) refl)

      pub shelves_ended : now ≡ map ended xs
      shelves_ended = so_far.shelves ∙ none_left ended xs i all
