-- What is known is true of a history.
use Rattle.std.proofs.Common.{◌≡◌, inl, inr, ℕ, ◌≤◌, true, List, [], ◌∷◌, ◌++◌, take, drop, refl, sym, ap, subst, ◌∙◌, arith, Some}
use Rattle.std.specs.List.{AllByRecursion}
use Rattle.std.proofs.lemmas.List.{take-append-drop}
use Rattle.charmlet_model.specs.declared.event.Event.{Event}
use Rattle.charmlet_model.specs.declared.client.ClientRow.{ClientRow}
use Rattle.charmlet_model.specs.declared.told.Told.{Told}
use Rattle.charmlet_model.specs.declared.told.Told.TheVariants.{Unknown, Accepted, Replied, Past}
use Rattle.charmlet_model.specs.Row.{below, reply_to}
use Rattle.charmlet_model.specs.World.{World, world, can, can_all, after, client_of, IsEvent}
use Rattle.charmlet_model.specs.Fit.{IsFit}
use Rattle.charmlet_model.specs.Told.{Holds, told, told_of, told_of_item}
use Rattle.charmlet_model.specs.Core.{Core, durable_world}
use Rattle.charmlet_model.specs.Sound.{IsSound}
use Rattle.charmlet_model.proofs.Fits.{fit-world}
use Rattle.charmlet_model.proofs.Maps.{both_parts}
use Rattle.charmlet_model.proofs.Windows.{inside-parts}
use Rattle.charmlet_requests.specs.Knowing.{IsWindowed, IsNoLess, reached, heard}
use Rattle.charmlet_requests.specs.Pass.{Pass, known, with_told, IsTold}
use Rattle.charmlet_requests.proofs.Covering.{Covers, says, Above, Waits, HasReply, Below, told-above, told-inside, told-below, replied-parts}
use Rattle.charmlet_requests.proofs.Rising.{holds-told, covers-more}
use Rattle.charmlet_requests.proofs.Known.{last-passed, below-passed, invents_none-passed, last-reached, below-reached, invents_none-reached, windowed-reached, last-known, below-known, known-then}

-- ---- a history that begins a legal one

pub events-first : (history more : List Event) → AllByRecursion IsEvent (history ++ more) → AllByRecursion IsEvent history
events-first [] more h = tt
events-first (e ∷ es) more h = (h.0, events-first es more h.1)

pub can_all-first : (w : World) (history more : List Event) → can_all w (history ++ more) ≡ true → can_all w history ≡ true
can_all-first w [] more h = refl
can_all-first w (e ∷ es) more h =
    let parts = both_parts (can w e) (can_all (after w e) (es ++ more)) h in
    let first = can_all-first (after w e) es more parts.1 in
    both_true parts.0 first
  where
    both_true : can w e ≡ true → can_all (after w e) es ≡ true → can_all w (e ∷ es) ≡ true
    both_true p q = cc

-- ---- a row by which all that is known is true

module _ (w : World) (history : List Event) (client : ℕ) (fit : IsFit w) (events : AllByRecursion IsEvent history) (legal : can_all w history ≡ true) where
  abbrev real : ClientRow
  real = client_of (world w history) client

  pub record IsTrue (row : ClientRow) : Type 0 where
    pub last : row.last ≤ real.last
    pub passed : below row ≤ below real
    pub replies : (k : ℕ) (reply : List ℕ) → reply_to row k ≡ Some reply → Holds w history client k (Replied reply)

  abbrev AllHold : ClientRow → Type 0
  AllHold row = (k : ℕ) → Holds w history client k (told_of row k)

  fit-real : IsFit (world w history)
  fit-real = fit-world w history fit events legal

  windowed-real : IsWindowed real
  windowed-real = record { few = (fit-real.clients client).few; numbered = (fit-real.clients client).numbered }

  -- of what a row tells that isn't unknown the number was accepted
  known-real : (k : ℕ) (t : Told) → Holds w history client k t → IsNoLess Accepted t → k ≤ real.last
  known-real k t holds is_known = elim (says real k) [
    | Above above ↦ absurd (none t (subst (IsNoLess t) (told-above real k above) (holds-told w history client k t fit events legal holds)) is_known)
    | Waits within above none ↦ within
    | HasReply reply within above some ↦ within
    | Below under ↦ omega arith
  ]
    where
      none : (t : Told) → IsNoLess t Unknown → IsNoLess Accepted t → ⊥
      none Unknown h k = k
      none Accepted h k = h
      none (Replied reply) h k = elim h [
        | inl same ↦ cc
        | inr past ↦ cc
      ]
      none Past h k = cc

  pub true-holds : (row : ClientRow) → AllHold row → IsTrue row
  true-holds row all = record {
    last = elim (says row row.last) [
      | Above above ↦ absurd (omega arith)
      | Waits within above none ↦ known-real row.last Accepted (subst (Holds w history client row.last) (told-inside row row.last above within ∙ ap told_of_item none) (all row.last)) tt
      | HasReply reply within above some ↦
          known-real row.last (Replied reply) (subst (Holds w history client row.last) (told-inside row row.last above within ∙ ap told_of_item some) (all row.last)) tt
      | Below under ↦ known-real row.last Past (subst (Holds w history client row.last) (told-below row row.last under) (all row.last)) tt
    ];
    passed = let here : Holds w history client (below row) Past = subst (Holds w history client (below row)) (told-below row (below row) (omega arith)) (all (below row)) in here;
    replies = λ k reply is.
        let inside = inside-parts row k (replied-parts row k reply is).0 in
        subst (Holds w history client k) (told-inside row k inside.0 inside.1 ∙ ap told_of_item is) (all k);
  }

  pub holds-true : (row : ClientRow) → IsTrue row → AllHold row
  holds-true row is k =
      let last = is.last in
      let under = is.passed in
      elim (says row k) [
        | Above above ↦ subst (Holds w history client k) (sym (told-above row k above)) tt
        | Waits within above none ↦ subst (Holds w history client k) (sym (told-inside row k above within ∙ ap told_of_item none)) (let here : k ≤ real.last = omega arith in here)
        | HasReply reply within above some ↦ subst (Holds w history client k) (sym (told-inside row k above within ∙ ap told_of_item some)) (is.replies k reply some)
        | Below past ↦ subst (Holds w history client k) (sym (told-below row k past)) (let here : k ≤ below real = omega arith in here)
      ]

  true-reached : (row : ClientRow) (number : ℕ) → IsWindowed row → IsTrue row → number ≤ real.last → IsTrue (reached row number)
  true-reached row number windowed is known =
      let last = is.last in
      let under = is.passed in
      let few = windowed-real.few in
      let bounded = windowed-real.numbered in
      record {
        last = elim (last-reached row number windowed).1 [
          | inl same ↦ omega arith
          | inr within ↦ omega arith
        ];
        passed = elim (below-reached row number windowed) [
          | inl same ↦ omega arith
          | inr within ↦ omega arith
        ];
        replies = λ k reply here. is.replies k reply (invents_none-reached row number windowed k reply here);
      }

  -- what is true stays so, and what was told is true too
  pub true-heard : (row : ClientRow) (number : ℕ) (t : Told) → IsWindowed row → IsTrue row → Holds w history client number t → IsTrue (heard row number t)
  true-heard row number Unknown windowed is holds = is
  true-heard row number Accepted windowed is holds = true-reached row number windowed is holds
  true-heard row number (Replied reply) windowed is holds =
      let there = reached row number in
      let whole = true-reached row number windowed is (known-real number (Replied reply) holds tt) in
      let in_window = windowed-reached row number windowed in
      let last = whole.last in
      let under = whole.passed in
      record {
        last = let same = last-known there number reply in_window in omega arith;
        passed = let same = below-known there number reply in_window in omega arith;
        replies = λ k other here. elim (known-then there number reply in_window k other here) [
          | inl old ↦ whole.replies k other old
          | inr new ↦ subst (λ n. Holds w history client n (Replied other)) (sym new.0) (subst (λ r. Holds w history client number (Replied r)) new.1 holds)
        ];
      }
  true-heard row number Past windowed is holds =
      let last = is.last in
      let under = is.passed in
      let bounded = windowed-real.numbered in
      let past : number ≤ below real = holds in
      record {
        last = elim (last-passed row number windowed).2 [
          | inl same ↦ omega arith
          | inr same ↦ omega arith
        ];
        passed = elim (below-passed row number windowed).2 [
          | inl same ↦ omega arith
          | inr same ↦ omega arith
        ];
        replies = λ k reply here. is.replies k reply (invents_none-passed row number windowed k reply here);
      }

-- ---- a pass and a core

module _ (core : Core) (sound : IsSound core) where
  abbrev durable_events : List Event
  durable_events = take core.durable core.history

  abbrev rest : List Event
  rest = drop core.durable core.history

  both : durable_events ++ rest ≡ core.history
  both = take-append-drop core.durable core.history

  whole-events : AllByRecursion IsEvent (durable_events ++ rest)
  whole-events = subst (AllByRecursion IsEvent) (sym both) sound.legal.events

  whole-can : can_all core.opening (durable_events ++ rest) ≡ true
  whole-can = ap (can_all core.opening) both ∙ sound.legal.each_can

  first-events : AllByRecursion IsEvent durable_events
  first-events = events-first durable_events rest whole-events

  first-can : can_all core.opening durable_events ≡ true
  first-can = can_all-first core.opening durable_events rest whole-can

  -- the present row says no less than the durable one
  pub covers-present : (client : ℕ) → Covers (client_of (durable_world core) client) (client_of (world core.opening core.history) client)
  covers-present client = subst (λ es. Covers (client_of (durable_world core) client) (client_of (world core.opening es) client)) both
      (covers-more core.opening durable_events rest client sound.opening whole-events whole-can)

  -- what a pass knows is told
  pub told-known : (pass : Pass) (number : ℕ) → IsTold pass core → IsNoLess (known pass number) (told (durable_world core) pass.client number)
  told-known pass number all = holds-told core.opening durable_events pass.client number (known pass number) sound.opening first-events first-can (all number)

  -- and what it hears of what is durable leaves all true
  pub hears-truth : (pass : Pass) (number : ℕ) (t : Told) → IsWindowed pass.row → Holds core.opening durable_events pass.client number t → IsTold pass core → IsTold (with_told pass number t) core
  hears-truth pass number t windowed holds all =
      holds-true core.opening durable_events pass.client sound.opening first-events first-can (heard pass.row number t)
      (true-heard core.opening durable_events pass.client sound.opening first-events first-can pass.row number t windowed
      (true-holds core.opening durable_events pass.client sound.opening first-events first-can pass.row all) holds)
