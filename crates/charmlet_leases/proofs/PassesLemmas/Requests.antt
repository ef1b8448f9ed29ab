-- What is made of the passes by requests.
use Rattle.std.proofs.Common.{◌≡◌, ◌≢◌, ◌⊎◌, inl, inr, ⊎_elim, ℕ, zero, suc, ◌+◌, ◌-◌, ◌≤◌, true, false, List, [], ◌∷◌, ◌++◌, length, take, drop, refl, sym, ap, subst, ◌∙◌, arith, length-append, if◌then◌else◌, Option, Some, None, nat_lt, Result}
use Rattle.std.specs.Prelude.{◌==◌, ◌&&◌, slice_get, slice_set, IfErr, IfOk, OnErr}
use Rattle.std.specs.List.{AllByRecursion}
use Rattle.std.specs.Cmp.{nat_eq_equiv}
use Rattle.std.specs.Ordering.{nat_cmp}
use Rattle.std.specs.BTreeSet.{insert_key}
use Rattle.std.proofs.lemmas.Bool.{ltb-true, ltb-false}
use Rattle.std.proofs.lemmas.List.{drop-append-le, drop_all, take-append-le, take_all}
use Rattle.std.proofs.lemmas.Map.Views.{exact_unsigned_eq}
use Rattle.charmlet_model.specs.declared.names.Elem.{Elem}
use Rattle.charmlet_model.specs.declared.event.Event.{Event}
use Rattle.charmlet_model.specs.declared.event.Event.TheVariants.{Accept}
use Rattle.charmlet_model.specs.declared.told.Told.{Told}
use Rattle.charmlet_model.specs.declared.told.Told.TheVariants.{Accepted}
use Rattle.charmlet_model.specs.declared.refusal.Refusal.{Refusal}
use Rattle.charmlet_model.specs.declared.refusal.Refusal.TheVariants as refusals
use Rattle.charmlet_model.specs.Core.{Core, Blanks, Stepped, Steps, Request, Status, Tells, Refuses, Check, When, MayLackMemory, MayFail, first_refusal, checks, has_words, is_repeat, new_request_checks, present, durable_world, stepped_unless}
use Rattle.charmlet_model.specs.Reaction.{capped}
use Rattle.charmlet_model.specs.Row.{below, no_client}
use Rattle.charmlet_model.specs.Told.{Holds, told, told_of}
use Rattle.charmlet_model.specs.World.{client_of, world}
use Rattle.charmlet_model.specs.Sound.{IsSound}
use Rattle.charmlet_model.proofs.ToldLemmas.{told_durable}
use Rattle.charmlet_model.proofs.Windows.{inside-parts}
use Rattle.charmlet_requests.specs.Knowing.{IsNoLess, is_unknown}
use Rattle.charmlet_requests.specs.Pass.{Pass, IsTold, IsUpToDate, IsHeard, is_out, known, with_told}
use Rattle.charmlet_requests.proofs.Covering.{told-above, told-below}
use Rattle.charmlet_requests.proofs.Turns.{IsAnswered, answered, follows}
use Rattle.charmlet_leases.specs.Passes.Passes.{HasNone, HeldPass, LentPasses, AreKnown, AreRising, AreTrue, IsCurrent, AreCurrent, accepts_in, event_count, lent_since, held_by, with_last_accepted, with_answer}
use Rattle.charmlet_leases.specs.Passes.Passes as answers
use Rattle.charmlet_leases.proofs.PassesLemmas.Lasting.{GoesOnWithout, accepts_in-append, current-later, history-later, last-without}
use Rattle.charmlet_leases.proofs.PassesLemmas.Places.{at_end, at_set, was_at}
use Rattle.charmlet_leases.proofs.PassesLemmas.Rising.{known-answered, rising-answered}
use Rattle.charmlet_leases.proofs.PassesLemmas.Sets.{out-put, out-still}
use Rattle.charmlet_leases.proofs.PassesLemmas.OtherSteps.{stays}

-- ---- a pass is lent_since out

-- nothing was told
nothing_told : (core : Core) (client : ℕ) (number : ℕ) → Holds core.opening (take core.durable core.history) client number (told_of no_client number)
nothing_told core client number =
    elim (nat_lt 0 number) as (λ b. nat_lt 0 number ≡ b → Holds core.opening (take core.durable core.history) client number (told_of no_client number)) [
      | true ↦ λ less. subst (Holds core.opening (take core.durable core.history) client number) (sym (told-above no_client number (ltb-true 0 number less))) tt
      | false ↦ λ none.
          let not_less = ltb-false 0 number none in
          let row = client_of (world core.opening (take core.durable core.history)) client in
          let past : number ≤ below row = omega arith in
          subst (Holds core.opening (take core.durable core.history) client number) (sym (told-below no_client number (omega arith))) past
    ] refl

lent_current : (core : Core) (client : ℕ) → accepts_in client core.history ≡ [] → IsCurrent (lent_since client (client_of (present core) client).last (core.before + length core.history)) core
lent_current core client none = record {
  heard = tt;
  rising = tt;
  is_known = tt;
  told = nothing_told core client;
  lent_at = last-without core.opening core.history client none;
  up_to_date = refl;
  since = omega arith;
  within = omega arith;
  accepts = sym (ap (accepts_in client) (drop_all (core.before + length core.history - core.before) core.history (omega arith)));
  all = sym none;
  flushed = omega arith;
}

-- nothing stands in an empty list
none-stands : (place : ℕ) (h : HeldPass) → slice_get [] place ≡ Some (Some h) → ⊥
none-stands place h at = cc

-- what stands in a list does so in a longer one
still-there : {A : Type 0} (xs : List A) (a b : A) (n : ℕ) → slice_get xs n ≡ Some b → slice_get (xs ++ a ∷ []) n ≡ Some b
still-there [] a b n at = absurd (let no : ⊥ = cc in no)
still-there (x ∷ xs) a b zero at = at
still-there (x ∷ xs) a b (suc n) at = still-there xs a b n at

-- where nothing has happened no pass is out, and no client has accepts
pub none_current : (out : List ℕ) (held : List (Option HeldPass)) (core : Core) → held ≡ [] → core.history ≡ [] → AreCurrent (record { out = out; held = held }) core
none_current out held core empty new =
    let never : (place : ℕ) (h : HeldPass) → slice_get held place ≡ Some (Some h) → ⊥ = λ place h at. (let there : slice_get [] place ≡ Some (Some h) = subst (λ (hs : List (Option HeldPass)). slice_get hs place ≡ Some (Some h)) empty at in none-stands place h there) in
    record {
      each = λ place h at. absurd (never place h at);
      out = λ place h at. absurd (never place h at);
      apart = λ i j g h at there same. absurd (never i g at);
      others = λ client none. ap (accepts_in client) new;
    }

pub are_current-lent : (passes : LentPasses) (core : Core) (client : ℕ) (h : HeldPass) → is_out client passes.out ≡ false → h ≡ lent_since client (client_of (present core) client).last (core.before + length core.history) →
    AreCurrent passes core → AreCurrent (record { out = insert_key nat_cmp passes.out client; held = passes.held ++ Some h ∷ [] }) core
are_current-lent passes core client h in_here is are =
    let own : h.pass.client ≡ client = ap (λ (g : HeldPass). g.pass.client) is in
    let not_it : (i : ℕ) (g : HeldPass) → slice_get passes.held i ≡ Some (Some g) → g.pass.client ≢ client =
    λ i g at same. absurd (let there : is_out client passes.out ≡ true = subst (λ c. is_out c passes.out ≡ true) same (are.out i g at) in let no : ⊥ = cc in no) in
    let both : (i : ℕ) (g : HeldPass) → slice_get (passes.held ++ Some h ∷ []) i ≡ Some (Some g) → (slice_get passes.held i ≡ Some (Some g)) ⊎ ((h ≡ g) × (i ≡ length passes.held)) =
    λ i g at. ⊎_elim (λ t. inl t) (λ (t : (Some h ≡ Some g) × (i ≡ length passes.held)). inr (let one : h ≡ g = cc in one, t.1)) (at_end passes.held (Some h) (Some g) i at) in
    let none : accepts_in client core.history ≡ [] = are.others client not_it in
    record {
      each = λ i g at. ⊎_elim (are.each i g) (λ (t : (h ≡ g) × (i ≡ length passes.held)). subst (λ (k : HeldPass). IsCurrent k core) (sym is ∙ t.0) (lent_current core client none)) (both i g at);
      out = λ i g at. ⊎_elim (λ t. out-still passes.out client g.pass.client (are.out i g t))
          (λ (t : (h ≡ g) × (i ≡ length passes.held)). subst (λ c. is_out c (insert_key nat_cmp passes.out client) ≡ true) (sym own ∙ ap (λ (k : HeldPass). k.pass.client) t.0) (out-put passes.out client)) (both i g at);
      apart = λ i j f g at there same.
          ⊎_elim
          (λ t. ⊎_elim (λ u. are.apart i j f g t u same) (λ (u : (h ≡ g) × (j ≡ length passes.held)). absurd (not_it i f t (same ∙ sym (ap (λ (k : HeldPass). k.pass.client) u.0) ∙ own))) (both j g there))
          (λ (t : (h ≡ f) × (i ≡ length passes.held)). ⊎_elim (λ u. absurd (not_it j g u (sym same ∙ sym (ap (λ (k : HeldPass). k.pass.client) t.0) ∙ own))) (λ (u : (h ≡ g) × (j ≡ length passes.held)). t.1 ∙ sym u.1) (both j g there))
          (both i f at);
      others = λ c no. are.others c (λ i g at. no i g (still-there passes.held (Some h) (Some g) i at));
    }

-- ---- what one pass holds is written, and the others stay current

-- one that was set stands there
set-there : {A : Type 0} (xs : List A) (place : ℕ) (a b : A) → slice_get xs place ≡ Some a → slice_get (slice_set xs place b) place ≡ Some b
set-there [] place a b at = absurd (let no : ⊥ = cc in no)
set-there (x ∷ xs) zero a b at = refl
set-there (x ∷ xs) (suc place) a b at = set-there xs place a b at

pub are_current-written : (passes : LentPasses) (core new : Core) (place : ℕ) (h g : HeldPass) → slice_get passes.held place ≡ Some (Some h) → g.pass.client ≡ h.pass.client → IsCurrent g new →
    ((client : ℕ) → client ≢ h.pass.client → GoesOnWithout client core new) → IsSound core → IsSound new → AreCurrent passes core →
    AreCurrent (record { out = passes.out; held = slice_set passes.held place (Some g) }) new
are_current-written passes core new place h g there own is others sound sound' are =
    let both : (i : ℕ) (k : HeldPass) → slice_get (slice_set passes.held place (Some g)) i ≡ Some (Some k) → ((i ≡ place) × (g ≡ k)) ⊎ ((i ≢ place) × (slice_get passes.held i ≡ Some (Some k))) =
    λ i k at. ⊎_elim (λ (t : (i ≡ place) × (Some g ≡ Some k)). inl (t.0, let one : g ≡ k = cc in one)) (λ t. inr t) (at_set passes.held place (Some g) (Some k) i at) in
    let other : (i : ℕ) (k : HeldPass) → i ≢ place → slice_get passes.held i ≡ Some (Some k) → k.pass.client ≢ h.pass.client =
    λ i k far at same. far (are.apart i place k h at there same) in
    record {
      each = λ i k at. ⊎_elim (λ (t : (i ≡ place) × (g ≡ k)). subst (λ (x : HeldPass). IsCurrent x new) t.1 is)
          (λ (t : (i ≢ place) × (slice_get passes.held i ≡ Some (Some k))). current-later core new k (others k.pass.client (other i k t.0 t.1)) sound sound' (are.each i k t.1)) (both i k at);
      out = λ i k at. ⊎_elim (λ (t : (i ≡ place) × (g ≡ k)). subst (λ c. is_out c passes.out ≡ true) (sym own ∙ ap (λ (x : HeldPass). x.pass.client) t.1) (are.out place h there))
          (λ (t : (i ≢ place) × (slice_get passes.held i ≡ Some (Some k))). are.out i k t.1) (both i k at);
      apart = λ i j f k at at' same.
          ⊎_elim
          (λ (t : (i ≡ place) × (g ≡ f)). ⊎_elim (λ (u : (j ≡ place) × (g ≡ k)). t.0 ∙ sym u.0)
          (λ (u : (j ≢ place) × (slice_get passes.held j ≡ Some (Some k))). absurd (other j k u.0 u.1 (sym same ∙ sym (ap (λ (x : HeldPass). x.pass.client) t.1) ∙ own))) (both j k at'))
          (λ (t : (i ≢ place) × (slice_get passes.held i ≡ Some (Some f))). ⊎_elim
          (λ (u : (j ≡ place) × (g ≡ k)). absurd (other i f t.0 t.1 (same ∙ sym (ap (λ (x : HeldPass). x.pass.client) u.1) ∙ own)))
          (λ (u : (j ≢ place) × (slice_get passes.held j ≡ Some (Some k))). are.apart i j f k t.1 u.1 same) (both j k at'))
          (both i f at);
      others = λ c none.
          let other_client : c ≢ h.pass.client = λ same. none place g (set-there passes.held place (Some h) (Some g) there) (own ∙ sym same) in
          let had_none : HasNone passes.held c = λ i k at same. ⊎_elim (λ (one : Some h ≡ Some k). (let is_one : h ≡ k = cc in absurd (other_client (sym same ∙ sym (ap (λ (x : HeldPass). x.pass.client) is_one)))))
          (λ still. none i k still same) (was_at passes.held place (Some h) (Some k) (Some g) i there at) in
          history-later core new c (others c other_client) sound sound' ∙ are.others c had_none;
    }

-- all of two lists of answers are true
true-append : (core : Core) (client : ℕ) (xs ys : List (ℕ × Told)) → AreTrue core client xs → AreTrue core client ys → AreTrue core client (xs ++ ys)
true-append core client [] ys all more = more
true-append core client (x ∷ xs) ys all more = (all.0, true-append core client xs ys all.1 more)

-- ---- a request

module _ (core : Core) (blanks : Blanks) (client number : ℕ) (to : Elem) (entry : ℕ) (words : List ℕ) (sound : IsSound core) (new : Core) (t : Told)
    (steps : Steps core blanks (Request client number to entry words) (record { answer = Tells t; core = new; blanks = blanks })) where
  abbrev event : Event
  event = Accept client number to entry words

  -- what was accepted of the pass's client, with this request
  abbrev accepts_with : HeldPass → List Event
  accepts_with h = if nat_lt h.pass.last number then h.accepts ++ event ∷ [] else h.accepts

  then : IsAnswered core blanks client number to entry words new t
  then = answered core blanks client number to entry words new t steps

  either : (P : Core → Type 0) → (is_repeat core client number ≡ true → P core) → (is_repeat core client number ≡ false → P (record core { history = core.history ++ event ∷ [] })) → P new
  either P again fresh = subst P (sym then.next) (elim (is_repeat core client number) as (λ b. is_repeat core client number ≡ b → P (if b then core else record core { history = core.history ++ event ∷ [] })) [
    | true ↦ again
    | false ↦ fresh
  ] refl)

  -- it isn't one of another client's accepts
  pub others_go_on : (other : ℕ) → other ≢ client → GoesOnWithout other core new
  others_go_on other apart = either (GoesOnWithout other core) (λ _. stays other core) (λ _. record {
    opening = refl;
    before = refl;
    more = event ∷ [];
    grows = refl;
    no_fewer = omega arith;
    without = elim (client == other) as (λ b. (client == other) ≡ b → (if b then event ∷ [] else []) ≡ []) [
      | true ↦ λ same. absurd (apart (sym (exact_unsigned_eq client other same)))
      | false ↦ λ _. refl
    ] refl;
  })

  -- what is true of the durable events stays so
  true_still : (answers : List (ℕ × Told)) → AreTrue core client answers → AreTrue new client answers
  true_still answers are = either (λ c. AreTrue c client answers) (λ _. are)
      (λ _. subst (λ es. AllByRecursion (λ (a : ℕ × Told). Holds core.opening es client a.0 a.1) answers) (sym (take-append-le core.durable core.history (event ∷ []) sound.durable)) are)

  -- and so is the answer
  answer_true : AreTrue new client ((number, t) ∷ [])
  answer_true = true_still ((number, t) ∷ []) (told_durable core blanks (Request client number to entry words) (record { answer = Tells t; core = new; blanks = blanks }) client number t (refl, refl) steps refl, tt)

  own_event : accepts_in client (event ∷ []) ≡ event ∷ []
  own_event = ap (λ b. if b then event ∷ [] else []) (nat_eq_equiv.refl client)

  -- what the pass then holds
  pub own-current : (h g : HeldPass) → h.pass.client ≡ client → IsCurrent h core → IsTold g.pass new → IsUpToDate g.pass new → g.pass.client ≡ client → g.pass.lent_at ≡ h.pass.lent_at → g.since ≡ h.since → g.flushed ≡ h.flushed → g.accepts ≡ accepts_with h →
      g.heard ≡ h.heard ++ (number, t) ∷ [] → IsNoLess (known h.pass number) t → IsNoLess t (known g.pass number) → ((other : ℕ) → IsNoLess (known h.pass other) (known g.pass other)) → IsCurrent g new
  own-current h g own is told up_to_date own' lent' since' flushed' accepts' heard' more less kept =
      let last : (client_of (present core) client).last ≡ h.pass.last = subst (λ c. (client_of (present core) c).last ≡ h.pass.last) own is.up_to_date in
      let Whole : Core → Type 0 = λ c. (c.before ≤ h.since) × (h.since ≤ c.before + length c.history) × (accepts_with h ≡ accepts_in client (drop (h.since - c.before) c.history)) × (accepts_with h ≡ accepts_in client c.history) in
      let had_all : h.accepts ≡ accepts_in client core.history = is.all ∙ ap (λ c. accepts_in c core.history) own in
      let had : h.accepts ≡ accepts_in client (drop (h.since - core.before) core.history) = is.accepts ∙ ap (λ c. accepts_in c (drop (h.since - core.before) core.history)) own in
      let since = is.since in
      let inside = is.within in
      let whole : Whole new = either Whole
      (λ again.
      let number_inside = (inside-parts (client_of (present core) client) number again).1 in (
        since,
        inside,
        elim (nat_lt h.pass.last number) as (λ b. nat_lt h.pass.last number ≡ b → (if b then h.accepts ++ event ∷ [] else h.accepts) ≡ accepts_in client (drop (h.since - core.before) core.history)) [
          | true ↦ λ less. let above = ltb-true h.pass.last number less in absurd (omega arith)
          | false ↦ λ _. had
        ] refl,
        elim (nat_lt h.pass.last number) as (λ b. nat_lt h.pass.last number ≡ b → (if b then h.accepts ++ event ∷ [] else h.accepts) ≡ accepts_in client core.history) [
          | true ↦ λ less. let above = ltb-true h.pass.last number less in absurd (omega arith)
          | false ↦ λ _. had_all
        ] refl,
      ))
      (λ fresh.
      let next : number ≡ (client_of (present core) client).last + 1 = follows core blanks client number to entry words sound then.passes fresh in
      let n = h.since - core.before in
      let long : length (core.history ++ event ∷ []) ≡ length core.history + 1 = length-append core.history (event ∷ []) in (
        since,
        omega arith,
        elim (nat_lt h.pass.last number) as (λ b. nat_lt h.pass.last number ≡ b → (if b then h.accepts ++ event ∷ [] else h.accepts) ≡ accepts_in client (drop n (core.history ++ event ∷ []))) [
          | true ↦ λ _.
              ap (λ l. l ++ event ∷ []) had
              ∙ ap (λ l. accepts_in client (drop n core.history) ++ l) (sym own_event)
              ∙ sym (accepts_in-append client (drop n core.history) (event ∷ []))
              ∙ sym (ap (accepts_in client) (drop-append-le n core.history (event ∷ []) (omega arith)))
          | false ↦ λ no. let above = ltb-false h.pass.last number no in absurd (omega arith)
        ] refl,
        elim (nat_lt h.pass.last number) as (λ b. nat_lt h.pass.last number ≡ b → (if b then h.accepts ++ event ∷ [] else h.accepts) ≡ accepts_in client (core.history ++ event ∷ [])) [
          | true ↦ λ _. ap (λ l. l ++ event ∷ []) had_all ∙ ap (λ l. accepts_in client core.history ++ l) (sym own_event) ∙ sym (accepts_in-append client core.history (event ∷ []))
          | false ↦ λ no. let above = ltb-false h.pass.last number no in absurd (omega arith)
        ] refl,
      )) in
      let low = whole.0 in
      let high = whole.1 in
      let same_opening : new.opening ≡ core.opening = either (λ c. c.opening ≡ core.opening) (λ _. refl) (λ _. refl) in
      let flushed : h.flushed ≤ new.before + new.durable = either (λ c. h.flushed ≤ c.before + c.durable) (λ _. is.flushed) (λ _. is.flushed) in
      let had_heard : AreTrue core client h.heard = subst (λ c. AreTrue core c h.heard) own is.heard in
      record {
        heard = subst (λ (x : ℕ × List (ℕ × Told)). AreTrue new x.0 x.1) (λ i. (sym own' i, sym heard' i)) (true-append new client h.heard ((number, t) ∷ []) (true_still h.heard had_heard) answer_true);
        rising = subst AreRising (sym heard') (rising-answered h g.pass number t more less kept is.is_known is.rising);
        is_known = subst (AreKnown g.pass) (sym heard') (known-answered h g.pass number t more less kept is.is_known);
        told = told;
        lent_at = lent' ∙ is.lent_at ∙ (λ i. (client_of (sym same_opening i) ((own ∙ sym own') i)).last);
        up_to_date = up_to_date;
        since = omega arith;
        within = omega arith;
        accepts = accepts' ∙ whole.2 ∙ ap (λ (p : ℕ × ℕ). accepts_in p.0 (drop (p.1 - new.before) new.history)) (λ i. (sym own' i, sym since' i));
        all = accepts' ∙ whole.3 ∙ ap (λ c. accepts_in c new.history) (sym own');
        flushed = subst (λ n. n ≤ new.before + new.durable) (sym flushed') flushed;
      }

-- ---- the number that is wanted

abbrev AllChecks : (Refusal → Type 0) → List Check → Type 0
AllChecks P [] = Unit {0}
AllChecks P (When holds refusal ∷ more) = P refusal × AllChecks P more
AllChecks P (MayLackMemory ∷ more) = AllChecks P more
AllChecks P (MayFail ∷ more) = AllChecks P more

first-of : (P : Refusal → Type 0) (order : List Check) (r : Refusal) → AllChecks P order → first_refusal order ≡ Some r → P r
first-of P [] r all is = absurd (let no : ⊥ = cc in no)
first-of P (When true refusal ∷ more) r all is = let same : refusal ≡ r = cc in subst P same all.0
first-of P (When false refusal ∷ more) r all is = first-of P more r all.1 is
first-of P (MayLackMemory ∷ more) r all is = first-of P more r all is
first-of P (MayFail ∷ more) r all is = first-of P more r all is

module _ (core : Core) (blanks : Blanks) (client number : ℕ) (to : Elem) (entry : ℕ) (words : List ℕ) where
  abbrev Wanted : Refusal → Type 0
  Wanted refusal = (n : ℕ) → refusal ≡ refusals.OutOfTurn n → n ≡ capped (client_of (present core) client).last 1

  all_wanted : AllChecks Wanted (checks core blanks (Request client number to entry words))
  all_wanted = (
    (λ n e. absurd (let no : ⊥ = cc in no)),
    elim (is_repeat core client number) as (λ b. AllChecks Wanted (if b then MayLackMemory ∷ [] else new_request_checks core (client_of (present core) client) client number to words)) [
      | true ↦ tt
      | false ↦ ((λ n e. let same : capped (client_of (present core) client).last 1 ≡ n = cc in sym same), ((λ n e. absurd (let no : ⊥ = cc in no)), ((λ n e. absurd (let no : ⊥ = cc in no)), ((λ n e. absurd (let no : ⊥ = cc in no)), ((λ n e. absurd (let no : ⊥ = cc in no)), ((λ n e. absurd (let no : ⊥ = cc in no)), tt))))))
    ],
  )

  wanted_unless : (o : Option Refusal) (new : Core) (refusal : Refusal) → first_refusal (checks core blanks (Request client number to entry words)) ≡ o →
      (record { answer = Refuses refusal; core = new; blanks = blanks }) ≡ stepped_unless core blanks (Request client number to entry words) o → Wanted refusal
  wanted_unless None new refusal first is = let same : Refuses refusal ≡ Tells (told (durable_world core) client number) = ap (λ (n : Stepped). n.answer) is in absurd (let no : ⊥ = cc in no)
  wanted_unless (Some r) new refusal first is =
      let same : Refuses refusal ≡ Refuses r = ap (λ (n : Stepped). n.answer) is in
      let back : r ≡ refusal = cc in
      subst Wanted back (first-of Wanted (checks core blanks (Request client number to entry words)) r all_wanted first)

  pub wanted : (new : Core) (refusal : Refusal) → Steps core blanks (Request client number to entry words) (record { answer = Refuses refusal; core = new; blanks = blanks }) → Wanted refusal
  wanted new refusal steps = elim steps.1 [
    | inl same ↦ wanted_unless (first_refusal (checks core blanks (Request client number to entry words))) new refusal refl same
    | inr lacking ↦ elim lacking [
      | inl memory ↦ let same : Refuses refusal ≡ Refuses refusals.Memory = ap (λ (n : Stepped). n.answer) memory.1 in λ n e. absurd (let no : ⊥ = cc in no)
      | inr device ↦ let same : Refuses refusal ≡ Refuses refusals.Device = ap (λ (n : Stepped). n.answer) device.1 in λ n e. absurd (let no : ⊥ = cc in no)
    ]
  ]

-- what was heard, of all that a pass holds
pub heard_answered : (h g : HeldPass) (p q : Pass) (core after : Core) (number : ℕ) (result : Result Told Refusal) → IsHeard p q core after number result → IsTold p core → h.pass ≡ p → g.pass ≡ q → IfOk result (λ told. g.heard ≡ h.heard ++ (number, told) ∷ []) → g.since ≡ h.since → g.flushed ≡ h.flushed →
    OnErr result (g ≡ h) → IfErr result (λ refusal. (n : ℕ) → refusal ≡ refusals.OutOfTurn n → n ≡ capped h.pass.last 1) → answers.IsAnswered h g number result
heard_answered h g p q core after number result heard told is is' behind since flushed err wanted =
    let heard' : IsHeard h.pass g.pass core after number result = subst (λ (x : Pass × Pass). IsHeard x.0 x.1 core after number result) (λ i. (sym is i, sym is' i)) heard in
    let told' : IsTold h.pass core = subst (λ (x : Pass). IsTold x core) (sym is) told in
    record {
      no_less = heard'.no_less told';
      kept = heard'.kept;
      heard = behind;
      since = since;
      flushed = flushed;
      err = err;
      wanted = wanted;
    }

-- a status is never refused as out of turn
module _ (core : Core) (blanks : Blanks) (client number : ℕ) where
  abbrev InTurn : Refusal → Type 0
  InTurn refusal = (n : ℕ) → refusal ≡ refusals.OutOfTurn n → ⊥

  all_in_turn : AllChecks InTurn (checks core blanks (Status client number))
  all_in_turn = (
    (λ n e. let no : ⊥ = cc in no),
    elim (has_words (told (durable_world core) client number)) as (λ b. AllChecks InTurn (if b then MayLackMemory ∷ [] else [])) [
      | true ↦ tt
      | false ↦ tt
    ],
  )

  in_turn_unless : (o : Option Refusal) (new : Core) (refusal : Refusal) → first_refusal (checks core blanks (Status client number)) ≡ o →
      (record { answer = Refuses refusal; core = new; blanks = blanks }) ≡ stepped_unless core blanks (Status client number) o → InTurn refusal
  in_turn_unless None new refusal first is = let same : Refuses refusal ≡ Tells (told (durable_world core) client number) = ap (λ (n : Stepped). n.answer) is in absurd (let no : ⊥ = cc in no)
  in_turn_unless (Some r) new refusal first is =
      let same : Refuses refusal ≡ Refuses r = ap (λ (n : Stepped). n.answer) is in
      let back : r ≡ refusal = cc in
      subst InTurn back (first-of InTurn (checks core blanks (Status client number)) r all_in_turn first)

  pub status_wanted : (new : Core) (refusal : Refusal) → Steps core blanks (Status client number) (record { answer = Refuses refusal; core = new; blanks = blanks }) → InTurn refusal
  status_wanted new refusal steps = elim steps.1 [
    | inl same ↦ in_turn_unless (first_refusal (checks core blanks (Status client number))) new refusal refl same
    | inr lacking ↦ elim lacking [
      | inl memory ↦ let same : Refuses refusal ≡ Refuses refusals.Memory = ap (λ (n : Stepped). n.answer) memory.1 in λ n e. let no : ⊥ = cc in no
      | inr device ↦ let same : Refuses refusal ≡ Refuses refusals.Device = ap (λ (n : Stepped). n.answer) device.1 in λ n e. let no : ⊥ = cc in no
    ]
  ]

-- what a pass is told of durable events
pub told-current : (core : Core) (h : HeldPass) (p q : Pass) (number : ℕ) (t : Told) → h.pass ≡ p → IsCurrent h core → q.client ≡ p.client → q.lent_at ≡ p.lent_at → q.last ≡ p.last → IsTold q core →
    Holds core.opening (take core.durable core.history) p.client number t → IsNoLess (known p number) t → IsNoLess t (known q number) → ((other : ℕ) → IsNoLess (known p other) (known q other)) → IsCurrent (with_answer h q number t) core
told-current core h p q number t is current client lent last told holds more less kept =
    let more' : IsNoLess (known h.pass number) t = subst (λ (x : Pass). IsNoLess (known x number) t) (sym is) more in
    let kept' : (other : ℕ) → IsNoLess (known h.pass other) (known q other) = subst (λ (x : Pass). (other : ℕ) → IsNoLess (known x other) (known q other)) (sym is) kept in
    let own : h.pass.client ≡ q.client = ap (λ (x : Pass). x.client) is ∙ sym client in
    record {
      heard = true-append core q.client h.heard ((number, t) ∷ []) (subst (λ c. AreTrue core c h.heard) own current.heard)
          (subst (λ c. Holds core.opening (take core.durable core.history) c number t) (sym client) holds, tt);
      rising = rising-answered h q number t more' less kept' current.is_known current.rising;
      is_known = known-answered h q number t more' less kept' current.is_known;
      told = told;
      lent_at = lent ∙ sym (ap (λ (x : Pass). x.lent_at) is) ∙ current.lent_at ∙ ap (λ c. (client_of core.opening c).last) own;
      up_to_date = ap (λ c. (client_of (present core) c).last) (sym own) ∙ current.up_to_date ∙ ap (λ (x : Pass). x.last) is ∙ sym last;
      since = current.since;
      within = current.within;
      accepts = current.accepts ∙ ap (λ c. accepts_in c (drop (h.since - core.before) core.history)) own;
      all = current.all ∙ ap (λ c. accepts_in c core.history) own;
      flushed = current.flushed;
    }

-- what a pass holds once all events are durable, and counted
pub flushed-current : (core : Core) (h : HeldPass) → core.durable ≡ length core.history → IsCurrent h core → IsCurrent (record h { flushed = event_count core }) core
flushed-current core h durable is = record {
  heard = is.heard;
  rising = is.rising;
  is_known = is.is_known;
  told = is.told;
  lent_at = is.lent_at;
  up_to_date = is.up_to_date;
  since = is.since;
  within = is.within;
  accepts = is.accepts;
  all = is.all;
  flushed = omega (arith, durable);
}

-- and what was counted before is no more
pub flushed-before : (core : Core) (h : HeldPass) → core.durable ≡ length core.history → IsCurrent h core → h.flushed ≤ event_count core
flushed-before core h durable is = let flushed = is.flushed in omega (arith, durable)

-- of flushes nothing is recorded by what a client is told
pub accepted-flushed : (h : HeldPass) → (with_last_accepted h).flushed ≡ h.flushed
accepted-flushed h = elim (nat_lt h.pass.lent_at h.pass.last && is_unknown (known h.pass h.pass.last)) as (λ b. (if b then with_answer h (with_told h.pass h.pass.last Accepted) h.pass.last Accepted else h).flushed ≡ h.flushed) [ true ↦ refl | false ↦ refl ]

-- what the pass held, and how the hub's authority has it
pub record Known (held : List (Option HeldPass)) (fragment : ℕ × Option HeldPass) (pass : Pass) (core : Core) (out : List ℕ) : Type 0 where
  pub there : slice_get held fragment.0 ≡ Some (Some (held_by fragment.1))
  pub is : (held_by fragment.1).pass ≡ pass
  pub are : AreCurrent (record { out = out; held = held }) core
  pub current : IsCurrent (held_by fragment.1) core

pub known_by : (held : List (Option HeldPass)) (fragment : ℕ × Option HeldPass) (pass : Pass) (core : Core) (out : List ℕ) → slice_get held fragment.0 ≡ Some fragment.1 → fragment.1 ≡ Some (held_by fragment.1) → (held_by fragment.1).pass ≡ pass →
    AreCurrent (record { out = out; held = held }) core → Known held fragment pass core out
known_by held fragment pass core out at some is are =
    let there : slice_get held fragment.0 ≡ Some (Some (held_by fragment.1)) = at ∙ ap Some some in
    record { there = there; is = is; are = are; current = are.each fragment.0 (held_by fragment.1) there }

-- the last accept, once all events are durable
pub accepted_holds : (core : Core) (p : Pass) (last : ℕ) → last ≡ p.last → core.durable ≡ length core.history → IsUpToDate p core → Holds core.opening (take core.durable core.history) p.client last Accepted
accepted_holds core p last is durable up_to_date =
    let whole : take core.durable core.history ≡ core.history = take_all core.durable core.history (omega arith) in
    subst (λ es. Holds core.opening es p.client last Accepted) (sym whole) (let here : last ≤ (client_of (present core) p.client).last = omega arith in here)

-- the authority has what a pass holds now, in place of what it held
pub kept-written : (held new : List (Option HeldPass)) (fragment : ℕ × Option HeldPass) (pass : Pass) (core : Core) (out : List ℕ) (g : HeldPass) → Known held fragment pass core out → new ≡ slice_set held fragment.0 (Some g) →
    answers.IsKept (record { out = out; held = held }) (record { out = out; held = new }) (held_by fragment.1) g
kept-written held new fragment pass core out g is new_is = record { place = fragment.0; had = is.there; has = new_is; out = refl }

-- a place that is set twice
set-again : {A : Type 0} (xs : List A) (place : ℕ) (a b : A) → slice_set (slice_set xs place a) place b ≡ slice_set xs place b
set-again [] place a b = refl
set-again (x ∷ xs) zero a b = refl
set-again (x ∷ xs) (suc place) a b = ap (λ l. x ∷ l) (set-again xs place a b)

-- a pass that is written twice
pub kept-then : (old mid new : LentPasses) (core : Core) (h m n : HeldPass) → AreCurrent mid core → answers.IsKept old mid h m → answers.IsKept mid new m n → answers.IsKept old new h n
kept-then old mid new core h m n are one two =
    let here : slice_get mid.held one.place ≡ Some (Some m) = subst (λ l. slice_get l one.place ≡ Some (Some m)) (sym one.has) (set-there old.held one.place (Some h) (Some m) one.had) in
    let same : two.place ≡ one.place = are.apart two.place one.place m m two.had here refl in
    record {
      place = one.place;
      had = one.had;
      has = two.has ∙ (λ i. slice_set (one.has i) (same i) (Some n)) ∙ set-again old.held one.place (Some m) (Some n);
      out = two.out ∙ one.out;
    }
