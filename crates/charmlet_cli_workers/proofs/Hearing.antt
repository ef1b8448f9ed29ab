-- What clients' passes know, and that it stays true.
use Rattle.std.proofs.Common.{◌≡◌, ◌⊎◌, ℕ, zero, suc, ◌+◌, ◌≤◌, List, [], ◌∷◌, ◌++◌, Bool, length, map, take, drop, inl, inr, ⊎_elim, refl, sym, ap, subst, ◌∙◌, true, false, Result, Ok, Err, le_refl, arith, take-append-drop}
use Rattle.std.proofs.lemmas.Bool.Decides.{nat_tests}
use Rattle.std.specs.Prelude.{◌&&◌, IfOk, OnOk, Some, Contains, slice_get, slice_set, nat_lt, if◌then◌else◌}
use Rattle.std.specs.List.{AllByRecursion}
use Rattle.std.proofs.lemmas.List.{append-nil, append_assoc, take-take}
use Rattle.std.proofs.lemmas.List.Elements.{All-contains, All-from_recursion, Contains-append_left, Contains-push}
use Rattle.charmlet_model.specs.declared.client.ClientRow.{ClientRow}
use Rattle.charmlet_model.specs.declared.event.Event.{Event}
use Rattle.charmlet_model.specs.declared.refusal.Refusal.{Refusal}
use Rattle.charmlet_model.specs.declared.step.Step.{Step}
use Rattle.charmlet_model.specs.declared.step.Step.TheVariants as steps
use Rattle.charmlet_model.specs.declared.told.Told.{Told}
use Rattle.charmlet_model.specs.declared.told.Told.TheVariants.{Accepted}
use Rattle.charmlet_model.specs.Core.{Core, present}
use Rattle.charmlet_model.specs.Sound.{IsSound}
use Rattle.charmlet_model.specs.Told.{Holds, told_of}
use Rattle.charmlet_model.specs.World.{can_all, client_of}
use Rattle.charmlet_model.proofs.Lasts.{holds_later}
use Rattle.charmlet_recovery.proofs.Sealed.{can-take}
use Rattle.charmlet_requests.specs.Knowing.{heard as hears, is_unknown}
use Rattle.charmlet_requests.specs.Pass.{Pass, known, with_accept, with_told}
use Rattle.charmlet_leases.specs.Passes.Passes.{AreTrue, HeldPass, IsAnswered, IsCurrent, accepts_in, with_answer, with_flush}
use Rattle.charmlet_workers.specs.Refusals.{IsRecent}
use Rattle.charmlet_workers.specs.Runtime.{RuntimeShown}
use Rattle.charmlet_script_output.specs.Named.{Names}
use Rattle.charmlet_cli_workers.specs.Heard.{AreLater, IsRecorded, IsHeard, accepts_by, IsLater, IsLentAt, IsReached, IsStepCauseBy, IsSure, known_by}
use Rattle.charmlet_cli_workers.specs.Said.{IsAskingCause, StaysTrue}
use Rattle.charmlet_cli_workers.proofs.Rows.{accepted_of, heard_least, last_known}
use Rattle.charmlet_cli_workers.proofs.Sayings.{KnowsMore}

-- ---- later passes

pub same_pass : (held : HeldPass) → IsLater held held
same_pass held = record { more = []; client = refl; lent_at = refl; last = le_refl held.pass.last; told = le_refl held.pass.row.last; flushed = le_refl held.flushed; heard = sym (append-nil held.heard) }

pub same_passes : (passes : List HeldPass) → AreLater passes passes
same_passes [] = tt
same_passes (held ∷ passes) = (same_pass held, same_passes passes)

then_later : (a b c : HeldPass) → IsLater a b → IsLater b c → IsLater a c
then_later a b c one two = record {
  more = one.more ++ two.more;
  client = two.client ∙ one.client;
  lent_at = two.lent_at ∙ one.lent_at;
  last = omega (arith, one.last, two.last);
  told = omega (arith, one.told, two.told);
  flushed = omega (arith, one.flushed, two.flushed);
  heard = two.heard ∙ ap (λ xs. xs ++ two.more) one.heard ∙ append_assoc a.heard one.more two.more;
}

pub later_still : (a b c : List HeldPass) → AreLater a b → AreLater b c → AreLater a c
later_still [] b c one two = tt
later_still (h ∷ a) [] c one two = absurd one
later_still (h ∷ a) (k ∷ b) [] one two = absurd two
later_still (h ∷ a) (k ∷ b) (l ∷ c) one two = (then_later h k l one.0 two.0, later_still a b c one.1 two.1)

-- one more pass
pub one_more : (passes : List HeldPass) (held : HeldPass) → AreLater passes (passes ++ held ∷ [])
one_more [] held = tt
one_more (h ∷ passes) held = (same_pass h, one_more passes held)

-- a flush tells each of them
flushed_pass : (count : ℕ) (held : HeldPass) → held.flushed ≤ count → IsLater held (with_flush count held)
flushed_pass count held rises =
    elim (nat_lt held.pass.lent_at held.pass.last && is_unknown (known held.pass held.pass.last)) as (λ b. IsLater held (record (if b then with_answer held (with_told held.pass held.pass.last Accepted) held.pass.last Accepted else held) { flushed = count })) [
      | true ↦ record { more = (held.pass.last, Accepted) ∷ []; client = refl; lent_at = refl; last = le_refl held.pass.last; told = heard_least held.pass.row held.pass.last Accepted; flushed = rises; heard = refl }
      | false ↦ record { more = []; client = refl; lent_at = refl; last = le_refl held.pass.last; told = le_refl held.pass.row.last; flushed = rises; heard = sym (append-nil held.heard) }
    ]

pub flushed_passes : (count : ℕ) (passes : List HeldPass) → AllByRecursion (λ (held : HeldPass). held.flushed ≤ count) passes → AreLater passes (map (with_flush count) passes)
flushed_passes count [] rise = tt
flushed_passes count (held ∷ passes) rise = (flushed_pass count held rise.0, flushed_passes count passes rise.1)

-- each of them counted as many events
pub flushed_by : (count : ℕ) (passes : List HeldPass) (accepts : List Event) → ((client : ℕ) → accepts_in client accepts ≡ accepts_by client passes) → ((client : ℕ) → accepts_in client accepts ≡ []) ⊎ IsRecorded (map (with_flush count) passes) count
flushed_by count [] accepts are = inl are
flushed_by count (held ∷ passes) accepts are = inr (inl (le_refl count))

-- ---- what was heard

heard_by_later : (old new : HeldPass) (number : ℕ) (told : Told) → IsLater old new → Contains old.heard (number, told) → Contains new.heard (number, told)
heard_by_later old new number told later heard =
    subst (λ (xs : List (ℕ × Told)). Contains xs (number, told)) (sym later.heard) (Contains-append_left old.heard later.more (number, told) heard)

-- it stays so
pub still_heard : (old new : List HeldPass) (client number : ℕ) (told : Told) → AreLater old new → IsHeard old client number told → IsHeard new client number told
still_heard [] new client number told later heard = absurd heard
still_heard (h ∷ old) [] client number told later heard = absurd later
still_heard (h ∷ old) (k ∷ new) client number told later heard =
    ⊎_elim (λ here. inl (later.0.client ∙ here.0, heard_by_later h k number told later.0 here.1)) (λ there. inr (still_heard old new client number told later.1 there)) heard

pub still_reached : (old new : List HeldPass) (client number : ℕ) → AreLater old new → IsReached old client number → IsReached new client number
still_reached [] new client number later reached = absurd reached
still_reached (h ∷ old) [] client number later reached = absurd later
still_reached (h ∷ old) (k ∷ new) client number later reached =
    ⊎_elim (λ here. inl (later.0.client ∙ here.0, omega (arith, here.1, later.0.last))) (λ there. inr (still_reached old new client number later.1 there)) reached

pub still_lent : (old new : List HeldPass) (client : ℕ) (is : ℕ → Type 0) → AreLater old new → IsLentAt old client is → IsLentAt new client is
still_lent [] new client is later lent = absurd lent
still_lent (h ∷ old) [] client is later lent = absurd later
still_lent (h ∷ old) (k ∷ new) client is later lent =
    ⊎_elim (λ here. inl (later.0.client ∙ here.0, subst is (sym later.0.lent_at) here.1)) (λ there. inr (still_lent old new client is later.1 there)) lent

pub still_sure : (old new : List HeldPass) (client number : ℕ) → AreLater old new → IsSure old client number → IsSure new client number
still_sure [] new client number later sure = absurd sure
still_sure (h ∷ old) [] client number later sure = absurd later
still_sure (h ∷ old) (k ∷ new) client number later sure =
    ⊎_elim (λ here. inl (later.0.client ∙ here.0, omega (arith, here.1, later.0.told))) (λ there. inr (still_sure old new client number later.1 there)) sure

still_cause : (shown : RuntimeShown) (old new : List HeldPass) (accepts : List Event) (step : Step) (refusal : Refusal) → AreLater old new → IsStepCauseBy shown old accepts step refusal → IsStepCauseBy shown new accepts step refusal
still_cause shown old new accepts (steps.Request client number to entry words) refusal later cause =
    let mine = accepts_in client accepts in
    ⊎_elim (λ any. inl any) (λ lent. inr (still_lent old new client (λ first. IsAskingCause shown.opening mine first number to words refusal) later lent)) cause
still_cause shown old new accepts step refusal later cause = cause

still_flushed : (old new : List HeldPass) (count : ℕ) → AreLater old new → IsRecorded old count → IsRecorded new count
still_flushed [] new count later flushed = absurd flushed
still_flushed (h ∷ old) [] count later flushed = absurd later
still_flushed (h ∷ old) (k ∷ new) count later flushed = ⊎_elim (λ here. inl (omega (arith, here, later.0.flushed))) (λ there. inr (still_flushed old new count later.1 there)) flushed

-- later passes know more
pub knows_later : (shown : RuntimeShown) (names : Names) (old new : List HeldPass) → AreLater old new → KnowsMore (known_by shown names old) (known_by shown names new)
knows_later shown names old new later = record {
  told = λ client number told heard. still_heard old new client number told later heard;
  accepted = λ client number reached. still_reached old new client number later reached;
  earlier = λ client number lent. still_lent old new client (λ last. IsRecent last number) later lent;
  durable = λ client number sure. still_sure old new client number later sure;
  refused = λ accepts step refusal cause. still_cause shown old new accepts step refusal later cause;
  target = λ name index to entry is. is;
  flushed = λ accepts knows count is. (is.0, ⊎_elim (λ none. inl none) (λ flushed. inr (still_flushed old new count later flushed)) is.1);
  sealed = λ generation is. is;
  pending = λ count is. is;
  pending_ids = λ ids are. are;
  seen = λ elem look was. was;
  stood = λ elem processor was. was;
  counted = λ census were. were;
}

-- ---- what is true

-- what is true of the durable events is so of more of them
stays_true : (core : Core) (client number : ℕ) (told : Told) → IsSound core → Holds core.opening (take core.durable core.history) client number told → StaysTrue core client number told
stays_true core client number told sound holds kept from to =
    let first = take core.durable core.history in
    let kept_events = take kept core.history in
    let split : first ++ drop core.durable kept_events ≡ kept_events =
    ap (λ es. es ++ drop core.durable kept_events) (sym (take-take core.durable kept core.history from)) ∙ take-append-drop core.durable kept_events in
    let can : can_all core.opening (first ++ drop core.durable kept_events) ≡ true = ap (can_all core.opening) split ∙ can-take core.opening kept core.history sound.legal.each_can in
    subst (λ es. Holds core.opening es client number told) split (holds_later core.opening first (drop core.durable kept_events) client number told can holds)

-- what is true of each answer of a list is so of one of them
true_of : (core : Core) (client number : ℕ) (told : Told) (answers : List (ℕ × Told)) → AreTrue core client answers → Contains answers (number, told) → Holds core.opening (take core.durable core.history) client number told
true_of core client number told answers all heard =
    let P : ℕ × Told → Type 0 = λ answer. Holds core.opening (take core.durable core.history) client answer.0 answer.1 in
    All-contains P answers (number, told) (All-from_recursion P answers all) heard

-- what a client was told stays true, once all passes are current
pub heard_stays_true : (core : Core) (passes : List HeldPass) (client number : ℕ) (told : Told) → IsSound core → AllByRecursion (λ (held : HeldPass). IsCurrent held core) passes → IsHeard passes client number told → StaysTrue core client number told
heard_stays_true core [] client number told sound all heard = absurd heard
heard_stays_true core (held ∷ passes) client number told sound all heard =
    ⊎_elim
    (λ here. stays_true core client number told sound (subst (λ c. Holds core.opening (take core.durable core.history) c number told) here.0 (true_of core held.pass.client number told held.heard all.0.heard here.1)))
    (λ there. heard_stays_true core passes client number told sound all.1 there) heard

-- what is accepted in some world is so of each number up to it
up_to : (core : Core) (client number last : ℕ) → number ≤ last → StaysTrue core client last Accepted → StaysTrue core client number Accepted
up_to core client number last less stays = λ kept from to. omega (arith, less, stays kept from to)

-- and so does what is durable
pub sure_stays_true : (core : Core) (passes : List HeldPass) (client number : ℕ) → IsSound core → AllByRecursion (λ (held : HeldPass). IsCurrent held core) passes → IsSure passes client number → StaysTrue core client number Accepted
sure_stays_true core [] client number sound all sure = absurd sure
sure_stays_true core (held ∷ passes) client number sound all sure =
    ⊎_elim
    (λ here.
    let row = held.pass.row in
    let accepted = accepted_of core held.pass.client row.last (told_of row row.last) sound (last_known row) (all.0.told row.last) in
    up_to core client number row.last here.1 (stays_true core client row.last Accepted sound (subst (λ c. Holds core.opening (take core.durable core.history) c row.last Accepted) here.0 accepted)))
    (λ there. sure_stays_true core passes client number sound all.1 there) sure

-- as many events are durable as a current pass counted
pub flushed_is_durable : (core : Core) (passes : List HeldPass) (count : ℕ) → AllByRecursion (λ (held : HeldPass). IsCurrent held core) passes → IsRecorded passes count → count ≤ core.before + core.durable
flushed_is_durable core [] count all flushed = absurd flushed
flushed_is_durable core (held ∷ passes) count all flushed = ⊎_elim (λ here. omega (arith, here, all.0.flushed)) (λ there. flushed_is_durable core passes count all.1 there) flushed

-- and what was accepted is so in the present world
accepted_at : (core : Core) (pass : Pass) (number : ℕ) → (client_of (present core) pass.client).last ≡ pass.last → number ≤ pass.last → Holds core.opening core.history pass.client number Accepted
accepted_at core pass number up_to_date reached = omega (arith, up_to_date, reached)

pub reached_is_accepted : (core : Core) (passes : List HeldPass) (client number : ℕ) → AllByRecursion (λ (held : HeldPass). IsCurrent held core) passes → IsReached passes client number → Holds core.opening core.history client number Accepted
reached_is_accepted core [] client number all reached = absurd reached
reached_is_accepted core (held ∷ passes) client number all reached =
    ⊎_elim (λ here. subst (λ c. Holds core.opening core.history c number Accepted) here.0 (accepted_at core held.pass number all.0.up_to_date here.1))
    (λ there. reached_is_accepted core passes client number all.1 there) reached

-- ---- one of the passes

-- a later pass in its place
pub later_at : (passes : List HeldPass) (place : ℕ) (old new : HeldPass) → slice_get passes place ≡ Some old → IsLater old new → AreLater passes (slice_set passes place new)
later_at [] place old new is later = tt
later_at (h ∷ passes) zero old new is later =
    let same : h ≡ old = cc in
    (subst (λ (held : HeldPass). IsLater held new) (sym same) later, same_passes passes)
later_at (h ∷ passes) (suc place) old new is later = (same_pass h, later_at passes place old new is later)

-- what it heard
pub heard_at : (passes : List HeldPass) (place : ℕ) (old new : HeldPass) (client number : ℕ) (told : Told) → slice_get passes place ≡ Some old → new.pass.client ≡ client → Contains new.heard (number, told) →
    IsHeard (slice_set passes place new) client number told
heard_at [] place old new client number told is its heard = let never : ⊥ = cc in absurd never
heard_at (h ∷ passes) zero old new client number told is its heard = inl (its, heard)
heard_at (h ∷ passes) (suc place) old new client number told is its heard = inr (heard_at passes place old new client number told is its heard)

-- the last one
pub last_pass : (passes : List HeldPass) (held : HeldPass) → slice_get (passes ++ held ∷ []) (length passes) ≡ Some held
last_pass [] held = refl
last_pass (h ∷ passes) held = last_pass passes held

pub reached_at : (passes : List HeldPass) (place : ℕ) (old new : HeldPass) (client number : ℕ) → slice_get passes place ≡ Some old → new.pass.client ≡ client → number ≤ new.pass.last → IsReached (slice_set passes place new) client number
reached_at [] place old new client number is its reached = let never : ⊥ = cc in absurd never
reached_at (h ∷ passes) zero old new client number is its reached = inl (its, reached)
reached_at (h ∷ passes) (suc place) old new client number is its reached = inr (reached_at passes place old new client number is its reached)

-- ---- answers

-- a pass is told one thing more
pub told_pass : (old new : HeldPass) (number : ℕ) (told : Told) → new.pass.client ≡ old.pass.client → new.pass.lent_at ≡ old.pass.lent_at → old.pass.last ≤ new.pass.last → old.pass.row.last ≤ new.pass.row.last → new.flushed ≡ old.flushed → new.heard ≡ old.heard ++ (number, told) ∷ [] → IsLater old new
told_pass old new number told client lent_at last more flushed heard = record { more = (number, told) ∷ []; client = client; lent_at = lent_at; last = last; told = more; flushed = omega (arith, flushed); heard = heard }

reaches : (last number : ℕ) (b : Bool) → nat_lt last number ≡ b → (last ≤ (if b then number else last)) × (number ≤ (if b then number else last))
reaches last number true is = (grind (arith, nat_tests), le_refl number)
reaches last number false is = (le_refl last, grind (arith, nat_tests))

-- its last number once a request with this number was answered
pub accept_reaches : (pass : Pass) (number : ℕ) → (pass.last ≤ (with_accept pass number).last) × (number ≤ (with_accept pass number).last)
accept_reaches pass number = reaches pass.last number (nat_lt pass.last number) refl

pub answer_is_heard : (old new : HeldPass) (number : ℕ) (told : Told) → new.heard ≡ old.heard ++ (number, told) ∷ [] → Contains new.heard (number, told)
answer_is_heard old new number told is = subst (λ (xs : List (ℕ × Told)). Contains xs (number, told)) (sym is) (Contains-push old.heard (number, told))

-- a request or a question by the pass at this place
module _ (passes : List HeldPass) (place : ℕ) (old new : HeldPass) (client number : ℕ) (got : slice_get passes place ≡ Some old) (of : old.pass.client ≡ client) where
  heard_new : (r : Result Told Refusal) → IfOk r (λ told. new.pass.client ≡ old.pass.client) → IsAnswered old new number r → IfOk r (IsHeard (slice_set passes place new) client number)
  heard_new (Ok told) its answered = heard_at passes place old new client number told got (its ∙ of) (answer_is_heard old new number told answered.heard)
  heard_new (Err refusal) its answered = tt

  knows_more : (told : Told) → new.pass.row ≡ hears old.pass.row number told → old.pass.row.last ≤ new.pass.row.last
  knows_more told row = subst (λ (r : ClientRow). old.pass.row.last ≤ r.last) (sym row) (heard_least old.pass.row number told)

  later_new : (r : Result Told Refusal) → IfOk r (λ told. (new.pass.client ≡ old.pass.client) × (new.pass.lent_at ≡ old.pass.lent_at) × (old.pass.last ≤ new.pass.last) × (old.pass.row.last ≤ new.pass.row.last)) → IsAnswered old new number r → AreLater passes (slice_set passes place new)
  later_new (Ok told) its answered = later_at passes place old new got (told_pass old new number told its.0 its.1 its.2 its.3 answered.flushed answered.heard)
  later_new (Err refusal) its answered = later_at passes place old new got (subst (λ (held : HeldPass). IsLater old held) (sym answered.err) (same_pass old))

  pub asked_heard : (r : Result Told Refusal) → IfOk r (λ told. new.pass ≡ with_accept (with_told old.pass number told) number) → IsAnswered old new number r → IfOk r (IsHeard (slice_set passes place new) client number)
  asked_heard (Ok told) is answered = heard_new (Ok told) (ap (λ (p : Pass). p.client) is) answered
  asked_heard (Err refusal) is answered = tt

  pub asked_reached : (r : Result Told Refusal) → IfOk r (λ told. new.pass ≡ with_accept (with_told old.pass number told) number) → OnOk r (IsReached (slice_set passes place new) client number)
  asked_reached (Ok told) is = reached_at passes place old new client number got (ap (λ (p : Pass). p.client) is ∙ of) (subst (λ n. number ≤ n) (sym (ap (λ (p : Pass). p.last) is)) (accept_reaches (with_told old.pass number told) number).1)
  asked_reached (Err refusal) is = tt

  pub asked_later : (r : Result Told Refusal) → IfOk r (λ told. new.pass ≡ with_accept (with_told old.pass number told) number) → IsAnswered old new number r → AreLater passes (slice_set passes place new)
  asked_later (Ok told) is answered =
      later_new (Ok told) (ap (λ (p : Pass). p.client) is, ap (λ (p : Pass). p.lent_at) is, subst (λ n. old.pass.last ≤ n) (sym (ap (λ (p : Pass). p.last) is)) (accept_reaches (with_told old.pass number told) number).0, knows_more told (ap (λ (p : Pass). p.row) is)) answered
  asked_later (Err refusal) is answered = later_new (Err refusal) tt answered

  pub stated_heard : (r : Result Told Refusal) → IfOk r (λ told. new.pass ≡ with_told old.pass number told) → IsAnswered old new number r → IfOk r (IsHeard (slice_set passes place new) client number)
  stated_heard (Ok told) is answered = heard_new (Ok told) (ap (λ (p : Pass). p.client) is) answered
  stated_heard (Err refusal) is answered = tt

  pub stated_later : (r : Result Told Refusal) → IfOk r (λ told. new.pass ≡ with_told old.pass number told) → IsAnswered old new number r → AreLater passes (slice_set passes place new)
  stated_later (Ok told) is answered =
      later_new (Ok told) (ap (λ (p : Pass). p.client) is, ap (λ (p : Pass). p.lent_at) is, subst (λ n. old.pass.last ≤ n) (sym (ap (λ (p : Pass). p.last) is)) (le_refl old.pass.last), knows_more told (ap (λ (p : Pass). p.row) is)) answered
  stated_later (Err refusal) is answered = later_new (Err refusal) tt answered
