-- What clients' passes hold as accepted requests, line after line.
use Rattle.std.proofs.Common.{◌≡◌, ◌≢◌, ◌⊎◌, ℕ, zero, suc, ◌<◌, ◌≤◌, ◌==◌, Bool, true, false, List, [], ◌∷◌, ◌++◌, length, map, inl, inr, ⊎_elim, refl, sym, ap, subst, ◌∙◌, arith, le_refl, take, Some, Result, Ok, Err, if◌then◌else◌, cond, nat_lt}
use Rattle.std.specs.Prelude.{◌&&◌, nat_le, IfErr, IfOk, OnErr, OnOk, slice_get, slice_set}
use Rattle.std.specs.List.{AllByRecursion}
use Rattle.std.specs.Map.{lookup}
use Rattle.std.specs.BTreeMap.{insert_entry, is_at}
use Rattle.std.specs.Cmp.{nat_cmp_total, nat_eq_equiv}
use Rattle.std.specs.Ordering.{eq_by_cmp, nat_cmp}
use Rattle.std.proofs.lemmas.Bool.{ltb-false, ltb-true}
use Rattle.std.proofs.lemmas.List.{append-nil, take_all}
use Rattle.std.proofs.lemmas.Map.Views.{exact_unsigned_eq}
use Rattle.charmlet_model.specs.declared.client.ClientRow.{ClientRow}
use Rattle.charmlet_model.specs.declared.event.Event.{Event}
use Rattle.charmlet_model.specs.declared.event.Event.TheVariants.{Accept, Deliver}
use Rattle.charmlet_model.specs.declared.names.Elem.{Elem}
use Rattle.charmlet_model.specs.declared.names.MsgId.{MsgId}
use Rattle.charmlet_model.specs.declared.refusal.Refusal.{Refusal}
use Rattle.charmlet_model.specs.declared.refusal.Refusal.TheVariants as refusals
use Rattle.charmlet_model.specs.declared.step.Step.{Step}
use Rattle.charmlet_model.specs.declared.step.Step.TheVariants as steps
use Rattle.charmlet_model.specs.declared.told.Told.{Told}
use Rattle.charmlet_model.specs.declared.told.Told.TheVariants.{Accepted, Past, Unknown}
use Rattle.charmlet_model.specs.Core.{Core}
use Rattle.charmlet_model.specs.Reaction.{capped}
use Rattle.charmlet_model.specs.Row.{no_client, reply_to}
use Rattle.charmlet_model.specs.Told.{Holds, told_of, told_of_item}
use Rattle.charmlet_model.specs.World.{World, client_of}
use Rattle.charmlet_model.proofs.Fits.{tied_itself-nat}
use Rattle.charmlet_model.proofs.Maps.{lookup-insert_entry}
use Rattle.charmlet_history.specs.declared.request.Request.{Request}
use Rattle.charmlet_requests.specs.Knowing.{IsNoLess, heard as hears, is_unknown}
use Rattle.charmlet_requests.specs.Pass.{Pass, known, with_accept, with_told}
use Rattle.charmlet_leases.specs.Passes.Passes.{HaveAllAccepts, HeldPass, IsAnswered, IsCurrent, accept_of, accepts_after, accepts_in, lent_since, with_answer, with_flush}
use Rattle.charmlet_leases.proofs.PassesLemmas.Lasting.{accepts_in-append, untied}
use Rattle.charmlet_leases.proofs.PassesLemmas.Places.{all-last, at_end, at_set}
use Rattle.charmlet_runtime.specs.Engine.{client_answer}
use Rattle.charmlet_workers.specs.Refusals.{IsCauseAfter, IsRecent, IsRequestCause, is_lending_refusal, is_request_refusal, is_status_refusal}
use Rattle.std.specs.Prelude.{◌||◌}
use Rattle.charmlet_script_output.specs.Named.{Names}
use Rattle.charmlet_workers.specs.Runtime.{AreFlushed, RuntimeShown}
use Rattle.charmlet_workers.proofs.Rows.{reached_least}
use Rattle.charmlet_cli_workers.specs.Heard.{AreAccepted, AreRising, AreTidy, HaveNone, IsAsked, IsCounted, IsAskingCauseBy, IsDoneBy, IsHeard, IsLentAt, IsPassOf, IsReached, IsStepCauseBy, IsSure, IsToldBy, KnowTheSame, accepts_by, known_by, row_by}
use Rattle.charmlet_cli_workers.proofs.Rows.{test_true, told_within}
use Rattle.charmlet_cli_workers.specs.Said.{Answers, AreDurable, Deeds, IsAskingCause, IsStatusCause, IsStepCause, IsTold, WereFlushed, having_told, last_of, shown_since}

-- ---- numbers of accepts

last_push : (from : ℕ) (events : List Event) (client number : ℕ) (to : Elem) (entry : ℕ) (words : List ℕ) → last_of from (events ++ Accept client number to entry words ∷ []) ≡ number
last_push from [] client number to entry words = refl
last_push from (Deliver id ∷ events) client number to entry words = last_push from events client number to entry words
last_push from (Accept c n t e w ∷ events) client number to entry words = last_push n events client number to entry words

rising_push : (from : ℕ) (events : List Event) (client number : ℕ) (to : Elem) (entry : ℕ) (words : List ℕ) → AreRising from events → last_of from events < number → AreRising from (events ++ Accept client number to entry words ∷ [])
rising_push from [] client number to entry words rising less = (less, tt)
rising_push from (Deliver id ∷ events) client number to entry words rising less = rising_push from events client number to entry words rising less
rising_push from (Accept c n t e w ∷ events) client number to entry words rising less = (rising.0, rising_push n events client number to entry words rising.1 less)

rising_last : (from : ℕ) (events : List Event) → AreRising from events → from ≤ last_of from events
rising_last from [] rising = le_refl from
rising_last from (Deliver id ∷ events) rising = rising_last from events rising
rising_last from (Accept c n t e w ∷ events) rising = omega (arith, rising.0, rising_last n events rising.1)

-- there is no accept, or the last one's number is above the first
pub last_cases : (from : ℕ) (events : List Event) → AreRising from events → ((last_of from events ≡ from) × (last_of 0 events ≡ 0)) ⊎ ((from < last_of from events) × (last_of 0 events ≡ last_of from events))
last_cases from [] rising = inl (refl, refl)
last_cases from (Deliver id ∷ events) rising = last_cases from events rising
last_cases from (Accept c n t e w ∷ events) rising = inr (omega (arith, rising.0, rising_last n events rising.1), refl)

-- ---- passes with the same accepts

pub record IsAlike (old new : HeldPass) : Type 0 where
  pub client : new.pass.client ≡ old.pass.client
  pub lent_at : new.pass.lent_at ≡ old.pass.lent_at
  pub last : new.pass.last ≡ old.pass.last
  pub accepts : new.accepts ≡ old.accepts

alike : (held : HeldPass) → IsAlike held held
alike held = record { client = refl; lent_at = refl; last = refl; accepts = refl }

pub flushed_alike : (count : ℕ) (held : HeldPass) → IsAlike held (with_flush count held)
flushed_alike count held =
    elim (nat_lt held.pass.lent_at held.pass.last && is_unknown (known held.pass held.pass.last)) as (λ b. IsAlike held (record (if b then with_answer held (with_told held.pass held.pass.last Accepted) held.pass.last Accepted else held) { flushed = count })) [
      | true ↦ record { client = refl; lent_at = refl; last = refl; accepts = refl }
      | false ↦ record { client = refl; lent_at = refl; last = refl; accepts = refl }
    ]

counted_alike : (old new : HeldPass) → IsAlike old new → IsCounted old → IsCounted new
counted_alike old new same counted = record {
  last = same.last ∙ counted.last ∙ (λ i. last_of (sym same.lent_at i) (sym same.accepts i));
  rising = subst (λ (p : ℕ × List Event). AreRising p.0 p.1) (λ i. (sym same.lent_at i, sym same.accepts i)) counted.rising;
}

-- one more accept
pub record IsMore (request : Request) (old new : HeldPass) : Type 0 where
  pub client : new.pass.client ≡ old.pass.client
  pub lent_at : new.pass.lent_at ≡ old.pass.lent_at
  pub less : old.pass.last < request.number
  pub last : new.pass.last ≡ request.number
  pub accepts : new.accepts ≡ old.accepts ++ accept_of old.pass.client request ∷ []

counted_more : (request : Request) (old new : HeldPass) → IsMore request old new → IsCounted old → IsCounted new
counted_more request old new more counted =
    let c = old.pass.client in
    let less : last_of old.pass.lent_at old.accepts < request.number = subst (λ n. n < request.number) counted.last more.less in
    record {
      last = more.last ∙ sym (last_push old.pass.lent_at old.accepts c request.number request.to request.entry request.words.now) ∙ (λ i. last_of (sym more.lent_at i) (sym more.accepts i));
      rising = subst (λ (p : ℕ × List Event). AreRising p.0 p.1) (λ i. (sym more.lent_at i, sym more.accepts i)) (rising_push old.pass.lent_at old.accepts c request.number request.to request.entry request.words.now counted.rising less);
    }

-- a request that is told something is accepted, or repeats one
asked_by : (request : Request) (old new : HeldPass) (told : Told) → new.pass ≡ with_accept (with_told old.pass request.number told) request.number → (b : Bool) → nat_lt old.pass.last request.number ≡ b →
    new.pass.last ≡ (if b then request.number else old.pass.last) → new.accepts ≡ (if b then old.accepts ++ accept_of old.pass.client request ∷ [] else old.accepts) →
    (IsAlike old new × (request.number ≤ old.pass.last)) ⊎ IsMore request old new
asked_by request old new told is true above last accepts =
    inr (record { client = ap (λ (p : Pass). p.client) is; lent_at = ap (λ (p : Pass). p.lent_at) is; less = ltb-true old.pass.last request.number above; last = last; accepts = accepts })
asked_by request old new told is false above last accepts =
    inl ((record { client = ap (λ (p : Pass). p.client) is; lent_at = ap (λ (p : Pass). p.lent_at) is; last = last; accepts = accepts }), ltb-false old.pass.last request.number above)

asked_cases : (request : Request) (old new : HeldPass) (told : Told) → new.pass ≡ with_accept (with_told old.pass request.number told) request.number → new.accepts ≡ accepts_after old request →
    (IsAlike old new × (request.number ≤ old.pass.last)) ⊎ IsMore request old new
asked_cases request old new told is accepts = asked_by request old new told is (nat_lt old.pass.last request.number) refl (ap (λ (p : Pass). p.last) is) accepts

-- ---- the client's pass among others

pub differs : (a b : ℕ) → (a ≡ b → ⊥) → (a == b) ≡ false
differs a b apart = elim (a == b) as (λ t. (a == b) ≡ t → t ≡ false) [ true ↦ λ same. absurd (apart (exact_unsigned_eq a b same)) | false ↦ λ _. refl ] refl

pub ties : (a b : ℕ) → a ≡ b → (a == b) ≡ true
ties a b same = subst (λ x. (a == x) ≡ true) same (nat_eq_equiv.refl a)

-- the first one of the client's has this place
abbrev pub IsAt : ℕ → List HeldPass → ℕ → Type 0
IsAt client [] place = ⊥
IsAt client (held ∷ passes) zero = held.pass.client ≡ client
IsAt client (held ∷ passes) (suc place) = ((held.pass.client == client) ≡ false) × IsAt client passes place

first_at : (client : ℕ) (passes : List HeldPass) (place : ℕ) → IsPassOf client passes place → ((other : ℕ) → IsPassOf client passes other → other ≡ place) → IsAt client passes place
first_at client [] place at only = let is = at.1 in let never : ⊥ = cc in absurd never
first_at client (held ∷ passes) zero at only =
    let is = at.1 in
    let same : held ≡ at.0 = cc in
    ap (λ (h : HeldPass). h.pass.client) same ∙ at.2
first_at client (held ∷ passes) (suc place) at only = (
  differs held.pass.client client (λ same. let zeroth : 0 ≡ suc place = only 0 (held, refl, same) in absurd (omega (arith, zeroth))),
  first_at client passes place (at.0, at.1, at.2) (λ other is. let next : suc other ≡ suc place = only (suc other) (is.0, is.1, is.2) in omega (arith, next)),
)

-- a client's pass has one place
one_place : (client : ℕ) (passes : List HeldPass) (places : List (ℕ × ℕ)) (place other : ℕ) → AreTidy passes places → IsPassOf client passes place → IsPassOf client passes other → other ≡ place
one_place client passes places place other tidy at is =
    let here = subst (λ c. lookup (is_at (nat_cmp c)) places ≡ Some place) at.2 (tidy.found place at.0 at.1) in
    let there = subst (λ c. lookup (is_at (nat_cmp c)) places ≡ Some other) is.2 (tidy.found other is.0 is.1) in
    let same : Some other ≡ Some place = sym there ∙ here in
    let is_one : other ≡ place = cc in
    is_one

pub tidy_at : (client : ℕ) (passes : List HeldPass) (places : List (ℕ × ℕ)) (place : ℕ) → AreTidy passes places → IsPassOf client passes place → IsAt client passes place
tidy_at client passes places place tidy at = first_at client passes place at (λ other is. one_place client passes places place other tidy at is)

accepts_at : (client : ℕ) (passes : List HeldPass) (place : ℕ) (old : HeldPass) → IsAt client passes place → slice_get passes place ≡ Some old → accepts_by client passes ≡ old.accepts
accepts_at client [] place old at got = absurd at
accepts_at client (held ∷ passes) zero old at got =
    let same : held ≡ old = cc in
    ap (λ b. if b then held.accepts else accepts_by client passes) (ties held.pass.client client at) ∙ ap (λ (h : HeldPass). h.accepts) same
accepts_at client (held ∷ passes) (suc place) old at got =
    ap (λ b. if b then held.accepts else accepts_by client passes) at.0 ∙ accepts_at client passes place old at.1 got

-- a pass that is alike changes nothing
pub accepts_set_same : (passes : List HeldPass) (place : ℕ) (old new : HeldPass) → slice_get passes place ≡ Some old → IsAlike old new → AreAccepted passes (slice_set passes place new)
accepts_set_same [] place old new got same client = refl
accepts_set_same (held ∷ passes) zero old new got same client =
    let is : held ≡ old = cc in
    let its : new.pass.client ≡ held.pass.client = same.client ∙ sym (ap (λ (h : HeldPass). h.pass.client) is) in
    let its_accepts : new.accepts ≡ held.accepts = same.accepts ∙ sym (ap (λ (h : HeldPass). h.accepts) is) in
    λ i. if its i == client then its_accepts i else accepts_by client passes
accepts_set_same (held ∷ passes) (suc place) old new got same client =
    ap (λ es. if held.pass.client == client then held.accepts else es) (accepts_set_same passes place old new got same client)

-- one more accept is one more of its client, and none of another
pub accepts_set_more : (asking : ℕ) (request : Request) (passes : List HeldPass) (place : ℕ) (old new : HeldPass) → IsAt asking passes place → slice_get passes place ≡ Some old → new.pass.client ≡ asking →
    new.accepts ≡ old.accepts ++ accept_of asking request ∷ [] → (client : ℕ) → accepts_by client (slice_set passes place new) ≡ accepts_by client passes ++ accepts_in client (accept_of asking request ∷ [])
accepts_set_more asking request [] place old new at got its more client = absurd at
accepts_set_more asking request (held ∷ passes) zero old new at got its more client =
    let e = accept_of asking request in
    let rest = accepts_by client passes in
    let is : held ≡ old = cc in
    let here : new.accepts ≡ held.accepts ++ e ∷ [] = more ∙ ap (λ (h : HeldPass). h.accepts ++ e ∷ []) (sym is) in
    (λ i. if its i == client then here i else rest)
    ∙ elim (asking == client) as (λ b. (if b then held.accepts ++ e ∷ [] else rest) ≡ (if b then held.accepts else rest) ++ (if b then e ∷ [] else [])) [ true ↦ refl | false ↦ sym (append-nil rest) ]
    ∙ (λ i. (if sym at i == client then held.accepts else rest) ++ (if asking == client then e ∷ [] else []))
accepts_set_more asking request (held ∷ passes) (suc place) old new at got its more client =
    let e = accept_of asking request in
    let next = accepts_by client (slice_set passes place new) in
    let rest = accepts_by client passes in
    let added = if asking == client then e ∷ [] else [] in
    let step : next ≡ rest ++ added = accepts_set_more asking request passes place old new at.1 got its more client in
    elim (held.pass.client == client) as (λ b. (held.pass.client == client) ≡ b → (if b then held.accepts else next) ≡ (if b then held.accepts else rest) ++ added) [
      | true ↦ λ same.
          let is : held.pass.client ≡ client = exact_unsigned_eq held.pass.client client same in
          let off : (asking == client) ≡ false = differs asking client (λ one. let tied : (held.pass.client == asking) ≡ true = ties held.pass.client asking (is ∙ sym one) in let off : (held.pass.client == asking) ≡ false = at.0 in let never : ⊥ = cc in never) in
          sym (append-nil held.accepts) ∙ ap (λ b. held.accepts ++ (if b then e ∷ [] else [])) (sym off)
      | false ↦ λ _. step
    ] refl

-- one more pass has no accept
pub accepts_pushed : (passes : List HeldPass) (held : HeldPass) → held.accepts ≡ [] → AreAccepted passes (passes ++ held ∷ [])
accepts_pushed [] held none client =
    let empty : List Event = [] in
    ap (λ es. if held.pass.client == client then es else empty) none ∙ elim (held.pass.client == client) as (λ b. (if b then empty else empty) ≡ empty) [ true ↦ refl | false ↦ refl ]
accepts_pushed (h ∷ passes) held none client = ap (λ es. if h.pass.client == client then h.accepts else es) (accepts_pushed passes held none client)

pub accepts_flushed : (count : ℕ) (passes : List HeldPass) → AreAccepted passes (map (with_flush count) passes)
accepts_flushed count [] client = refl
accepts_flushed count (held ∷ passes) client =
    let same = flushed_alike count held in
    (λ i. if same.client i == client then same.accepts i else accepts_by client (map (with_flush count) passes))
    ∙ ap (λ es. if held.pass.client == client then held.accepts else es) (accepts_flushed count passes client)

-- ---- tidy passes

all_set : (P : HeldPass → Type 0) (passes : List HeldPass) (place : ℕ) (new : HeldPass) → AllByRecursion P passes → P new → AllByRecursion P (slice_set passes place new)
all_set P [] place new all is = tt
all_set P (held ∷ passes) zero new all is = (is, all.1)
all_set P (held ∷ passes) (suc place) new all is = (all.0, all_set P passes place new all.1 is)

all_got : (P : HeldPass → Type 0) (passes : List HeldPass) (place : ℕ) (held : HeldPass) → AllByRecursion P passes → slice_get passes place ≡ Some held → P held
all_got P [] place held all got = let never : ⊥ = cc in absurd never
all_got P (h ∷ passes) zero held all got = let same : h ≡ held = cc in subst P same all.0
all_got P (h ∷ passes) (suc place) held all got = all_got P passes place held all.1 got

pub tidy_none : AreTidy [] []
tidy_none = record { found = λ place held got. (let never : ⊥ = cc in absurd never); counted = tt }

-- one of them is set, of the same client
pub tidy_set : (passes : List HeldPass) (places : List (ℕ × ℕ)) (place : ℕ) (old new : HeldPass) → AreTidy passes places → slice_get passes place ≡ Some old → new.pass.client ≡ old.pass.client → IsCounted new → AreTidy (slice_set passes place new) places
tidy_set passes places place old new tidy got its counted = record {
  found = λ n held at. ⊎_elim
      (λ (here : (n ≡ place) × (new ≡ held)).
      let client : old.pass.client ≡ held.pass.client = sym its ∙ ap (λ (h : HeldPass). h.pass.client) here.1 in
      subst (λ c. lookup (is_at (nat_cmp c)) places ≡ Some n) client (tidy.found place old got ∙ ap (λ m. Some m) (sym here.0)))
      (λ (there : (n ≢ place) × (slice_get passes n ≡ Some held)). tidy.found n held there.1)
      (at_set passes place new held n at);
  counted = all_set IsCounted passes place new tidy.counted counted;
}

counted_at : (passes : List HeldPass) (places : List (ℕ × ℕ)) (place : ℕ) (old : HeldPass) → AreTidy passes places → slice_get passes place ≡ Some old → IsCounted old
counted_at passes places place old tidy got = all_got IsCounted passes place old tidy.counted got

pub tidy_set_same : (passes : List HeldPass) (places : List (ℕ × ℕ)) (place : ℕ) (old new : HeldPass) → AreTidy passes places → slice_get passes place ≡ Some old → IsAlike old new → AreTidy (slice_set passes place new) places
tidy_set_same passes places place old new tidy got same = tidy_set passes places place old new tidy got same.client (counted_alike old new same (counted_at passes places place old tidy got))

-- a place for a client without a pass leaves the others
found_still : (client place : ℕ) (passes : List HeldPass) (places : List (ℕ × ℕ)) → HaveNone client passes → AreTidy passes places → (n : ℕ) (held : HeldPass) → slice_get passes n ≡ Some held →
    lookup (is_at (nat_cmp held.pass.client)) (insert_entry nat_cmp places client place) ≡ Some n
found_still client place passes places none tidy n held got =
    let c = held.pass.client in
    let apart : eq_by_cmp nat_cmp c client ≡ false = untied c client (differs client c (λ same. none n (held, got, sym same))) in
    lookup-insert_entry nat_cmp nat_cmp_total c client place places ∙ ap (λ b. cond b (Some place) (lookup (is_at (nat_cmp c)) places)) apart ∙ tidy.found n held got

pub tidy_placed : (client place : ℕ) (passes : List HeldPass) (places : List (ℕ × ℕ)) → HaveNone client passes → AreTidy passes places → AreTidy passes (insert_entry nat_cmp places client place)
tidy_placed client place passes places none tidy = record { found = found_still client place passes places none tidy; counted = tidy.counted }

counted_lent : (client last since : ℕ) → IsCounted (lent_since client last since)
counted_lent client last since = record { last = refl; rising = tt }

-- one more, of a client that had none
pub tidy_lent : (client last since : ℕ) (passes : List HeldPass) (places : List (ℕ × ℕ)) (held : HeldPass) → held ≡ lent_since client last since → HaveNone client passes → AreTidy passes places →
    AreTidy (passes ++ held ∷ []) (insert_entry nat_cmp places client (length passes))
tidy_lent client last since passes places held is none tidy = record {
  found = λ n other got. ⊎_elim
      (λ old. found_still client (length passes) passes places none tidy n other old)
      (λ (new : (held ≡ other) × (n ≡ length passes)).
      let its : client ≡ other.pass.client = sym (ap (λ (h : HeldPass). h.pass.client) is) ∙ ap (λ (h : HeldPass). h.pass.client) new.0 in
      let here : lookup (is_at (nat_cmp client)) (insert_entry nat_cmp places client (length passes)) ≡ Some (length passes) =
      lookup-insert_entry nat_cmp nat_cmp_total client client (length passes) places ∙ ap (λ b. cond b (Some (length passes)) (lookup (is_at (nat_cmp client)) places)) (tied_itself-nat client) in
      subst (λ c. lookup (is_at (nat_cmp c)) (insert_entry nat_cmp places client (length passes)) ≡ Some n) its (here ∙ ap (λ m. Some m) (sym new.1)))
      (at_end passes held other n got);
  counted = all-last IsCounted passes held tidy.counted (subst IsCounted (sym is) (counted_lent client last since));
}

flushed_got : (count : ℕ) (passes : List HeldPass) (place : ℕ) (held : HeldPass) → slice_get (map (with_flush count) passes) place ≡ Some held → (old : HeldPass) × (slice_get passes place ≡ Some old) × (held ≡ with_flush count old)
flushed_got count [] place held got = let never : ⊥ = cc in absurd never
flushed_got count (h ∷ passes) zero held got = (h, refl, (let same : with_flush count h ≡ held = cc in sym same))
flushed_got count (h ∷ passes) (suc place) held got = flushed_got count passes place held got

all_flushed : (count : ℕ) (passes : List HeldPass) → AllByRecursion IsCounted passes → AllByRecursion IsCounted (map (with_flush count) passes)
all_flushed count [] all = tt
all_flushed count (held ∷ passes) all = (counted_alike held (with_flush count held) (flushed_alike count held) all.0, all_flushed count passes all.1)

pub tidy_flushed : (count : ℕ) (passes : List HeldPass) (places : List (ℕ × ℕ)) → AreTidy passes places → AreTidy (map (with_flush count) passes) places
tidy_flushed count passes places tidy = record {
  found = λ n held got.
      let old = flushed_got count passes n held got in
      let its : old.0.pass.client ≡ held.pass.client = sym (flushed_alike count old.0).client ∙ ap (λ (h : HeldPass). h.pass.client) (sym old.2) in
      subst (λ c. lookup (is_at (nat_cmp c)) places ≡ Some n) its (tidy.found n old.0 old.1);
  counted = all_flushed count passes tidy.counted;
}

-- ---- a place is found

-- a client without a place has no pass
pub no_place : (client : ℕ) (passes : List HeldPass) (places : List (ℕ × ℕ)) → AreTidy passes places → ((place : ℕ) → lookup (is_at (nat_cmp client)) places ≡ Some place → IsPassOf client passes place → ⊥) → HaveNone client passes
no_place client passes places tidy never = λ place is. never place (subst (λ c. lookup (is_at (nat_cmp c)) places ≡ Some place) is.2 (tidy.found place is.0 is.1)) is

-- ---- a flush

flushed_reaches : (count : ℕ) (held : HeldPass) → held.pass.lent_at < held.pass.last → held.pass.last ≤ (with_flush count held).pass.row.last
flushed_reaches count held less =
    let row = held.pass.row in
    let last = held.pass.last in
    elim (nat_lt held.pass.lent_at held.pass.last && is_unknown (known held.pass held.pass.last)) as (λ b. (nat_lt held.pass.lent_at held.pass.last && is_unknown (known held.pass held.pass.last)) ≡ b →
    last ≤ (if b then with_answer held (with_told held.pass last Accepted) last Accepted else held).pass.row.last) [
      | true ↦ λ _. (reached_least row last).0
      | false ↦ λ off. told_within row last (ap (λ b. b && is_unknown (told_of row last)) (sym (test_true held.pass.lent_at last less)) ∙ off)
    ] refl

-- all accepts of its client are durable after it
pub flushed_sure : (count : ℕ) (passes : List HeldPass) (client number : ℕ) → AllByRecursion IsCounted passes → 0 < number → number ≤ last_of 0 (accepts_by client passes) → IsSure (map (with_flush count) passes) client number
flushed_sure count [] client number all some within = absurd (omega (arith, some, within))
flushed_sure count (held ∷ passes) client number all some within =
    let rest = accepts_by client passes in
    elim (held.pass.client == client) as (λ b. (held.pass.client == client) ≡ b → number ≤ last_of 0 (if b then held.accepts else rest) → IsSure (map (with_flush count) (held ∷ passes)) client number) [
      | true ↦ λ same within.
          let is : held.pass.client ≡ client = exact_unsigned_eq held.pass.client client same in
          let last = all.0.last in
          ⊎_elim
          (λ none. let zero_last = none.1 in absurd (omega (arith, some, within, zero_last)))
          (λ above.
          let up = above.0 in
          let there = above.1 in
          let less : held.pass.lent_at < held.pass.last = omega (arith, last, up) in
          let reached : number ≤ held.pass.last = omega (arith, within, there, last) in
          let sure : held.pass.last ≤ (with_flush count held).pass.row.last = flushed_reaches count held less in
          inl ((flushed_alike count held).client ∙ is, omega (arith, reached, sure)))
          (last_cases held.pass.lent_at held.accepts all.0.rising)
      | false ↦ λ _ within. inr (flushed_sure count passes client number all.1 some within)
    ] refl within

-- ---- what lines did

pub nothing_done : (lists : List (List MsgId)) → IsDoneBy [] lists (record { accepts = []; delivered = lists; knows = λ client. no_client })
nothing_done lists = record { accepts = λ client. refl; delivered = refl; knows = λ client. refl }

pub done_same : (old new : List HeldPass) (lists : List (List MsgId)) (deeds : Deeds) → AreAccepted old new → KnowTheSame old new → IsDoneBy old lists deeds → IsDoneBy new lists deeds
done_same old new lists deeds same known done = record { accepts = λ client. done.accepts client ∙ sym (same client); delivered = done.delivered; knows = λ client. done.knows client ∙ sym (known client) }

-- a client was told something
module _ (old new : List HeldPass) (lists : List (List MsgId)) (deeds : Deeds) (client number : ℕ) (told : Told) (is : IsToldBy client number old new told) (done : IsDoneBy old lists deeds) where
  pub told_no_less : IsNoLess (told_of (deeds.knows client) number) told
  told_no_less = subst (λ row. IsNoLess (told_of row number) told) (sym (done.knows client)) is.0

  told_knows : (other : ℕ) → (having_told deeds client number told).knows other ≡ row_by other new
  told_knows other = ap (λ row. if client == other then hears row number told else row) (done.knows other) ∙ sym (is.1 other)

  pub done_told : AreAccepted old new → IsDoneBy new lists (having_told deeds client number told)
  done_told same = record { accepts = λ other. done.accepts other ∙ sym (same other); delivered = done.delivered; knows = told_knows }

  pub done_more : (event : Event) → ((other : ℕ) → accepts_by other new ≡ accepts_by other old ++ accepts_in other (event ∷ [])) → IsDoneBy new lists (record (having_told deeds client number told) { accepts = deeds.accepts ++ event ∷ [] })
  done_more event more = record {
    accepts = λ other. accepts_in-append other deeds.accepts (event ∷ []) ∙ ap (λ es. es ++ accepts_in other (event ∷ [])) (done.accepts other) ∙ sym (more other);
    delivered = done.delivered;
    knows = told_knows;
  }

-- a flush leaves what was done, and makes it durable
pub flushed_durable : (count : ℕ) (shown : RuntimeShown) (names : Names) (passes new : List HeldPass) (lists : List (List MsgId)) (deeds : Deeds) → new ≡ map (with_flush count) passes → AllByRecursion IsCounted passes → IsDoneBy passes lists deeds → AreDurable (known_by shown names new) deeds.accepts
flushed_durable count shown names passes new lists deeds is all done = λ client number some within.
    subst (λ (ps : List HeldPass). IsSure ps client number) (sym is) (flushed_sure count passes client number all some (subst (λ es. number ≤ last_of 0 es) (done.accepts client) within))

-- the pass has exactly its client's accepts in this history
abbrev pub HasAccepts : Core → HeldPass → Type 0
HasAccepts core held = held.accepts ≡ accepts_in held.pass.client core.history

-- so has each that is current
pub all_accepts : (core : Core) (passes : List HeldPass) → AllByRecursion (λ (held : HeldPass). IsCurrent held core) passes → AllByRecursion (HasAccepts core) passes
all_accepts core [] all = tt
all_accepts core (held ∷ passes) all = (all.0.all, all_accepts core passes all.1)

-- what the client's pass holds as accepts is in a history, if it has one
accepts_or : (core : Core) (passes : List HeldPass) (client : ℕ) → AllByRecursion (HasAccepts core) passes →
    (accepts_by client passes ≡ accepts_in client core.history) ⊎ ((accepts_by client passes ≡ []) × AllByRecursion (λ (h : HeldPass). h.pass.client ≢ client) passes)
accepts_or core [] client all = inr (refl, tt)
accepts_or core (held ∷ passes) client all =
    let rest = accepts_by client passes in
    let There : List Event → Type 0 = λ es. (es ≡ accepts_in client core.history) ⊎ ((es ≡ []) × AllByRecursion (λ (h : HeldPass). h.pass.client ≢ client) (held ∷ passes)) in
    elim (held.pass.client == client) as (λ b. (held.pass.client == client) ≡ b → There (if b then held.accepts else rest)) [
      | true ↦ λ same. inl (all.0 ∙ ap (λ c. accepts_in c core.history) (exact_unsigned_eq held.pass.client client same))
      | false ↦ λ off.
          let apart : held.pass.client ≢ client = λ same. (let tied : (held.pass.client == client) ≡ true = ties held.pass.client client same in let never : ⊥ = cc in never) in
          ⊎_elim (λ is. inl is) (λ none. inr (none.0, (apart, none.1))) (accepts_or core passes client all.1)
    ] refl

-- where no client without a pass has accepts
pub accepts_are : (core : Core) (passes : List HeldPass) (client : ℕ) → AllByRecursion (HasAccepts core) passes → HaveAllAccepts passes core → accepts_by client passes ≡ accepts_in client core.history
accepts_are core passes client all have = ⊎_elim (λ is. is) (λ none. none.0 ∙ sym (have client none.1)) (accepts_or core passes client all)

-- a client without a pass knows nothing
nothing_known : (opening : World) (history : List Event) (client number : ℕ) → Holds opening history client number (told_of no_client number)
nothing_known opening history client number =
    elim (nat_lt 0 number) as (λ b. nat_lt 0 number ≡ b → Holds opening history client number (if b then Unknown else if b && nat_le number 0 then told_of_item (reply_to no_client number) else Past)) [
      | true ↦ λ _. tt
      | false ↦ λ off. let least = ltb-false 0 number off in omega (arith, least)
    ] refl

-- and one with a current pass what is true of the durable events
pass_known : (core : Core) (passes : List HeldPass) (client number : ℕ) → AllByRecursion (λ (held : HeldPass). IsCurrent held core) passes → Holds core.opening (take core.durable core.history) client number (told_of (row_by client passes) number)
pass_known core [] client number all = nothing_known core.opening (take core.durable core.history) client number
pass_known core (held ∷ passes) client number all =
    let first = take core.durable core.history in
    elim (held.pass.client == client) as (λ b. (held.pass.client == client) ≡ b → Holds core.opening first client number (told_of (if b then held.pass.row else row_by client passes) number)) [
      | true ↦ λ same. subst (λ c. Holds core.opening first c number (told_of held.pass.row number)) (exact_unsigned_eq held.pass.client client same) (all.0.told number)
      | false ↦ λ _. pass_known core passes client number all.1
    ] refl

-- a flush tells how many events there were, with the accepts of the lines so far
pub were_flushed : (shown : RuntimeShown) (old new : List HeldPass) (lists : List (List MsgId)) (deeds after : Deeds) (count : ℕ) → AreAccepted old new → IsDoneBy old lists deeds → IsDoneBy new lists after → AreFlushed shown new count →
    WereFlushed shown deeds.accepts after.knows count
were_flushed shown old new lists deeds after count same done did are = record {
  core = are.core;
  moment = are.moment;
  durable = are.durable;
  counted = are.counted;
  accepts_are = λ client.
      let here = done.accepts client ∙ sym (same client) in
      ⊎_elim (λ is. inr (here ∙ is)) (λ none. inl (here ∙ none.0)) (accepts_or are.core new client (all_accepts are.core new are.current));
  told = λ client number.
      let core = are.core in
      let whole : take core.durable core.history ≡ core.history = ap (λ n. take n core.history) are.durable ∙ take_all (length core.history) core.history (le_refl (length core.history)) in
      subst (λ (row : ClientRow). Holds core.opening core.history client number (told_of row number)) (sym (did.knows client))
      (subst (λ es. Holds core.opening es client number (told_of (row_by client new) number)) whole (pass_known core new client number are.current));
}

-- what a request was answered, and what it did
pub told_answers : (shown : RuntimeShown) (names : Names) (old new : List HeldPass) (lists : List (List MsgId)) (deeds : Deeds) (client : ℕ) (request : Request) (r : Result Told Refusal) → IsDoneBy old lists deeds → OnOk r (IsAsked client request old new) → OnErr r (AreAccepted old new) →
    IfOk r (IsToldBy client request.number old new) → OnErr r (KnowTheSame old new) → IfOk r (IsHeard new client request.number) → OnOk r (IsReached new client request.number) → IfErr r (λ refusal. (is_request_refusal refusal || is_lending_refusal refusal) ≡ true) →
    IfErr r (IsAskingCauseBy shown.opening new (accepts_by client old) client request.number request.to request.words.now) →
    (after : Deeds) × IsDoneBy new lists after × Answers (known_by shown names new) deeds (client_answer r) (steps.Request client request.number request.to request.entry request.words.now) after
told_answers shown names old new lists deeds client request (Ok told) done asked unasked told_is untold heard reached refused cause =
    let so : IsTold (known_by shown names new) deeds client request.number told = (heard, told_no_less old new lists deeds client request.number told told_is done) in
    ⊎_elim
    (λ more. (
      record (having_told deeds client request.number told) { accepts = deeds.accepts ++ accept_of client request ∷ [] },
      done_more old new lists deeds client request.number told told_is done (accept_of client request) more,
      (so, reached, inl refl),
    ))
    (λ repeat. (
      having_told deeds client request.number told,
      done_told old new lists deeds client request.number told told_is done repeat.0,
      (so, reached, inr (refl, ⊎_elim (λ line. inl (subst (λ es. IsRecent (last_of 0 es) request.number) (sym (done.accepts client)) line)) (λ earlier. inr earlier) repeat.1)),
    ))
    asked
told_answers shown names old new lists deeds client request (Err refusal) done asked unasked told_is untold heard reached refused cause =
    let its = subst (λ es. IsAskingCauseBy shown.opening new es client request.number request.to request.words.now refusal) (sym (done.accepts client)) cause in
    (deeds, done_same old new lists deeds unasked untold done, (refused, its, refl))

-- and a question
pub stated_answers : (shown : RuntimeShown) (names : Names) (old new : List HeldPass) (lists : List (List MsgId)) (deeds : Deeds) (client number : ℕ) (r : Result Told Refusal) → IsDoneBy old lists deeds → AreAccepted old new →
    IfOk r (IsToldBy client number old new) → OnErr r (KnowTheSame old new) → IfOk r (IsHeard new client number) →
    IfErr r (λ refusal. (is_status_refusal refusal || is_lending_refusal refusal) ≡ true) → IfErr r (IsStatusCause (accepts_by client old)) →
    (after : Deeds) × IsDoneBy new lists after × Answers (known_by shown names new) deeds (client_answer r) (steps.Status client number) after
stated_answers shown names old new lists deeds client number (Ok told) done same told_is untold heard refused cause =
    (having_told deeds client number told, done_told old new lists deeds client number told told_is done same, ((heard, told_no_less old new lists deeds client number told told_is done), refl))
stated_answers shown names old new lists deeds client number (Err refusal) done same told_is untold heard refused cause =
    (deeds, done_same old new lists deeds same untold done, (refused, subst (λ es. IsStatusCause es refusal) (sym (done.accepts client)) cause, refl))

-- ---- why a request is refused

-- a client without a pass has no accepts
none_accepts : (client : ℕ) (passes : List HeldPass) → HaveNone client passes → accepts_by client passes ≡ []
none_accepts client [] none = refl
none_accepts client (held ∷ passes) none =
    ap (λ b. if b then held.accepts else accepts_by client passes) (differs held.pass.client client (λ same. none 0 (held, refl, same))) ∙ none_accepts client passes (λ place is. none (suc place) (is.0, is.1, is.2))

unlent_asking : (opening : World) (accepts : List Event) (from number : ℕ) (to : Elem) (words : List ℕ) (refusal : Refusal) → is_lending_refusal refusal ≡ true → accepts ≡ [] → IsAskingCause opening accepts from number to words refusal
unlent_asking opening accepts from number to words refusals.Memory lends none = tt
unlent_asking opening accepts from number to words refusals.PassOut lends none = none
unlent_asking opening accepts from number to words refusal lends none = let never : ⊥ = cc in absurd never

-- none is lent to it
pub unlent_cause : (opening : World) (first new : List HeldPass) (client number : ℕ) (to : Elem) (words : List ℕ) (refusal : Refusal) → is_lending_refusal refusal ≡ true → HaveNone client first → IsAskingCauseBy opening new (accepts_by client first) client number to words refusal
unlent_cause opening first new client number to words refusal lends none =
    inl (λ from. unlent_asking opening (accepts_by client first) from number to words refusal lends (none_accepts client first none))

unlent_question : (accepts : List Event) (refusal : Refusal) → accepts ≡ [] → IsStatusCause accepts refusal
unlent_question accepts refusals.PassOut none = none
unlent_question accepts refusal none = tt

pub unlent_status : (first : List HeldPass) (client : ℕ) (refusal : Refusal) → HaveNone client first → IsStatusCause (accepts_by client first) refusal
unlent_status first client refusal none = unlent_question (accepts_by client first) refusal (none_accepts client first none)

lent_question : (accepts : List Event) (refusal : Refusal) → is_status_refusal refusal ≡ true → IsStatusCause accepts refusal
lent_question accepts refusals.PassOut is = let never : ⊥ = cc in absurd never
lent_question accepts refusal is = tt

pub lent_status : (accepts : List Event) (r : Result Told Refusal) → IfErr r (λ refusal. is_status_refusal refusal ≡ true) → IfErr r (IsStatusCause accepts)
lent_status accepts (Ok told) is = tt
lent_status accepts (Err refusal) is = lent_question accepts refusal is

-- what is known by a client's numbers is why it is refused
asking_cause : (opening : World) (accepts : List Event) (from number : ℕ) (to : Elem) (words : List ℕ) (refusal : Refusal) → IsCauseAfter opening from (last_of from accepts) number to words refusal →
    ((wanted : ℕ) → refusal ≡ refusals.OutOfTurn wanted → wanted ≡ capped (last_of from accepts) 1) → IsAskingCause opening accepts from number to words refusal
asking_cause opening accepts from number to words refusals.Memory cause wants = tt
asking_cause opening accepts from number to words refusals.Halted cause wants = tt
asking_cause opening accepts from number to words (refusals.OutOfTurn wanted) cause wants = (wants wanted refl, cause)
asking_cause opening accepts from number to words refusals.Waiting cause wants = cause
asking_cause opening accepts from number to words refusals.NoArray cause wants = cause
asking_cause opening accepts from number to words refusals.TooLong cause wants = cause
asking_cause opening accepts from number to words refusals.ClientsFull cause wants = cause
asking_cause opening accepts from number to words refusals.HistoryFull cause wants = cause
asking_cause opening accepts from number to words refusal cause wants = absurd cause

-- ---- a request by a pass

lent_there : (passes : List HeldPass) (place : ℕ) (old new : HeldPass) (client : ℕ) (is : ℕ → Type 0) → slice_get passes place ≡ Some old → new.pass.client ≡ client → is new.pass.lent_at → IsLentAt (slice_set passes place new) client is
lent_there [] place old new client is got its lent = let never : ⊥ = cc in absurd never
lent_there (h ∷ passes) zero old new client is got its lent = inl (its, lent)
lent_there (h ∷ passes) (suc place) old new client is got its lent = inr (lent_there passes place old new client is got its lent)

module _ (first passes : List HeldPass) (places : List (ℕ × ℕ)) (place : ℕ) (old new : HeldPass) (client : ℕ) (tidy : AreTidy passes places) (got : slice_get passes place ≡ Some old) (of : old.pass.client ≡ client) (since : AreAccepted first passes) where
  is_first : IsAt client passes place
  is_first = tidy_at client passes places place tidy (old, got, of)

  counted_old : IsCounted old
  counted_old = counted_at passes places place old tidy got

  same_accepts : IsAlike old new → AreAccepted first (slice_set passes place new)
  same_accepts same = λ other. accepts_set_same passes place old new got same other ∙ since other

  -- it repeats one of the client's
  repeated : (request : Request) → IsAlike old new → IsRecent old.pass.last request.number → IsRecent (last_of 0 (accepts_by client first)) request.number ⊎ IsLentAt (slice_set passes place new) client (λ last. IsRecent last request.number)
  repeated request same recent =
      let Is : ℕ → Type 0 = λ last. IsRecent last request.number in
      let last = counted_old.last in
      ⊎_elim
      (λ none. inr (lent_there passes place old new client Is got (same.client ∙ of) (subst Is (last ∙ none.0 ∙ sym same.lent_at) recent)))
      (λ above. inl (subst (λ es. Is (last_of 0 es)) (sym (accepts_at client passes place old is_first got) ∙ since client) (subst Is (last ∙ sym above.1) recent)))
      (last_cases old.pass.lent_at old.accepts counted_old.rising)

  asked_is : (request : Request) → (request.number ≤ old.pass.last → IsRecent old.pass.last request.number) → ((IsAlike old new × (request.number ≤ old.pass.last)) ⊎ IsMore request old new) → IsAsked client request first (slice_set passes place new)
  asked_is request recent cases =
      ⊎_elim
      (λ same. inr (same_accepts same.0, repeated request same.0 (recent same.1)))
      (λ more. inl (λ other.
      accepts_set_more client request passes place old new is_first got (more.client ∙ of) (more.accepts ∙ ap (λ c. old.accepts ++ accept_of c request ∷ []) of) other
      ∙ ap (λ es. es ++ accepts_in other (accept_of client request ∷ [])) (since other)))
      cases

  pub asked_cause : (opening : World) (request : Request) (r : Result Told Refusal) → IfErr r (IsRequestCause opening old request) → IsAnswered old new request.number r →
      IfErr r (IsAskingCauseBy opening (slice_set passes place new) (accepts_by client first) client request.number request.to request.words.now)
  asked_cause opening request (Ok told) cause answered = tt
  asked_cause opening request (Err refusal) cause answered =
      let mine = accepts_by client first in
      let same : old.accepts ≡ mine = sym (accepts_at client passes place old is_first got) ∙ since client in
      let last : old.pass.last ≡ last_of old.pass.lent_at mine = counted_old.last ∙ ap (last_of old.pass.lent_at) same in
      let its : new.pass.client ≡ client = ap (λ (h : HeldPass). h.pass.client) answered.err ∙ of in
      let Is : ℕ → Type 0 = λ from. IsAskingCause opening mine from request.number request.to request.words.now refusal in
      let known = subst (λ (n : ℕ). IsCauseAfter opening old.pass.lent_at n request.number request.to request.words.now refusal) last cause in
      let wants : (wanted : ℕ) → refusal ≡ refusals.OutOfTurn wanted → wanted ≡ capped (last_of old.pass.lent_at mine) 1 = λ wanted is. answered.wanted wanted is ∙ ap (λ n. capped n 1) last in
      let why = asking_cause opening mine old.pass.lent_at request.number request.to request.words.now refusal known wants in
      inr (lent_there passes place old new client Is got its (subst Is (sym (ap (λ (h : HeldPass). h.pass.lent_at) answered.err)) why))

  asked_tidy_is : (request : Request) → ((IsAlike old new × (request.number ≤ old.pass.last)) ⊎ IsMore request old new) → AreTidy (slice_set passes place new) places
  asked_tidy_is request cases =
      ⊎_elim
      (λ same. tidy_set_same passes places place old new tidy got same.0)
      (λ more. tidy_set passes places place old new tidy got more.client (counted_more request old new more counted_old))
      cases

  pub asked_ok : (request : Request) (r : Result Told Refusal) → IfOk r (λ told. new.pass ≡ with_accept (with_told old.pass request.number told) request.number) → OnOk r (new.accepts ≡ accepts_after old request) →
      OnOk r (request.number ≤ old.pass.last → IsRecent old.pass.last request.number) → OnOk r (IsAsked client request first (slice_set passes place new))
  asked_ok request (Ok told) is accepts recent = asked_is request recent (asked_cases request old new told is accepts)
  asked_ok request (Err refusal) is accepts recent = tt

  unchanged : new ≡ old → IsAlike old new
  unchanged is = subst (IsAlike old) (sym is) (alike old)

  pub asked_err : (number : ℕ) (r : Result Told Refusal) → IsAnswered old new number r → OnErr r (AreAccepted first (slice_set passes place new))
  asked_err number (Ok told) answered = tt
  asked_err number (Err refusal) answered = same_accepts (unchanged answered.err)

  pub asked_tidy : (request : Request) (r : Result Told Refusal) → IfOk r (λ told. new.pass ≡ with_accept (with_told old.pass request.number told) request.number) → OnOk r (new.accepts ≡ accepts_after old request) → IsAnswered old new request.number r →
      AreTidy (slice_set passes place new) places
  asked_tidy request (Ok told) is accepts answered = asked_tidy_is request (asked_cases request old new told is accepts)
  asked_tidy request (Err refusal) is accepts answered = tidy_set_same passes places place old new tidy got (unchanged answered.err)

  stated_alike : (number : ℕ) (r : Result Told Refusal) → IfOk r (λ told. new.pass ≡ with_told old.pass number told) → new.accepts ≡ old.accepts → IsAnswered old new number r → IsAlike old new
  stated_alike number (Ok told) is accepts answered = record { client = ap (λ (p : Pass). p.client) is; lent_at = ap (λ (p : Pass). p.lent_at) is; last = ap (λ (p : Pass). p.last) is; accepts = accepts }
  stated_alike number (Err refusal) is accepts answered = unchanged answered.err

  pub stated_accepts : (number : ℕ) (r : Result Told Refusal) → IfOk r (λ told. new.pass ≡ with_told old.pass number told) → new.accepts ≡ old.accepts → IsAnswered old new number r → AreAccepted first (slice_set passes place new)
  stated_accepts number r is accepts answered = same_accepts (stated_alike number r is accepts answered)

  pub stated_tidy : (number : ℕ) (r : Result Told Refusal) → IfOk r (λ told. new.pass ≡ with_told old.pass number told) → new.accepts ≡ old.accepts → IsAnswered old new number r → AreTidy (slice_set passes place new) places
  stated_tidy number r is accepts answered = tidy_set_same passes places place old new tidy got (stated_alike number r is accepts answered)

-- ---- in the end

-- what is so of the number at which a client's pass was lent is so of its last one in the opening
pub lent_in : (core : Core) (passes : List HeldPass) (client : ℕ) (is : ℕ → Type 0) → AllByRecursion (λ (held : HeldPass). IsCurrent held core) passes → IsLentAt passes client is → is (client_of core.opening client).last
lent_in core [] client is all lent = absurd lent
lent_in core (held ∷ passes) client is all lent =
    ⊎_elim (λ here. subst (λ c. is (client_of core.opening c).last) here.0 (subst is all.0.lent_at here.1)) (λ there. lent_in core passes client is all.1 there) lent

-- and so is what a step is refused for
pub cause_in : (first : ℕ) (core : Core) (passes : List HeldPass) (accepts : List Event) (step : Step) (refusal : Refusal) → AllByRecursion (λ (held : HeldPass). IsCurrent held core) passes → IsStepCauseBy (shown_since first core) passes accepts step refusal → IsStepCause (shown_since first core) accepts step refusal
cause_in first core passes accepts (steps.Request client number to entry words) refusal all cause =
    let mine = accepts_in client accepts in
    ⊎_elim (λ any. any (client_of core.opening client).last) (λ lent. lent_in core passes client (λ first. IsAskingCause core.opening mine first number to words refusal) all lent) cause
cause_in first core passes accepts step refusal all cause = cause
