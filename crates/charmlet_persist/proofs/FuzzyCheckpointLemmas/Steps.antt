-- What each event and each image keeps of a running checkpoint.
use Rattle.std.proofs.Common.{◌≡◌, inl, inr, ⊎_elim, ℕ, ◌+◌, ◌-◌, ◌≤◌, Bool, true, false, cond, List, [], ◌∷◌, ◌++◌, length, take, drop, refl, sym, ap, subst, ◌∙◌, length-append, arith, if◌then◌else◌}
use Rattle.std.proofs.lemmas.Grind.{flat_map-append}
use Rattle.std.proofs.lemmas.List.{append-nil, take-append-drop, take-append-le, drop-append-le, take_all}
use Rattle.std.proofs.lemmas.Map.Views.{tells_apart}
use Rattle.std.specs.Prelude.{Option, Some, None, is_some, option_and_then, option_map}
use Rattle.std.specs.BTreeMap.{insert_entry}
use Rattle.std.specs.List.{flat_map}
use Rattle.std.specs.List.Sorted.{IsStrictlySortedBy}
use Rattle.std.specs.Map.{keys_of}
use Rattle.std.specs.Ordering.{eq_by_cmp}
use Rattle.charmlet_model.specs.declared.names.Elem.{Elem}
use Rattle.charmlet_model.specs.declared.names.MsgId.{MsgId}
use Rattle.charmlet_model.specs.declared.message.Message.{Message}
use Rattle.charmlet_model.specs.declared.event.Event.{Event}
use Rattle.charmlet_model.specs.declared.event.Event.TheVariants as events
use Rattle.charmlet_model.specs.declared.reaction.Reaction.{Reaction}
use Rattle.charmlet_model.specs.declared.state.State.{State}
use Rattle.charmlet_model.specs.declared.state.Record.{Record}
use Rattle.charmlet_model.specs.declared.logged.CatchUpEntry.{CatchUpEntry}
use Rattle.charmlet_model.specs.Core.{Core, committed, pending_message, present}
use Rattle.charmlet_model.specs.Names.{elem_cmp}
use Rattle.charmlet_model.specs.Packed.{pupped}
use Rattle.charmlet_model.specs.Spelling.{spell_caught_up}
use Rattle.charmlet_model.specs.World.{World, world, after, advanced, delivered, message_among, no_record, performed, reaction_of, record_of}
use Rattle.charmlet_model.proofs.Histories.{record_at-insert, world-append}
use Rattle.charmlet_model.proofs.Maps.{elem_exact, elem_total, lookup-insert_entry, rising-insert_entry, tied_elem}
use Rattle.charmlet_recovery.specs.Moments.{deliveries, noted, noted_at, noted_if}
use Rattle.charmlet_recovery.proofs.Recovered.{deliveries-append}
use Rattle.charmlet_shelf.proofs.Risen.{none_from_test}
use Rattle.charmlet_persist.specs.declared.fuzzy_checkpoint.captured_element.CapturedElement.{CapturedElement}
use Rattle.charmlet_persist.specs.FuzzyCheckpoint.Checkpoint.{IsEntry, IsRunning, IsRunningFrom, IsSettled, Run, caught, events_since, left_by, captured_of, with_message, with_reaction, world_before}

-- ---- maps

-- what holds of each element holds once one of them is captured
pub captured_put : (P : Elem → Option (Option CapturedElement) → Type 0) (captured : List (Elem × Option CapturedElement)) (x : Elem) (v : Option CapturedElement) → P x (Some v) →
    ((y : Elem) → eq_by_cmp elem_cmp y x ≡ false → P y (captured_of captured y)) → (y : Elem) → P y (captured_of (insert_entry elem_cmp captured x v) y)
captured_put P captured x v here others y =
    subst (P y) (sym (lookup-insert_entry elem_cmp elem_total y x v captured))
    (elim (eq_by_cmp elem_cmp y x) as (λ b. eq_by_cmp elem_cmp y x ≡ b → P y (cond b (Some v) (captured_of captured y))) [
      | true ↦ λ same. subst (λ z. P z (Some v)) (sym (tells_apart elem_exact y x same)) here
      | false ↦ λ apart. others y apart
    ] refl)

-- and once it holds of one, where it holds of the others
pub captured_kept : (P : Elem → Option (Option CapturedElement) → Type 0) (captured : List (Elem × Option CapturedElement)) (x : Elem) → P x (captured_of captured x) →
    ((y : Elem) → eq_by_cmp elem_cmp y x ≡ false → P y (captured_of captured y)) → (y : Elem) → P y (captured_of captured y)
captured_kept P captured x here others y =
    elim (eq_by_cmp elem_cmp y x) as (λ b. eq_by_cmp elem_cmp y x ≡ b → P y (captured_of captured y)) [
      | true ↦ λ same. subst (λ z. P z (captured_of captured z)) (sym (tells_apart elem_exact y x same)) here
      | false ↦ λ apart. others y apart
    ] refl

abbrev pub Rises : List (Elem × Option CapturedElement) → Type 0
Rises captured = IsStrictlySortedBy elem_cmp (keys_of captured)

pub put_rises : (captured : List (Elem × Option CapturedElement)) (x : Elem) (v : Option CapturedElement) → Rises captured → Rises (insert_entry elem_cmp captured x v)
put_rises captured x v rises = rising-insert_entry elem_cmp elem_total x v captured rises

-- ---- one more event

-- an element is captured by its record at some moment
abbrev pub Captures : World → List Event → Elem → Option (Option CapturedElement) → Type 0
Captures w es x o = (k : ℕ) × IsSettled w es k x o

module _ (w : World) (es : List Event) (e : Event) where
  abbrev more : List Event
  more = es ++ e ∷ []

  pub grown : world w more ≡ after (world w es) e
  grown = world-append w es (e ∷ [])

  entry_stays : (s : CapturedElement) (k : ℕ) (x : Elem) → (k ≤ length es) × IsEntry s (record_of (world w (take k es)) x) → (k ≤ length more) × IsEntry s (record_of (world w (take k more)) x)
  entry_stays s k x h = (
    omega (arith, h.0, length-append es (e ∷ [])),
    subst (λ (l : List Event). IsEntry s (record_of (world w l) x)) (sym (take-append-le k es (e ∷ []) h.0)) h.1,
  )

  -- what is captured stays so
  pub known_stays : (x : Elem) (o : Option (Option CapturedElement)) → is_some o ≡ true → Captures w es x o → Captures w more x o
  known_stays x None some h = absurd (let never : ⊥ = cc in never)
  known_stays x (Some None) some h = h
  known_stays x (Some (Some s)) some h = (h.0, entry_stays s h.0 x h.1)

  -- and what has the same record
  pub same_stays : (x : Elem) (o : Option (Option CapturedElement)) → record_of (world w more) x ≡ record_of (world w es) x → Captures w es x o → Captures w more x o
  same_stays x None same h = (h.0, ⊎_elim (λ there. inl (ap (λ (r : Record). is_some r.state) same ∙ there)) (λ none. inr (none.0, same ∙ none.1)) h.1)
  same_stays x (Some None) same h = h
  same_stays x (Some (Some s)) same h = (h.0, entry_stays s h.0 x h.1)

  -- an event that changes no record, and is no delivery
  pub event_kept : (run : Run) → ((x : Elem) → record_of (after (world w es) e) x ≡ record_of (world w es) x) → noted_at (world w es) e ≡ [] → IsRunningFrom w es run → IsRunningFrom w more run
  event_kept run same none is =
      let same_list : deliveries w more ≡ deliveries w es =
      deliveries-append w es (e ∷ []) ∙ ap (λ (l : List CatchUpEntry). deliveries w es ++ (l ++ [])) none ∙ append-nil (deliveries w es) in
      record {
        rising = is.rising;
        captured = λ x. same_stays x (captured_of run.captured x) (ap (λ (v : World). record_of v x) grown ∙ same x) (is.captured x);
        caught_up = is.caught_up ∙ ap (flat_map spell_caught_up) (sym same_list);
        count = is.count ∙ ap (length {A = CatchUpEntry}) (sym same_list);
      }

-- ---- a delivery

module _ (w : World) (es : List Event) (v : World) (now : world w es ≡ v) (id : MsgId) (m : Message) (found : message_among id v.pending ≡ Some m) (o : Reaction) (reacts : reaction_of v m ≡ Some o) where
  abbrev e : Event
  e = events.Deliver id

  abbrev longer : List Event
  longer = es ++ e ∷ []

  abbrev r : Record
  r = record_of v m.to

  after_is : world w longer ≡ performed v m (Some o)
  after_is = grown w es e ∙ ap (λ (u : World). after u e) now ∙ ap (delivered v) found ∙ ap (performed v m) reacts

  record_then : (x : Elem) → record_of (world w longer) x ≡ cond (eq_by_cmp elem_cmp x m.to) (advanced r o) (record_of v x)
  record_then x = ap (λ (u : World). record_of u x) after_is ∙ record_at-insert v.records m.to (advanced r o) x

  record_there : record_of (world w longer) m.to ≡ advanced r o
  record_there = record_then m.to ∙ ap (λ b. cond b (advanced r o) (record_of v m.to)) (tied_elem m.to)

  deliveries_are : deliveries w longer ≡ deliveries w es ++ caught v m o ∷ []
  deliveries_are =
      deliveries-append w es (e ∷ [])
      ∙ ap (λ (u : World). deliveries w es ++ (noted_at u e ++ [])) now
      ∙ ap (λ (l : List CatchUpEntry). deliveries w es ++ (l ++ [])) (ap (noted_if v) found ∙ ap (noted v m) reacts)

  -- an element that isn't the receiver
  other_stays : (run : Run) → IsRunningFrom w es run → (y : Elem) → eq_by_cmp elem_cmp y m.to ≡ false → Captures w longer y (captured_of run.captured y)
  other_stays run is y apart =
      same_stays w es e y (captured_of run.captured y)
      (record_then y ∙ ap (λ b. cond b (advanced r o) (record_of v y)) apart ∙ ap (λ (u : World). record_of u y) (sym now)) (is.captured y)

  abbrev next : List (Elem × Option CapturedElement) → (known was there : Bool) → List (Elem × Option CapturedElement)
  next captured known was there = if known then captured
      else (if was then (if there then captured else insert_entry elem_cmp captured m.to (Some (left_by (advanced r o)))) else insert_entry elem_cmp captured m.to None)

  uncaptured : (q : Option (Option CapturedElement)) (known was : Bool) → known ≡ false → is_some q ≡ known → (is_some r.state ≡ was) → was ≡ false → Captures w es m.to q → record_of w m.to ≡ no_record
  uncaptured None known was unknown same before gone h =
      ⊎_elim (λ there.
      let some : false ≡ true = sym gone ∙ sym before ∙ ap (λ (u : World). is_some (record_of u m.to).state) (sym now) ∙ there in
      absurd (let never : ⊥ = cc in never)) (λ none. none.0) h.1
  uncaptured (Some q) known was unknown same before gone h = absurd (let never : ⊥ = cc in never)

  cases_captured : (run : Run) → IsRunningFrom w es run → (known was there : Bool) → is_some (captured_of run.captured m.to) ≡ known → is_some r.state ≡ was → is_some o.state ≡ there →
      Rises (next run.captured known was there) × ((y : Elem) → Captures w longer y (captured_of (next run.captured known was there) y))
  cases_captured run is true was there is_known is_was is_there = (
    is.rising,
    captured_kept (Captures w longer) run.captured m.to (known_stays w es e m.to (captured_of run.captured m.to) is_known (is.captured m.to)) (other_stays run is),
  )
  cases_captured run is false true true is_known is_was is_there = (
    is.rising,
    captured_kept (Captures w longer) run.captured m.to
        (subst (Captures w longer m.to) (sym (none_from_test (captured_of run.captured m.to) is_known)) (0, inl (ap (λ (q : Record). is_some q.state) record_there ∙ is_there))) (other_stays run is),
  )
  cases_captured run is false true false is_known is_was is_there =
      let gone : o.state ≡ None = none_from_test o.state is_there in
      let whole : take (length longer) longer ≡ longer = take_all (length longer) longer (omega arith) in
      let at : record_of (world w (take (length longer) longer)) m.to ≡ advanced r o = ap (λ (l : List Event). record_of (world w l) m.to) whole ∙ record_there in
      let entry : IsEntry (left_by (advanced r o)) (advanced r o) = record { sent = refl; received = refl; packed = sym (ap (λ (s : Option State). option_map pupped s) gone); short = tt; kept = inr (omega arith) } in (
        put_rises run.captured m.to (Some (left_by (advanced r o))) is.rising,
        captured_put (Captures w longer) run.captured m.to (Some (left_by (advanced r o)))
            (length longer, (omega arith, subst (IsEntry (left_by (advanced r o))) (sym at) entry)) (other_stays run is),
      )
  cases_captured run is false false there is_known is_was is_there = (
    put_rises run.captured m.to None is.rising,
    captured_put (Captures w longer) run.captured m.to None
        (0, uncaptured (captured_of run.captured m.to) false false refl is_known is_was refl (is.captured m.to)) (other_stays run is),
  )

  pub delivered_from : (run : Run) → IsRunningFrom w es run → IsRunningFrom w longer (with_reaction v m (Some o) run)
  delivered_from run is =
      let done = cases_captured run is (is_some (captured_of run.captured m.to)) (is_some r.state) (is_some o.state) refl refl refl in
      record {
        rising = done.0;
        captured = done.1;
        caught_up =
            (λ i. is.caught_up i ++ sym (append-nil (spell_caught_up (caught v m o))) i)
            ∙ sym (ap (flat_map spell_caught_up) deliveries_are ∙ flat_map-append spell_caught_up (deliveries w es) (caught v m o ∷ []));
        count = let grows = ap (length {A = CatchUpEntry}) deliveries_are in omega (arith, grows, is.count, length-append (deliveries w es) (caught v m o ∷ []));
      }

-- ---- the core

module _ (core : Core) (run : Run) (is : IsRunning core run) where
  abbrev at : ℕ
  at = run.begun - core.before

  pub few : at ≤ length core.history
  few = let within = is.within in omega arith

  -- the events since then lead to the present world
  pub now_is : world (world_before core run) (events_since core run) ≡ present core
  now_is = sym (world-append core.opening (take at core.history) (drop at core.history)) ∙ ap (world core.opening) (take-append-drop at core.history)

  module _ (e : Event) where
    abbrev history : List Event
    history = core.history ++ e ∷ []

    begun_then : take at history ≡ take at core.history
    begun_then = take-append-le at core.history (e ∷ []) few

    since_then : drop at history ≡ events_since core run ++ e ∷ []
    since_then = drop-append-le at core.history (e ∷ []) few

    -- with one more event it is of the same beginning
    pub more_from : (next : Run) → IsRunningFrom (world_before core run) (events_since core run ++ e ∷ []) next → IsRunningFrom (world core.opening (take at history)) (drop at history) next
    more_from next from =
        subst (λ (l : List Event). IsRunningFrom (world core.opening l) (drop at history) next) (sym begun_then)
        (subst (λ (l : List Event). IsRunningFrom (world_before core run) l next) (sym since_then) from)

    pub more_within : run.begun ≤ core.before + length history
    more_within = let within = is.within in omega (arith, length-append core.history (e ∷ []))

  -- an event that changes no record, and is no delivery
  pub event_running : (core' : Core) (e : Event) → core'.opening ≡ core.opening → core'.before ≡ core.before → core'.history ≡ core.history ++ e ∷ [] →
      ((x : Elem) → record_of (after (present core) e) x ≡ record_of (present core) x) → noted_at (present core) e ≡ [] → IsRunning core' run
  event_running core' e opening before history same none =
      subst (λ (c : Core). IsRunning c run) (λ i. record core' { opening = sym opening i; before = sym before i; history = sym history i })
      (record {
        after = is.after;
        within = more_within e;
        from = more_from e run (event_kept (world_before core run) (events_since core run) e run
            (λ x. ap (λ (v : World). record_of (after v e) x) now_is ∙ same x ∙ ap (λ (v : World). record_of v x) (sym now_is))
            (ap (λ (v : World). noted_at v e) now_is ∙ none) is.from);
      })

  -- no event
  pub still_running : (core' : Core) → core'.opening ≡ core.opening → core'.before ≡ core.before → core'.history ≡ core.history → IsRunning core' run
  still_running core' opening before history =
      subst (λ (c : Core). IsRunning c run) (λ i. record core' { opening = sym opening i; before = sym before i; history = sym history i })
      (record { after = is.after; within = is.within; from = is.from })

  module _ (processor : ℕ) (id : MsgId) where
    message_running : (q : Option Message) (o : Option Reaction) → message_among id (present core).pending ≡ q → (r : Reaction) → option_and_then (reaction_of (present core)) q ≡ Some r →
        IsRunning (committed core processor (Some id)) (with_message (present core) q run)
    message_running None o found reaction reacts = absurd (let never : ⊥ = cc in never)
    message_running (Some m) o found reaction reacts =
        subst (λ (q : Option Reaction). IsRunning (committed core processor (Some id)) (with_reaction (present core) m q run)) (sym reacts)
        (record {
          after = is.after;
          within = more_within (events.Deliver id);
          from = more_from (events.Deliver id) (with_reaction (present core) m (Some reaction) run)
              (delivered_from (world_before core run) (events_since core run) (present core) now_is id m found reaction reacts run is.from);
        })

  pub delivery_running : (processor : ℕ) (q : Option MsgId) → (r : Reaction) → option_and_then (reaction_of (present core)) (option_and_then (pending_message core) q) ≡ Some r →
      IsRunning (committed core processor q) (with_message (present core) (option_and_then (pending_message core) q) run)
  delivery_running processor None reaction reacts = absurd (let never : ⊥ = cc in never)
  delivery_running processor (Some id) reaction reacts = message_running processor id (pending_message core id) None refl reaction reacts
