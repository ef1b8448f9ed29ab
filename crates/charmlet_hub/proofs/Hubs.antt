-- A hub after a step.
use Rattle.std.proofs.Common.{◌≡◌, ◌≢◌, ℕ, ◌+◌, ◌≤◌, Bool, List, [], ◌∷◌, ◌++◌, length, refl, sym, ap, subst, ◌∙◌, arith, Some, Result, Ok, Err}
use Rattle.std.proofs.lemmas.List.{append-nil}
use Rattle.std.specs.Prelude.{IfErr, OnErr, OnOk, slice_set}
use Rattle.charmlet_model.specs.declared.event.Event.{Event}
use Rattle.charmlet_model.specs.declared.refusal.Refusal.TheVariants as refusals
use Rattle.charmlet_model.specs.declared.names.MsgId.{MsgId}
use Rattle.charmlet_model.specs.declared.refusal.Refusal.{Refusal}
use Rattle.charmlet_model.specs.Core.{Assign, Blanks, Core, CoreAnswer, CoreStep, Done, Stepped, Steps, halted_core}
use Rattle.charmlet_model.specs.Sound.{IsSound, IsStep}
use Rattle.charmlet_model.proofs.SoundLemmas.{step_sound}
use Rattle.charmlet_leases.specs.Passes.Passes.{AreCurrent, HeldPass, IsKept, LentPasses}
use Rattle.charmlet_leases.specs.Passes.Steps.{IsNoRequest}
use Rattle.charmlet_leases.proofs.PassesLemmas.Lasting.{are_current-later}
use Rattle.charmlet_leases.proofs.PassesLemmas.OtherSteps.{steps_keep}
use Rattle.charmlet_leases.proofs.PassesLemmas.Places.{set-same}
use Rattle.charmlet_leases.specs.Seats.Seats.{HaveAll, Seats}
use Rattle.charmlet_sequencer.specs.Checkpointing.{IsSealedCore}
use Rattle.charmlet_sequencer.specs.Sequencer.{SequencerShown}
use Rattle.charmlet_sequencer.proofs.Seals.{sealed_core}
use Rattle.charmlet_hub.specs.Hub.{IsHub, deliveries_in, shown_by}
use Rattle.charmlet_hub.proofs.Steps.{Delivers, IsAside, StaysAside, assign_delivers_nothing, assign_processors, few_assigned, step_aside}

module _ {D : Type 0} (old new : SequencerShown D) (was busy : Bool) (seats : Seats) (passes : LentPasses) (hub : IsHub (shown_by old was seats passes)) where
  -- nothing more was delivered or assigned
  pub hub_aside : (told : LentPasses) → StaysAside old.core new.core → AreCurrent told new.core → IsHub (shown_by new busy seats told)
  hub_aside told aside current = record {
    seats = subst (HaveAll seats) (sym aside.delivered) hub.seats;
    passes = current;
    room = let most = hub.room in let fewer = aside.no_more in omega arith;
  }

  -- a step that is no request
  pub hub_stepped : (blanks blanks' : Blanks) (step : CoreStep) (answer : CoreAnswer) → IsSound old.core → IsAside step → IsNoRequest step → IsStep step → Steps old.core blanks step (record { answer = answer; core = new.core; blanks = blanks' }) → IsHub (shown_by new busy seats passes)
  hub_stepped blanks blanks' step answer sound aside other typed steps =
      let next : Stepped = record { answer = answer; core = new.core; blanks = blanks' } in
      hub_aside passes (step_aside old.core blanks step next aside steps)
      (steps_keep passes old.core blanks step next sound other typed steps hub.passes)

  -- an assignment, for which the hub's own list has room for one delivery on each processor
  pub hub_assigned : (more : Seats) (blanks blanks' : Blanks) (processor : ℕ) (id : MsgId) (answer : CoreAnswer) → IsSound old.core → Steps old.core blanks (Assign processor id) (record { answer = answer; core = new.core; blanks = blanks' }) →
      ((deliveries : List MsgId) → HaveAll seats deliveries → HaveAll more deliveries) → old.core.processors ≤ more.own.room → IsHub (shown_by new busy more passes)
  hub_assigned more blanks blanks' processor id answer sound steps all room =
      let next : Stepped = record { answer = answer; core = new.core; blanks = blanks' } in
      let processors = assign_processors old.core blanks processor id next steps in
      let few = few_assigned new.core (step_sound old.core blanks (Assign processor id) next sound tt steps) in
      record {
        seats = subst (HaveAll more) (sym (assign_delivers_nothing old.core blanks processor id next steps)) (all (deliveries_in old.core.history) hub.seats);
        passes = steps_keep passes old.core blanks (Assign processor id) next sound tt tt steps hub.passes;
        room = omega arith;
      }

  -- a delivery that a seat holds, or the hub itself
  pub hub_delivered : (more : Seats) (blanks blanks' : Blanks) (step : CoreStep) (id : MsgId) → IsSound old.core → IsNoRequest step → IsStep step → Steps old.core blanks step (record { answer = Done; core = new.core; blanks = blanks' }) → Delivers old.core new.core id →
      ((deliveries : List MsgId) → HaveAll seats deliveries → HaveAll more (deliveries ++ id ∷ [])) → seats.own.room ≤ more.own.room + 1 → IsHub (shown_by new busy more passes)
  hub_delivered more blanks blanks' step id sound other typed steps delivers all room = record {
    seats = subst (HaveAll more) (sym delivers.delivered) (all (deliveries_in old.core.history) hub.seats);
    passes = steps_keep passes old.core blanks step (record { answer = Done; core = new.core; blanks = blanks' }) sound other typed steps hub.passes;
    room = let most = hub.room in let fewer = delivers.one_fewer in omega arith;
  }

-- ---- a checkpoint

-- the events are the same, no fewer are durable, and all places and assigned messages are as they were
pub record SameEvents (core next : Core) : Type 0 where
  pub opening : next.opening ≡ core.opening
  pub before : next.before ≡ core.before
  pub history : next.history ≡ core.history
  pub durable : core.durable ≤ next.durable
  pub places : next.places ≡ core.places
  pub assigned : next.assigned ≡ core.assigned

refused_core : {D : Type 0} (old new : SequencerShown D) (result : Result ℕ Refusal) → IfErr result (λ refusal. refusal ≢ refusals.Device → new ≡ old) → IfErr result (λ refusal. refusal ≢ refusals.Device → new.core ≡ old.core)
refused_core old new (Ok generation) same = tt
refused_core old new (Err refusal) same = λ other. ap (λ (s : SequencerShown _). s.core) (same other)

-- whether an image is made durable or not
pub seal_events : {D : Type 0} (old new : SequencerShown D) → IsSound old.core → (result : Result ℕ Refusal) → OnOk result (IsSealedCore old.core new.core) → IfErr result (λ refusal. refusal ≡ refusals.Device → new.core ≡ halted_core old.core) →
    IfErr result (λ refusal. refusal ≢ refusals.Device → new ≡ old) → SameEvents old.core new.core
seal_events old new sound result sealed failed refused =
    let core = old.core in
    sealed_core (SameEvents core) core new.core result sealed failed (refused_core old new result refused)
    (record { opening = refl; before = refl; history = refl; durable = omega arith; places = refl; assigned = refl })
    (record { opening = refl; before = refl; history = refl; durable = omega arith; places = refl; assigned = refl })
    (λ n. record { opening = refl; before = refl; history = refl; durable = sound.durable; places = refl; assigned = refl })

-- a hub is one still
pub hub_sealed : {D : Type 0} (old new : SequencerShown D) (was busy : Bool) (seats : Seats) (passes : LentPasses) → IsHub (shown_by old was seats passes) → SameEvents old.core new.core → IsSound old.core → IsSound new.core → IsHub (shown_by new busy seats passes)
hub_sealed old new was busy seats passes hub same was_sound sound = record {
  seats = subst (λ (events : List Event). HaveAll seats (deliveries_in events)) (sym same.history) hub.seats;
  passes = are_current-later passes old.core new.core (λ client. record {
    opening = same.opening;
    before = same.before;
    more = [];
    grows = same.history ∙ sym (append-nil old.core.history);
    no_fewer = same.durable;
    without = refl;
  }) was_sound sound hub.passes;
  room = let most = hub.room in let as_many = ap length same.assigned in omega arith;
}

-- whether a checkpoint runs or none does
pub rebusied : {D : Type 0} (sequencer : SequencerShown D) (was busy : Bool) (seats : Seats) (passes : LentPasses) → IsHub (shown_by sequencer was seats passes) → IsHub (shown_by sequencer busy seats passes)
rebusied sequencer was busy seats passes is = record { seats = is.seats; passes = is.passes; room = is.room }

-- a pass that is as it was leaves the authority so
pub kept_same : (old new : LentPasses) (h g : HeldPass) → IsKept old new h g → g ≡ h → new ≡ old
kept_same old new h g kept same =
    let held : new.held ≡ old.held = kept.has ∙ ap (λ (x : HeldPass). slice_set old.held kept.place (Some x)) same ∙ set-same old.held kept.place (Some h) kept.had in
    λ i. record { out = kept.out i; held = held i }

always_err : {T : Type 0} (P : Type 0) (result : Result T Refusal) → P → OnErr result P
always_err P (Ok x) p = tt
always_err P (Err refusal) p = p

-- a refusal to a client leaves all as it was
pub refused_same : {D T : Type 0} (old new : SequencerShown D) (busy : Bool) (seats : Seats) (passes told : LentPasses) (h g : HeldPass) (result : Result T Refusal) → OnErr result (new ≡ old) → OnErr result (g ≡ h) → IsKept passes told h g → OnErr result (shown_by new busy seats told ≡ shown_by old busy seats passes)
refused_same old new busy seats passes told h g (Ok x) same pass kept = tt
refused_same old new busy seats passes told h g (Err refusal) same pass kept =
    let back = kept_same passes told h g kept pass in
    λ i. shown_by (same i) busy seats (back i)

-- and so does one of a question, which asks nothing of the sequencer
pub refused_question : {D T : Type 0} (old : SequencerShown D) (busy : Bool) (seats : Seats) (passes told : LentPasses) (h g : HeldPass) (result : Result T Refusal) → OnErr result (g ≡ h) → IsKept passes told h g → OnErr result (shown_by old busy seats told ≡ shown_by old busy seats passes)
refused_question old busy seats passes told h g result pass kept = refused_same old old busy seats passes told h g result (always_err (old ≡ old) result refl) pass kept
