-- What each step leaves of the deliveries, and of what is assigned.
use Rattle.std.proofs.Common.{◌≡◌, ℕ, ◌+◌, ◌<◌, ◌≤◌, ◌==◌, Bool, true, false, cond, inl, inr, List, [], ◌∷◌, ◌++◌, length, refl, sym, ap, subst, ◌∙◌, arith, if◌then◌else◌, Option, Some, None}
use Rattle.std.specs.Prelude.{IfSome, is_some, option_and_then}
use Rattle.std.specs.Ordering.{nat_cmp}
use Rattle.std.specs.BTreeMap.{is_at}
use Rattle.std.specs.Map.{remove_entry}
use Rattle.std.proofs.lemmas.List.{append-nil}
use Rattle.std.proofs.lemmas.Map.Entries.{length-keys_of}
use Rattle.charmlet_model.specs.declared.event.Event.{Event}
use Rattle.charmlet_model.specs.declared.event.Event.TheVariants.{Accept, Deliver}
use Rattle.charmlet_model.specs.declared.names.Elem.{Elem}
use Rattle.charmlet_model.specs.declared.names.MsgId.{MsgId}
use Rattle.charmlet_model.specs.declared.refusal.Refusal.{Refusal}
use Rattle.charmlet_model.specs.declared.refusal.Refusal.TheVariants as refusals
use Rattle.charmlet_model.specs.Core.{Assign, Blanks, Checkpoint, Commit, Core, CoreStep, Done, Finish, Flush, Move, Refuses, Release, Request, Status, Stepped, Steps, assigned_to, checks, committed, first_refusal, is_repeat, next_core, pending_message, place_or_home, present, stepped_unless}
use Rattle.charmlet_model.specs.Sound.{IsAssigned, IsSound}
use Rattle.charmlet_model.proofs.Fits.{found-id}
use Rattle.charmlet_model.proofs.Removals.{length-removed}
use Rattle.charmlet_history.proofs.Counts.{at_most}
use Rattle.charmlet_shelf.specs.Due.{Due}
use Rattle.charmlet_shelf.specs.Shelf.{View}
use Rattle.charmlet_shelf.specs.declared.phase.Phase.{Phase}
use Rattle.charmlet_shelf.specs.declared.phase.Phase.TheVariants as phases
use Rattle.charmlet_delivery.specs.UnderWay.{IsUnderWay, due_in}
use Rattle.charmlet_delivery.proofs.Places.{stepped_core}
use Rattle.charmlet_sequencer.specs.Authority.{IsDueOn}
use Rattle.charmlet_sequencer.specs.Shelf.{delivery_in}
use Rattle.charmlet_hub.specs.Hub.{deliveries_in}

-- ---- steps that deliver nothing

pub deliveries_in-append : (xs ys : List Event) → deliveries_in (xs ++ ys) ≡ deliveries_in xs ++ deliveries_in ys
deliveries_in-append [] ys = refl
deliveries_in-append (Accept client number to entry words ∷ xs) ys = deliveries_in-append xs ys
deliveries_in-append (Deliver id ∷ xs) ys = ap (λ l. id ∷ l) (deliveries_in-append xs ys)

-- nothing more is delivered or assigned
pub record StaysAside (core next : Core) : Type 0 where
  pub delivered : deliveries_in next.history ≡ deliveries_in core.history
  pub no_more : length next.assigned ≤ length core.assigned

same_aside : (core next : Core) → next.history ≡ core.history → next.assigned ≡ core.assigned → StaysAside core next
same_aside core next history assigned = record {
  delivered = ap deliveries_in history;
  no_more = let same = ap length assigned in omega arith;
}

-- the step neither assigns a message nor delivers one
abbrev pub IsAside : CoreStep → Type 0
IsAside (Assign processor id) = ⊥
IsAside (Commit processor) = ⊥
IsAside (Finish processor) = ⊥
IsAside _ = Unit {0}

aside_either : (core next : Core) (b : Bool) → StaysAside core next → StaysAside core (if b then core else next)
aside_either core next true aside = same_aside core core refl refl
aside_either core next false aside = aside

accepted_aside : (core : Core) (client number : ℕ) (to : Elem) (entry : ℕ) (words : List ℕ) → StaysAside core (record core { history = core.history ++ Accept client number to entry words ∷ [] })
accepted_aside core client number to entry words = record {
  delivered = deliveries_in-append core.history (Accept client number to entry words ∷ []) ∙ append-nil (deliveries_in core.history);
  no_more = omega arith;
}

no_longer : {K X : Type 0} (test : K → Bool) (es : List (K × X)) → length (remove_entry test es) ≤ length es
no_longer test [] = omega arith
no_longer test (e ∷ es) = elim (test e.0) as (λ b. length (cond b es (e ∷ remove_entry test es)) ≤ length (e ∷ es)) [
  | true ↦ omega arith
  | false ↦ let rest = no_longer test es in omega arith
]

pub next_aside : (core : Core) (step : CoreStep) → IsAside step → StaysAside core (next_core core step)
next_aside core (Request client number to entry words) aside = aside_either core (record core { history = core.history ++ Accept client number to entry words ∷ [] }) (is_repeat core client number) (accepted_aside core client number to entry words)
next_aside core (Status client number) aside = same_aside core core refl refl
next_aside core (Assign processor id) aside = absurd aside
next_aside core (Commit processor) aside = absurd aside
next_aside core (Finish processor) aside = absurd aside
next_aside core (Release processor) aside = record { delivered = refl; no_more = no_longer (is_at (nat_cmp processor)) core.assigned }
next_aside core (Move x processor) aside = aside_either core _ (place_or_home core x == processor) (same_aside core _ refl refl)
next_aside core Flush aside = same_aside core (next_core core Flush) refl refl
next_aside core Checkpoint aside = same_aside core (next_core core Checkpoint) refl refl

pub step_aside : (core : Core) (blanks : Blanks) (step : CoreStep) (next : Stepped) → IsAside step → Steps core blanks step next → StaysAside core next.core
step_aside core blanks step next aside steps = stepped_core (StaysAside core) core blanks step (same_aside core core refl refl) (same_aside core (record core { halted = true }) refl refl) (next_aside core step aside) next steps

-- an assignment delivers nothing
pub assign_delivers_nothing : (core : Core) (blanks : Blanks) (processor : ℕ) (id : MsgId) (next : Stepped) → Steps core blanks (Assign processor id) next → deliveries_in next.core.history ≡ deliveries_in core.history
assign_delivers_nothing core blanks processor id next steps = stepped_core (λ (c : Core). deliveries_in c.history ≡ deliveries_in core.history) core blanks (Assign processor id) refl refl refl next steps

-- a step that is done leads to what follows it
pub done_next : (core next : Core) (blanks blanks' : Blanks) (step : CoreStep) → Steps core blanks step (record { answer = Done; core = next; blanks = blanks' }) → next ≡ next_core core step
done_next core next blanks blanks' step steps = elim steps.1 [
  | inl same ↦ unless (first_refusal (checks core blanks step)) same
  | inr lacking ↦ elim lacking [
    | inl memory ↦ absurd (no_refusal refusals.Memory (ap (λ (n : Stepped). n.answer) memory.1))
    | inr device ↦ absurd (no_refusal refusals.Device (ap (λ (n : Stepped). n.answer) device.1))
  ]
]
  where
    no_refusal : (refusal : Refusal) → Done ≡ Refuses refusal → ⊥
    no_refusal refusal e = cc

    unless : (o : Option Refusal) → record { answer = Done; core = next; blanks = blanks' } ≡ stepped_unless core blanks step o → next ≡ next_core core step
    unless None same = ap (λ (n : Stepped). n.core) same
    unless (Some refusal) same = absurd (no_refusal refusal (ap (λ (n : Stepped). n.answer) same))

-- ---- deliveries that are made

-- the message with this id is delivered, and is no more assigned
pub record Delivers (core next : Core) (id : MsgId) : Type 0 where
  pub delivered : deliveries_in next.history ≡ deliveries_in core.history ++ id ∷ []
  pub one_fewer : length next.assigned + 1 ≡ length core.assigned

commit_delivers : (core : Core) (processor : ℕ) (id : MsgId) → assigned_to core processor ≡ Some id → Delivers core (committed core processor (Some id)) id
commit_delivers core processor id has = record {
  delivered = deliveries_in-append core.history (Deliver id ∷ []);
  one_fewer = length-removed (is_at (nat_cmp processor)) core.assigned (ap is_some has);
}

pub some_assigned : (core : Core) (processor : ℕ) (id : MsgId) → assigned_to core processor ≡ Some id → 1 ≤ length core.assigned
some_assigned core processor id has = let fewer = (commit_delivers core processor id has).one_fewer in omega arith

pub committed_delivers : (core next : Core) (blanks blanks' : Blanks) (processor : ℕ) (id : MsgId) → assigned_to core processor ≡ Some id → Steps core blanks (Commit processor) (record { answer = Done; core = next; blanks = blanks' }) → Delivers core next id
committed_delivers core next blanks blanks' processor id has steps =
    subst (λ c. Delivers core c id) (sym (done_next core next blanks blanks' (Commit processor) steps ∙ ap (committed core processor) has)) (commit_delivers core processor id has)

pub finished_delivers : (core next : Core) (blanks blanks' : Blanks) (processor : ℕ) (id : MsgId) → assigned_to core processor ≡ Some id → Steps core blanks (Finish processor) (record { answer = Done; core = next; blanks = blanks' }) → Delivers core next id
finished_delivers core next blanks blanks' processor id has steps =
    subst (λ c. Delivers core c id) (sym (done_next core next blanks blanks' (Finish processor) steps ∙ ap (committed core processor) has)) (commit_delivers core processor id has)

-- the delivery that was made on a shelf is the one that is assigned to its processor
assigned_message_id : (core : Core) (processor : ℕ) (due : Due) → IsUnderWay core processor due → assigned_to core processor ≡ Some due.message.id
assigned_message_id core processor due is =
    elim (assigned_to core processor) as (λ o. option_and_then (pending_message core) o ≡ Some due.message → o ≡ Some due.message.id) [
      | None ↦ λ none. absurd (let never : ⊥ = cc in never)
      | Some id ↦ λ there. ap Some (found-id id (present core).pending due.message there)
    ] is.message

pub delivery_assigned : (core : Core) (processor : ℕ) (phase : Phase) (id : MsgId) → IsDueOn core processor (due_in phase) → delivery_in phase ≡ Some id → assigned_to core processor ≡ Some id
delivery_assigned core processor phases.Idle id due is = absurd (let never : ⊥ = cc in never)
delivery_assigned core processor (phases.Assigned d) id due is = absurd (let never : ⊥ = cc in never)
delivery_assigned core processor (phases.Done d) id due is = assigned_message_id core processor d.due due ∙ is

-- what a shelf says that is as it was
pub made_before : (before shelf : View) (said : Option MsgId) (id : MsgId) → shelf ≡ before → said ≡ delivery_in shelf.phase → said ≡ Some id → delivery_in before.phase ≡ Some id
made_before before shelf said id same is some = ap (λ (v : View). delivery_in v.phase) (sym same) ∙ sym is ∙ some

-- ---- how many messages are assigned

-- no more than there are processors
pub few_assigned : (core : Core) → IsSound core → length core.assigned ≤ core.processors
few_assigned core sound =
    let most = at_most core.assigned core.processors sound.rising_assigned (λ p there. on p (assigned_to core p) (sound.assigned p) there) in
    let same = length-keys_of core.assigned in
    omega arith
  where
    on : (p : ℕ) (o : Option MsgId) → IfSome o (IsAssigned core p) → is_some o ≡ true → p < core.processors
    on p None is there = absurd (let never : ⊥ = cc in never)
    on p (Some id) is there = is.on_processor

-- of which an assignment leaves as many
pub assign_processors : (core : Core) (blanks : Blanks) (processor : ℕ) (id : MsgId) (next : Stepped) → Steps core blanks (Assign processor id) next → next.core.processors ≡ core.processors
assign_processors core blanks processor id next steps = stepped_core (λ (c : Core). c.processors ≡ core.processors) core blanks (Assign processor id) refl refl refl next steps
