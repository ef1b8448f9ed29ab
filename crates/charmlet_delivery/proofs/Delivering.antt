-- Deliveries that are under way, and what they make of the world.
use Rattle.std.proofs.Common.{◌≡◌, ℕ, ◌+◌, ◌==◌, ◌<◌, true, false, cond, List, refl, sym, ap, subst, ◌∙◌}
use Rattle.std.specs.Prelude.{Option, Some, None, IfSome, is_some, option_and_then, if◌then◌else◌}
use Rattle.std.specs.Ordering.{eq_by_cmp}
use Rattle.std.specs.BTreeMap.{is_at}
use Rattle.std.specs.Map.{lookup}
use Rattle.std.proofs.lemmas.Map.Views.{exact_unsigned_eq, tells_apart}
use Rattle.charmlet_model.specs.declared.names.Elem.{Elem}
use Rattle.charmlet_model.specs.declared.names.MsgId.{MsgId}
use Rattle.charmlet_model.specs.declared.message.Message.{Message}
use Rattle.charmlet_model.specs.declared.kind.Kind.{Kind}
use Rattle.charmlet_model.specs.declared.kind_version.KindVersion.{KindVersion}
use Rattle.charmlet_model.specs.declared.state.State.{State}
use Rattle.charmlet_model.specs.declared.state.Record.{Record}
use Rattle.charmlet_model.specs.declared.reaction.Reaction.{Reaction}
use Rattle.charmlet_model.specs.declared.TheConstants.{CONSTRUCT}
use Rattle.charmlet_model.specs.Names.{elem_cmp}
use Rattle.charmlet_model.specs.declared.refusal.Refusal.TheVariants as refusals
use Rattle.charmlet_model.specs.Reaction.{constructed, kind_version_of, react}
use Rattle.charmlet_model.specs.Packed.{IsState}
use Rattle.charmlet_model.specs.World.{World, advanced, performed, record_of, reaction_of, version_of_array, can_deliver}
use Rattle.charmlet_model.specs.Core.{Core, present, pending_message, place_of, assigned_to, next_core, Commit, blank_for, blank_of_id}
use Rattle.charmlet_model.specs.Sound.{IsAssigned}
use Rattle.charmlet_model.specs.Shelves.{if_here, if_there, there_in}
use Rattle.charmlet_model.proofs.Maps.{elem_exact, tied_elem}
use Rattle.charmlet_model.proofs.Histories.{record_at-insert}
use Rattle.charmlet_model.proofs.SoundLemmas.{sound_fit}
use Rattle.charmlet_chare.specs.declared.output.Output.{Output}
use Rattle.charmlet_chare.specs.Output.{output_of}
use Rattle.charmlet_history.specs.declared.history.History.{History}
use Rattle.charmlet_history.specs.Kept.{Kept, IsConsistent, IsAssignedOutput, assigned_message, core_in}
use Rattle.charmlet_shelf.specs.Due.{Due, newcomer_due, reaction_in, record_after}
use Rattle.charmlet_shelf.specs.Shelf.{Assigns, IsDueAt, View, done_by, performed as performed_phase, with_record}
use Rattle.charmlet_shelf.proofs.Records.{found_with, rising_with}
use Rattle.charmlet_shelf.specs.Count.{is_newcomer_of, objects_on}
use Rattle.charmlet_shelf.specs.declared.phase.Phase.{Phase}
use Rattle.charmlet_shelf.specs.declared.phase.Phase.TheVariants as phases
use Rattle.charmlet_delivery.specs.Workplace.{ShowsOn, ShowsPart}
use Rattle.charmlet_delivery.specs.UnderWay.{IsUnderWay, blank_in}
use Rattle.charmlet_delivery.specs.Delivering.{IsDelivering}
use Rattle.charmlet_delivery.proofs.Places.{others_stay, present_next, receiver_shown, seen_is}
use Rattle.charmlet_model.specs.Own.{advanced_if}

-- ---- the assigned message

pub some_of : {A : Type 0} (o : Option A) → is_some o ≡ true → (x : A) × (o ≡ Some x)
some_of None h = absurd (let never : ⊥ = cc in never)
some_of (Some x) h = (x, refl)

pub and_then_some : {A B : Type 0} (f : A → Option B) (o : Option A) (y : B) → option_and_then f o ≡ Some y → (x : A) × (o ≡ Some x) × (f x ≡ Some y)
and_then_some f None y h = cc
and_then_some f (Some x) y h = (x, refl, h)

module _ (k : Kept) (consistent : IsConsistent k) (p : ℕ) where
  abbrev core : Core
  core = core_in k

  abbrev w : World
  w = present core

  module _ (m : Message) (here : assigned_message core p ≡ Some m) where
    its : (id : MsgId) × (assigned_to core p ≡ Some id) × (pending_message core id ≡ Some m)
    its = and_then_some (pending_message core) (assigned_to core p) m here

    can_be : can_deliver w (Some m) ≡ true
    can_be =
        let assigned : IsAssigned core p its.0 = subst (λ o. IfSome o (IsAssigned core p)) its.1 (consistent.sound.assigned p) in
        ap (can_deliver w) (sym its.2) ∙ assigned.can_be

    -- the delivery to a receiver that is there
    pub under_way_there : (records : List (Elem × Record)) → ShowsOn p records core.places w → (due : Due) → IsDueAt records m due → IsUnderWay core p due
    under_way_there records shows due at =
        let receiver : record_of w m.to ≡ due.receiver = seen_is (place_of core m.to) p (record_of w m.to) due.receiver (sym (shows.shown m.to) ∙ at.1) in
        let state : (record_of w m.to).state ≡ Some at.0 = ap (λ (r : Record). r.state) receiver ∙ at.2 in
        let kind_version : version_of_array w m.to.array ≡ Some (kind_version_of at.0) =
        (subst (λ o. IfSome o (λ s. (version_of_array w m.to.array ≡ Some (kind_version_of s)) × IsState s)) state ((sound_fit core consistent.sound).records m.to).state).0 in
        subst (IsUnderWay core p) (sym at.3) (record {
          message = here;
          kind_version = kind_version;
          receiver = receiver;
          reacts = ap (λ o. is_some (react (kind_version_of at.0) m.to o m.entry m.words)) at.2;
        })

    -- a message for which a blank is wanted constructs its receiver, which isn't there
    module _ (kind_version : KindVersion) (wanted : blank_of_id core (assigned_to core p) ≡ Some kind_version) where
      abbrev Wants : Type 0
      Wants = ((record_of w m.to).state ≡ None) × (m.entry ≡ CONSTRUCT) × (version_of_array w m.to.array ≡ Some kind_version)

      by_entry : (record_of w m.to).state ≡ None → (if m.entry == CONSTRUCT then version_of_array w m.to.array else None) ≡ Some kind_version → Wants
      by_entry none h = elim (m.entry == CONSTRUCT) as (λ b. (m.entry == CONSTRUCT) ≡ b → (if b then version_of_array w m.to.array else None) ≡ Some kind_version → Wants) [
        | true ↦ λ same array. (none, exact_unsigned_eq m.entry CONSTRUCT same, array)
        | false ↦ λ _ no. absurd (let never : ⊥ = cc in never)
      ] refl h

      by_state : (o : Option State) → (record_of w m.to).state ≡ o → (if is_some o then None else (if m.entry == CONSTRUCT then version_of_array w m.to.array else None)) ≡ Some kind_version → Wants
      by_state (Some s) is h = absurd (let never : ⊥ = cc in never)
      by_state None is h = by_entry is h

      pub wants_new : Wants
      wants_new = by_state (record_of w m.to).state refl (ap (option_and_then (blank_for core)) (sym here) ∙ wanted)

      -- the delivery that constructs it
      pub under_way_new : (sent received : ℕ) → sent ≡ (record_of w m.to).sent → received ≡ (record_of w m.to).received → IsUnderWay core p (newcomer_due m kind_version sent received)
      under_way_new sent received sends receives = record {
        message = here;
        kind_version = wants_new.2;
        receiver = λ i. record { state = wants_new.0 i; sent = sym sends i; received = sym receives i };
        reacts = ap (λ e. is_some (if e == CONSTRUCT then Some (constructed kind_version m.to m.words) else None)) wants_new.1;
      }

  -- ---- what a delivery makes of the world

  module _ (due : Due) (under_way : IsUnderWay core p due) where
    reaction_is : reaction_of w due.message ≡ reaction_in due
    reaction_is =
        ap (option_and_then (λ kind_version. react kind_version due.message.to (record_of w due.message.to).state due.message.entry due.message.words)) under_way.kind_version
        ∙ ap (λ (r : Record). react due.kind_version due.message.to r.state due.message.entry due.message.words) under_way.receiver

    made : (r : Reaction) × (reaction_in due ≡ Some r)
    made = some_of (reaction_in due) under_way.reacts

    abbrev its_message : (id : MsgId) × (assigned_to core p ≡ Some id) × (pending_message core id ≡ Some due.message)
    its_message = its due.message under_way.message

    -- what its receiver sends and replies is what the table says
    pub assigned_output : (output : Output) (r : Reaction) → reaction_in due ≡ Some r → output ≡ output_of r → IsAssignedOutput core p output
    assigned_output output r is its_output = (r, ap (option_and_then (reaction_of w)) under_way.message ∙ reaction_is ∙ is, its_output)

    after_is : (r : Reaction) → reaction_in due ≡ Some r → present (next_core core (Commit p)) ≡ performed w due.message (Some r)
    after_is r is = present_next core consistent.sound p its_message.0 due.message its_message.1 its_message.2 ∙ ap (performed w due.message) (reaction_is ∙ is)

    -- the records once it is settled are those of the world after it
    pub shows_settled : (records : List (Elem × Record)) → ShowsOn p records core.places w →
        ShowsOn p (with_record records due.message.to (record_after due)) (next_core core (Commit p)).places (present (next_core core (Commit p)))
    shows_settled records shows =
        let r = made.0 in
        let x = due.message.to in
        let id = its_message.0 in
        let next = advanced (record_of w x) r in
        let core_after = next_core core (Commit p) in
        let after : record_after due ≡ next = ap (advanced_if due.receiver) made.1 ∙ ap (λ old. advanced old r) (sym under_way.receiver) in
        let written : record_of (performed w due.message (Some r)) x ≡ next = record_at-insert w.records x next x ∙ ap (λ b. cond b next (record_of w x)) (tied_elem x) in
        let becomes : record_of (performed w due.message (reaction_of w due.message)) x ≡ next = ap (λ o. record_of (performed w due.message o) x) (reaction_is ∙ made.1) ∙ written in
        let receives : record_of (present core_after) x ≡ next = ap (λ (v : World). record_of v x) (after_is r made.1) ∙ written in
        let receiver : if_here (place_of core_after x) p next ≡ if_there next = receiver_shown core consistent.sound p id due.message its_message.1 its_message.2 next becomes in
        subst (λ n. ShowsOn p (with_record records x n) core_after.places (present core_after)) (sym after) (record {
          rising = rising_with records shows.rising x next;
          shown = λ q.
              found_with records shows.rising x q next
              ∙ elim (eq_by_cmp elem_cmp q x) as (λ b. eq_by_cmp elem_cmp q x ≡ b → cond b (if_there next) (lookup (is_at (elem_cmp q)) records) ≡ if_here (place_of core_after q) p (record_of (present core_after) q)) [
                | true ↦ λ same.
                    subst (λ q. if_there next ≡ if_here (place_of core_after q) p (record_of (present core_after) q)) (sym (tells_apart elem_exact q x same))
                    (sym receiver ∙ ap (if_here (place_of core_after x) p) (sym receives))
                | false ↦ λ other.
                    let stays = others_stay core consistent.sound p id due.message its_message.1 its_message.2 q other in
                    shows.shown q ∙ (λ i. if_here (sym stays.0 i) p (sym stays.1 i))
              ] refl;
        })

    -- ---- the blank that it took

    abbrev blank_taken : Option KindVersion
    blank_taken = blank_in (phases.Assigned due)

    blank_by : (o : Option State) → due.receiver.state ≡ o → is_some (react due.kind_version due.message.to o due.message.entry due.message.words) ≡ true →
        (if is_some o then None else (if due.message.entry == CONSTRUCT then Some due.kind_version else None)) ≡ (if is_some o then None else Some due.kind_version)
    blank_by (Some s) is reacts = refl
    blank_by None is reacts =
        elim (due.message.entry == CONSTRUCT) as (λ b. is_some (if b then Some (constructed due.kind_version due.message.to due.message.words) else None) ≡ true → (if b then Some due.kind_version else None) ≡ Some due.kind_version) [
          | true ↦ λ _. refl
          | false ↦ λ no. absurd (let never : ⊥ = cc in never)
        ] reacts

    pub blank_is : blank_of_id core (assigned_to core p) ≡ blank_taken
    blank_is =
        ap (option_and_then (blank_for core)) under_way.message
        ∙ ap (λ (r : Record). if is_some r.state then None else (if due.message.entry == CONSTRUCT then version_of_array w due.message.to.array else None)) under_way.receiver
        ∙ ap (λ o. if is_some due.receiver.state then None else (if due.message.entry == CONSTRUCT then o else None)) under_way.kind_version
        ∙ blank_by due.receiver.state refl under_way.reacts

-- ---- what is assigned

pub has_assigned : (core : Core) (p : ℕ) (due : Due) → IsUnderWay core p due → is_some (assigned_to core p) ≡ true
has_assigned core p due under_way = ap is_some (and_then_some (pending_message core) (assigned_to core p) due.message under_way.message).1

-- a shelf shows its part of a world that stays, with the places of its elements
pub same_part : (history next : History) (old shelf : View) (core : Core) → shelf ≡ old → core_in next ≡ core → core.processors ≡ (core_in history).processors → core.places ≡ (core_in history).places →
    present core ≡ present (core_in history) → ShowsPart history old → ShowsPart next shelf
same_part history next old shelf core same is processors places world shows = record {
  on = subst (λ n. shelf.number < n) (sym (ap (λ (core : Core). core.processors) is ∙ processors)) (subst (λ (v : View). v.number < (core_in history).processors) (sym same) shows.on);
  objects =
      let here : ShowsOn shelf.number shelf.records (core_in history).places (present (core_in history)) =
      subst (λ (v : View). ShowsOn v.number v.records (core_in history).places (present (core_in history))) (sym same) shows.objects in
      subst (λ (core : Core). ShowsOn shelf.number shelf.records core.places (present core)) (sym is)
      (subst (λ (w : World). ShowsOn shelf.number shelf.records core.places w) (sym world) (subst (λ ps. ShowsOn shelf.number shelf.records ps (present (core_in history))) (sym places) here));
}

-- once its receiver has reacted the objects are counted as before
pub performed_objects : (old : View) (shelf : View) → shelf ≡ record old { phase = performed_phase old.phase } → objects_on shelf ≡ objects_on old
performed_objects old shelf is = λ i kind. each kind i
  where
    by_reaction : (kind : Kind) (due : Due) (r : Option Reaction) → is_newcomer_of kind (done_by due r) ≡ is_newcomer_of kind (phases.Assigned due)
    by_reaction kind due None = refl
    by_reaction kind due (Some r) = refl

    by_phase : (kind : Kind) (phase : Phase) → is_newcomer_of kind (performed_phase phase) ≡ is_newcomer_of kind phase
    by_phase kind phases.Idle = refl
    by_phase kind (phases.Assigned due) = by_reaction kind due (reaction_in due)
    by_phase kind (phases.Done done) = refl

    each : (kind : Kind) → objects_on shelf kind ≡ objects_on old kind
    each kind = ap (λ v. objects_on v kind) is ∙ ap (λ b. there_in old.records kind + cond b 1 0) (by_phase kind old.phase)

-- ---- a message that is assigned on the shelf

module _ (history : History) (consistent : IsConsistent history) (old shelf : View) (shows : ShowsPart history old) (idle : old.phase ≡ phases.Idle) (m : Message) (here : assigned_message (core_in history) old.number ≡ Some m) where
  -- with a receiver that is there
  module _ (assigns : Assigns old m shelf) where
    abbrev due_there : Due
    due_there = assigns.0

    is_there : shelf ≡ record old { phase = phases.Assigned due_there }
    is_there = assigns.2

    pub delivering_there : (due : Due) × IsDelivering history shelf due (phases.Assigned due)
    delivering_there = (
      due_there,
      subst (λ (v : View). IsDelivering history v due_there (phases.Assigned due_there)) (sym is_there) (record {
        phase_is = refl;
        under_way = under_way_there history consistent old.number m here old.records shows.objects due_there assigns.1;
        part = record { on = shows.on; objects = shows.objects };
      }),
    )

  -- with a newcomer
  module _ (kind_version : KindVersion) (wanted : blank_of_id (core_in history) (assigned_to (core_in history) old.number) ≡ Some kind_version) (sent received : ℕ) (is : shelf ≡ record old { phase = phases.Assigned (newcomer_due m kind_version sent received) }) where
    abbrev due_new : Due
    due_new = newcomer_due m kind_version sent received

    pub delivering_new : sent ≡ (record_of (present (core_in history)) m.to).sent → received ≡ (record_of (present (core_in history)) m.to).received → (due : Due) × IsDelivering history shelf due (phases.Assigned due)
    delivering_new sends receives = (
      due_new,
      subst (λ (v : View). IsDelivering history v due_new (phases.Assigned due_new)) (sym is) (record {
        phase_is = refl;
        under_way = under_way_new history consistent old.number m here kind_version wanted sent received sends receives;
        part = record { on = shows.on; objects = shows.objects };
      }),
    )
