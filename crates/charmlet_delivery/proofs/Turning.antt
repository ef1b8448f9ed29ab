-- What the parts of a delivery make of a workplace.
use Rattle.std.proofs.Common.{◌≡◌, ℕ, ◌+◌, ◌<◌, ◌==◌, Bool, true, false, cond, List, refl, sym, ap, subst, ◌∙◌}
use Rattle.std.specs.Prelude.{Option, Some, None, IfSome, is_some}
use Rattle.std.specs.Cmp.{nat_cmp_total}
use Rattle.std.specs.Ordering.{is_eq, nat_cmp}
use Rattle.std.specs.BTreeMap.{is_at}
use Rattle.std.specs.Map.{lookup, remove_entry}
use Rattle.std.proofs.lemmas.Cmp.{tied_itself}
use Rattle.charmlet_model.specs.declared.kind.Kind.{Kind}
use Rattle.charmlet_model.specs.declared.names.MsgId.{MsgId}
use Rattle.charmlet_model.specs.declared.reaction.Reaction.{Reaction}
use Rattle.charmlet_model.specs.Core.{Assign, Commit, Core, Release, assigned_to, committed, next_core, present}
use Rattle.charmlet_model.specs.Shelves.{there_in}
use Rattle.charmlet_model.specs.Sound.{IsSound}
use Rattle.charmlet_model.proofs.Removals.{lookup-removed}
use Rattle.charmlet_chare.specs.declared.chare.Chare.{Ghosts}
use Rattle.charmlet_chare.specs.declared.output.Output.{Output}
use Rattle.charmlet_history.specs.Kept.{IsConsistent, core_in}
use Rattle.charmlet_shelf.specs.Count.{comes_as, is_newcomer_of, objects_on}
use Rattle.charmlet_shelf.specs.Due.{Due, reaction_in, record_after}
use Rattle.charmlet_shelf.specs.PerformedDelivery.{Performed}
use Rattle.charmlet_shelf.specs.Shelf.{View, done_by, is_assigned, performed, released, with_record, without_output}
use Rattle.charmlet_shelf.specs.declared.phase.Phase.{Phase}
use Rattle.charmlet_shelf.specs.declared.phase.Phase.TheVariants as phases
use Rattle.charmlet_stock.specs.Stock.{keeping_of, supplied_to}
use Rattle.charmlet_delivery.specs.Delivering.{IsDelivering}
use Rattle.charmlet_delivery.specs.Turns.{Turns}
use Rattle.charmlet_delivery.specs.UnderWay.{HasMade, IsUnderWay, due_in}
use Rattle.charmlet_delivery.specs.Workplace.{IsConsistentWorkplace, ShowsOn, Workplace, held_in}
use Rattle.charmlet_delivery.specs.Leaves.{Leaves}
use Rattle.charmlet_delivery.proofs.Counting.{still_within}
use Rattle.charmlet_delivery.proofs.Delivering.{has_assigned, same_part, shows_settled}
use Rattle.charmlet_delivery.proofs.Leaving.{assign_leaves, commit_leaves, leaves_itself, leaves_on, release_leaves}
use Rattle.charmlet_delivery.proofs.Places.{same_processors}

-- ---- phases with the same delivery

-- it constructs an object of the kind
abbrev comes_with : Kind → Option Due → Bool
comes_with kind None = false
comes_with kind (Some due) = comes_as kind due

newcomer_by : (kind : Kind) (phase : Phase) → is_newcomer_of kind phase ≡ comes_with kind (due_in phase)
newcomer_by kind phases.Idle = refl
newcomer_by kind (phases.Assigned due) = refl
newcomer_by kind (phases.Done done) = refl

-- a shelf on which the same delivery is under way has as many objects
pub same_due_objects : (old new : View) (phase : Phase) → new ≡ record old { phase = phase } → due_in phase ≡ due_in old.phase → (kind : Kind) → objects_on new kind ≡ objects_on old kind
same_due_objects old new phase is due kind =
    ap (λ (v : View). objects_on v kind) is
    ∙ ap (λ b. there_in old.records kind + cond b 1 0) (newcomer_by kind phase ∙ ap (comes_with kind) due ∙ sym (newcomer_by kind old.phase))

-- the receiver has reacted, and its output was taken
pub reacted_due : (phase : Phase) → due_in (without_output (performed phase)) ≡ due_in phase
reacted_due phases.Idle = refl
reacted_due (phases.Assigned due) = by (reaction_in due)
  where
    by : (r : Option Reaction) → due_in (without_output (done_by due r)) ≡ Some due
    by None = refl
    by (Some r) = refl
reacted_due (phases.Done done) = refl

-- an assignment is taken back
pub released_idle : (phase : Phase) → is_assigned phase ≡ true → released phase ≡ phases.Idle
released_idle phases.Idle h = refl
released_idle (phases.Assigned due) h = refl
released_idle (phases.Done done) h = absurd (let never : ⊥ = cc in never)

-- the delivery that was made
pub made_in : (phase : Phase) (output : Output) → HasMade phase output → (done : Performed) × (phase ≡ phases.Done done)
made_in phases.Idle output made = absurd made
made_in (phases.Assigned due) output made = absurd made
made_in (phases.Done done) output made = (done, refl)

-- ---- a processor whose assignment is gone

-- nothing is assigned to it
none_left : (core : Core) (on : ℕ) → IsSound core → (after : List (ℕ × MsgId)) → after ≡ remove_entry (is_at (nat_cmp on)) core.assigned → lookup (is_at (nat_cmp on)) after ≡ None
none_left core on sound after is =
    ap (lookup (is_at (nat_cmp on))) is
    ∙ lookup-removed nat_cmp_total on on core.assigned sound.rising_assigned
    ∙ ap (λ b. cond b None (assigned_to core on)) (ap is_eq (tied_itself nat_cmp_total on))

pub none_committed : (core next : Core) (on : ℕ) → IsSound core → (due : Due) → IsUnderWay core on due → next ≡ next_core core (Commit on) → assigned_to next on ≡ None
none_committed core next on sound due its is = none_left core on sound next.assigned (ap (λ (c : Core). c.assigned) is ∙ by (assigned_to core on) (has_assigned core on due its))
  where
    by : (o : Option MsgId) → is_some o ≡ true → (committed core on o).assigned ≡ remove_entry (is_at (nat_cmp on)) core.assigned
    by None h = absurd (let never : ⊥ = cc in never)
    by (Some id) h = refl

-- ---- what is left of a workplace

module _ {C : Type 0} {G : Ghosts C} (old new : Workplace C G) (at : IsConsistentWorkplace old) (held : held_in new.shelf new.stock ≡ held_in old.shelf old.stock) (supplied : supplied_to new.stock ≡ supplied_to old.stock)
    (keeping : keeping_of new.stock ≡ keeping_of old.stock) where
  abbrev core : Core
  core = core_in old.history

  abbrev next : Core
  next = core_in new.history

  abbrev on : ℕ
  on = old.shelf.number

  -- a part that changes at most how far the delivery is
  pub turned_phase : next ≡ core → (phase : Phase) → new.shelf ≡ record old.shelf { phase = phase } → due_in phase ≡ due_in old.shelf.phase → Turns old new
  turned_phase same phase shelf due =
      let number : new.shelf.number ≡ on = ap (λ (v : View). v.number) shelf in
      let its : due_in new.shelf.phase ≡ due_in old.shelf.phase = ap (λ (v : View). due_in v.phase) shelf ∙ due in
      record {
        consistent = record {
          shelf = same_part old.history new.history (record old.shelf { phase = phase }) new.shelf core shelf same refl refl refl (record { on = at.shelf.on; objects = at.shelf.objects });
          due = subst (λ (c : Core). IfSome (due_in new.shelf.phase) (IsUnderWay c new.shelf.number)) (sym same)
              (subst (λ n. IfSome (due_in new.shelf.phase) (IsUnderWay core n)) (sym number)
              (subst (λ (o : Option Due). IfSome o (IsUnderWay core on)) (sym its) at.due));
          census = still_within old.shelf new.shelf old.stock new.stock held supplied at.census;
        };
        free = λ free none. (λ i. assigned_to (same i) (number i)) ∙ free (sym its ∙ none);
        leaves = λ q apart. subst (Leaves q core) (sym same) (leaves_itself q core);
        number = number;
        processors = ap (λ (c : Core). c.processors) same;
        held = held;
        supplied = supplied;
        keeping = keeping;
      }

  -- one that is refused
  pub turned_same : next ≡ core → new.shelf ≡ old.shelf → Turns old new
  turned_same same shelf = turned_phase same old.shelf.phase shelf refl

  -- an assignment
  pub turned_assigned : (id : MsgId) → next ≡ next_core core (Assign on id) → (due : Due) → IsDelivering new.history new.shelf due (phases.Assigned due) → new.shelf.number ≡ on → Turns old new
  turned_assigned id is due delivering number = record {
    consistent = record {
      shelf = delivering.part;
      due = subst (λ phase. IfSome (due_in phase) (IsUnderWay next new.shelf.number)) (sym delivering.phase_is) delivering.under_way;
      census = still_within old.shelf new.shelf old.stock new.stock held supplied at.census;
    };
    free = λ _ none. absurd (let no : Some due ≡ None = sym (ap due_in delivering.phase_is) ∙ none in let never : ⊥ = cc in never);
    leaves = λ q apart. subst (Leaves q core) (sym is) (assign_leaves core on id q apart);
    number = number;
    processors = ap (λ (c : Core). c.processors) is;
    held = held;
    supplied = supplied;
    keeping = keeping;
  }

  -- a release
  pub turned_released : IsSound core → next ≡ next_core core (Release on) → new.shelf ≡ record old.shelf { phase = phases.Idle } → Turns old new
  turned_released sound is shelf =
      let number : new.shelf.number ≡ on = ap (λ (v : View). v.number) shelf in
      let bare : View = record old.shelf { phase = phases.Idle } in
      record {
        consistent = record {
          shelf = same_part old.history new.history bare new.shelf (next_core core (Release on)) shelf is refl refl refl (record { on = at.shelf.on; objects = at.shelf.objects });
          due = subst (λ (v : View). IfSome (due_in v.phase) (IsUnderWay next v.number)) (sym shelf) tt;
          census = still_within old.shelf new.shelf old.stock new.stock held supplied at.census;
        };
        free = λ _ none. ap (assigned_to next) number ∙ none_left core on sound next.assigned (ap (λ (c : Core). c.assigned) is);
        leaves = λ q apart. subst (Leaves q core) (sym is) (release_leaves core sound on q apart);
        number = number;
        processors = ap (λ (c : Core). c.processors) is;
        held = held;
        supplied = supplied;
        keeping = keeping;
      }

  -- a commit
  module _ (consistent : IsConsistent old.history) (due : Due) (its : IsUnderWay core on due) (is : next ≡ next_core core (Commit on)) where
    pub turned_committed : new.shelf ≡ record { number = on; records = with_record old.shelf.records due.message.to (record_after due); phase = phases.Idle } → Turns old new
    turned_committed shelf =
        let number : new.shelf.number ≡ on = ap (λ (v : View). v.number) shelf in
        let after = next_core core (Commit on) in
        record {
          consistent = record {
            shelf = record {
              on = subst (λ (c : Core). new.shelf.number < c.processors) (sym is)
                  (subst (λ n. n < after.processors) (sym number) (subst (λ n. on < n) (sym (same_processors core on)) at.shelf.on));
              objects = subst (λ (c : Core). ShowsOn new.shelf.number new.shelf.records c.places (present c)) (sym is)
                  (subst (λ (v : View). ShowsOn v.number v.records after.places (present after)) (sym shelf)
                  (shows_settled old.history consistent on due its old.shelf.records at.shelf.objects));
            };
            due = subst (λ (v : View). IfSome (due_in v.phase) (IsUnderWay next v.number)) (sym shelf) tt;
            census = still_within old.shelf new.shelf old.stock new.stock held supplied at.census;
          };
          free = λ _ none. ap (assigned_to next) number ∙ none_committed core next on consistent.sound due its is;
          leaves = λ q apart. subst (Leaves q core) (sym is) (commit_leaves core consistent.sound on q apart);
          number = number;
          processors = ap (λ (c : Core). c.processors) is ∙ same_processors core on;
          held = held;
          supplied = supplied;
          keeping = keeping;
        }

-- ---- one part after another

module _ {C : Type 0} {G : Ghosts C} (first mid last : Workplace C G) where
  -- all stays of the other processors
  abbrev LeavesOthers : Workplace C G → Workplace C G → Type 0
  LeavesOthers old new = (q : ℕ) → (old.shelf.number == q) ≡ false → Leaves q (core_in old.history) (core_in new.history)

  pub leaves_others : mid.shelf.number ≡ first.shelf.number → LeavesOthers first mid → LeavesOthers mid last → LeavesOthers first last
  leaves_others same a b = λ q apart.
      leaves_on q (core_in first.history) (core_in mid.history) (core_in last.history) (a q apart) (b q (subst (λ n. (n == q) ≡ false) (sym same) apart))

  pub turns_on : Turns first mid → Turns mid last → Turns first last
  turns_on a b = record {
    consistent = b.consistent;
    free = λ free. b.free (a.free free);
    leaves = leaves_others a.number a.leaves b.leaves;
    number = b.number ∙ a.number;
    processors = b.processors ∙ a.processors;
    held = b.held ∙ a.held;
    supplied = b.supplied ∙ a.supplied;
    keeping = b.keeping ∙ a.keeping;
  }
