-- What a checkpoint that runs while others work asks of a sequencer.
use Rattle.std.proofs.Common.{◌≡◌, ◌≢◌, ◌⊎◌, ℕ, Bool, true, false, Result, Ok, Err, inl, inr, refl, sym, ap, subst, ◌∙◌, arith}
use Rattle.std.specs.Prelude.{Option, Some, IfErr, OnOk}
use Rattle.charmlet_model.specs.declared.refusal.Refusal.{Refusal}
use Rattle.charmlet_model.specs.declared.refusal.Refusal.TheVariants as refusals
use Rattle.charmlet_model.specs.Core.{Commit, Core, halted_core, next_core}
use Rattle.charmlet_model.specs.Sound.{IsSound}
use Rattle.charmlet_model.specs.World.{World}
use Rattle.charmlet_chare.specs.declared.chare.Chare as chares
use Rattle.charmlet_chare.specs.declared.output.Output.{Output}
use Rattle.charmlet_disk.specs.declared.disk.Disk as disks
use Rattle.charmlet_halves.specs.declared.halves.Halves.{Halves}
use Rattle.charmlet_halves.specs.Halves.{disk_of, is_halted}
use Rattle.charmlet_history.specs.declared.history.History.{History}
use Rattle.charmlet_history.specs.Kept.{IsAssignedOutput, IsConsistent, core_in, sealed_at}
use Rattle.charmlet_persist.specs.Writes.Rest.{Agrees, IsCurrent}
use Rattle.charmlet_shelf.specs.declared.phase.Phase.{Phase}
use Rattle.charmlet_shelf.specs.declared.phase.Phase.TheVariants as phases
use Rattle.charmlet_stock.specs.declared.stock.Stock.{Stock}
use Rattle.charmlet_delivery.specs.Leaves.{Leaves}
use Rattle.charmlet_delivery.specs.UnderWay.{HasMade, due_in}
use Rattle.charmlet_delivery.proofs.Delivering.{assigned_output}
use Rattle.charmlet_delivery.proofs.Leaving.{same_leaves}
use Rattle.charmlet_persist.specs.FuzzyCheckpoint.Laws.{AreCapturedOn}
use Rattle.charmlet_persist.specs.FuzzyCheckpoint.Checkpoint.{IsRunning, Run, with_delivery}
use Rattle.charmlet_persist.proofs.FuzzyCheckpointLemmas.Others.{deliveries_keep, deliveries_keep_running}
use Rattle.charmlet_sequencer.specs.Authority.{IsDueOn}
use Rattle.charmlet_sequencer.specs.Checkpointing.{IsSealedCore}
use Rattle.charmlet_sequencer.specs.Sequencer.{HasOpened}
use Rattle.charmlet_sequencer.specs.Shelf.{HasOutput, is_done}
use Rattle.charmlet_sequencer.specs.Together.{shown_by}

-- ---- a delivery that was made

pub has_made : (phase : Phase) (o : Option Output) (output : Output) → is_done phase ≡ true → HasOutput phase o → o ≡ Some output → HasMade phase output
has_made phases.Idle o output done has is = absurd (let never : ⊥ = cc in never)
has_made (phases.Assigned due) o output done has is = absurd (let never : ⊥ = cc in never)
has_made (phases.Done d) o output done has is =
    let both : Some has.0 ≡ Some output = sym has.1 ∙ is in
    let same : has.0 ≡ output = cc in
    subst (HasMade (phases.Done d)) same has.2

-- is the one that is assigned
pub made_output : (history : History) → IsConsistent history → (p : ℕ) (phase : Phase) (output : Output) → IsDueOn (core_in history) p (due_in phase) → HasMade phase output → IsAssignedOutput (core_in history) p output
made_output history consistent p phases.Idle output due made = absurd made
made_output history consistent p (phases.Assigned due) output on made = absurd made
made_output history consistent p (phases.Done d) output on made = assigned_output history consistent p d.due on output made.0 made.1 made.2

-- and keeps the checkpoint in which it is noted
pub noted_running : (core : Core) (p : ℕ) (run new : Run) (output : Output) → IsRunning core run → IsAssignedOutput core p output → new ≡ with_delivery core p run → IsRunning (next_core core (Commit p)) new
noted_running core p run new output running outcome noted = subst (IsRunning (next_core core (Commit p))) (sym noted) (deliveries_keep_running core run p output running outcome)

pub noted_settled : (core : Core) → IsSound core → (p : ℕ) (run new : Run) (output : Output) → IsRunning core run → IsAssignedOutput core p output → new ≡ with_delivery core p run →
    (q : ℕ) → AreCapturedOn core run q → AreCapturedOn (next_core core (Commit p)) new q
noted_settled core sound p run new output running outcome noted q settled =
    subst (λ (r : Run). AreCapturedOn (next_core core (Commit p)) r q) (sym noted) (deliveries_keep core run p q output sound running outcome settled)

-- ---- an image is made durable, or isn't

abbrev is_other : Refusal → Bool
is_other refusals.Device = false
is_other _ = true

apart : (refusal : Refusal) → is_other refusal ≡ true → refusal ≢ refusals.Device
apart refusal other is = (let no : false ≡ true = sym (ap is_other is) ∙ other in cc)

pub device_or_not : (refusal : Refusal) → (refusal ≡ refusals.Device) ⊎ (refusal ≢ refusals.Device)
device_or_not refusals.Device = inl refl
device_or_not refusal = inr (apart refusal refl)

-- what holds of the core in each case holds of the one that there is
pub sealed_core : (P : Core → Type 0) (core next : Core) (result : Result ℕ Refusal) → OnOk result (IsSealedCore core next) → IfErr result (λ refusal. refusal ≡ refusals.Device → next ≡ halted_core core) →
    IfErr result (λ refusal. refusal ≢ refusals.Device → next ≡ core) → P core → P (halted_core core) → ((n : ℕ) → P (sealed_at core n)) → P next
sealed_core P core next (Ok generation) sealed failed refused old halted new = subst P (sym sealed.2) (new sealed.0)
sealed_core P core next (Err refusal) sealed failed refused old halted new = elim (device_or_not refusal) [
  | inl is ↦ subst P (sym (failed is)) halted
  | inr other ↦ subst P (sym (refused other)) old
]

-- a refusal that isn't for the device leaves the core
pub refused_core : {D : Type 0} {G : disks.Ghosts D} (history next : History) (halves later : Halves D G) (result : Result ℕ Refusal) → IfErr result (λ refusal. refusal ≢ refusals.Device → (next ≡ history) × (later ≡ halves)) →
    IfErr result (λ refusal. refusal ≢ refusals.Device → core_in next ≡ core_in history)
refused_core history next halves later (Ok generation) same = tt
refused_core history next halves later (Err refusal) same = λ other. ap core_in (same other).0

module _ (core next : Core) (result : Result ℕ Refusal) (sealed : OnOk result (IsSealedCore core next)) (failed : IfErr result (λ refusal. refusal ≡ refusals.Device → next ≡ halted_core core))
    (refused : IfErr result (λ refusal. refusal ≢ refusals.Device → next ≡ core)) where
  pub sealed_leaves : (q : ℕ) → Leaves q core next
  sealed_leaves q =
      sealed_core (Leaves q core) core next result sealed failed refused (same_leaves core core q refl refl refl refl refl refl) (same_leaves core (halted_core core) q refl refl refl refl refl refl)
      (λ n. same_leaves core (sealed_at core n) q refl refl refl refl refl refl)

  pub sealed_opened : (opening : World) (before processors generation : ℕ) → HasOpened opening before processors generation core → HasOpened opening before processors generation next
  sealed_opened opening before processors generation opened =
      let of = opened.of in
      let later = opened.later in
      sealed_core (HasOpened opening before processors generation) core next result sealed failed refused opened
      (record { of = record { opening_is = of.opening_is; before_is = of.before_is; processors_are = of.processors_are }; later = later })
      (λ n. record { of = record { opening_is = of.opening_is; before_is = of.before_is; processors_are = of.processors_are }; later = omega arith })

-- ---- what is left of the halves

-- where no image is written, the halves are as current as they were; and where one is, they are
-- current
module _ {D : Type 0} {G : disks.Ghosts D} (history next : History) (was halves : Halves D G) (current : G.honest (disk_of was) → (core_in history).halted ≡ false → IsCurrent was) where
  pub taken_current : (result : Result ℕ Refusal) → (G.honest (disk_of was) → OnOk result (IsCurrent halves)) → IfErr result (λ refusal. refusal ≢ refusals.Device → (next ≡ history) × (halves ≡ was)) →
      IfErr result (λ refusal. refusal ≡ refusals.Device → is_halted halves ≡ true) → Agrees (core_in next) halves → G.honest (disk_of was) → (core_in next).halted ≡ false → IsCurrent halves
  taken_current (Ok generation) sealed same failed agrees honest going = sealed honest
  taken_current (Err refusal) sealed same failed agrees honest going = elim (device_or_not refusal) [
    | inl is ↦ (let no : true ≡ false = sym (failed is) ∙ (agrees going).going in absurd cc)
    | inr other ↦
        (let both = same other in
        subst (λ (its : Halves D G). IsCurrent its) (sym both.1) (current honest (ap (λ (h : History). (core_in h).halted) (sym both.0) ∙ going)))
  ]

-- a refusal that isn't for the device leaves all as it was
pub sealed_same : {D C : Type 0} {G : disks.Ghosts D} {H : chares.Ghosts C} (history next : History) (stock : Stock C H) (halves later : Halves D G) (result : Result ℕ Refusal) →
    IfErr result (λ refusal. refusal ≢ refusals.Device → (next ≡ history) × (later ≡ halves)) → IfErr result (λ refusal. refusal ≢ refusals.Device → shown_by next stock later ≡ shown_by history stock halves)
sealed_same history next stock halves later (Ok generation) same = tt
sealed_same history next stock halves later (Err refusal) same = λ other. let both = same other in λ i. shown_by (both.0 i) stock (both.1 i)
