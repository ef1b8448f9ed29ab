-- What a run that fails leaves.
use Rattle.std.specs.Prelude.{◌≡◌, ◌⊎◌, List, Option}
use Rattle.charmlet_model.specs.declared.state.State.{State}
use Rattle.charmlet_model.specs.declared.refusal.Refusal.{Refusal}
use Rattle.charmlet_model.specs.Texts.{Text}
use Rattle.charmlet_disk.specs.declared.disk.Disk as disks
use Rattle.charmlet_script.specs.Script.{Contents}
use Rattle.charmlet_cli.specs.declared.new_run.RunError.{RunError}
use Rattle.charmlet_cli.specs.declared.new_run.RunError.TheVariants.{TooFewBlanks, NotCreated, Memory, Output}
use Rattle.charmlet_script_output.specs.declared.exit_reason.ExitReason.{ExitReason}
use Rattle.charmlet_script_output.specs.declared.exit_reason.ExitReason.TheVariants as stops
use Rattle.charmlet_script_output.specs.Supplied.{AreEnough}
use Rattle.charmlet_script_output.specs.Created.{IsHandedBack, IsNotCreated, IsNotSaid}
use Rattle.charmlet_cli.specs.Run.{IsCutOff}

module _ {D : Type 0} (G : disks.Ghosts D) where
  -- a line couldn't be written: the refusal of the store's creation, or one of a run
  abbrev pub EndsWrite : (first end : D) → Contents → (before after : Option Text) → Type 0
  EndsWrite first end script before after =
      ((refusal : Refusal) × IsNotSaid script refusal before after
      × IsHandedBack G first end script refusal)
      ⊎ IsCutOff G first end script before after

  -- A run that had enough objects ends early if its store isn't created, or if the output fails or
  -- there is no memory for a line's text.
  abbrev pub EndsRun : {C : Type 0} → (first end : D) → Contents → (before after : Option Text) →
      RunError C → Type 0
  EndsRun first end script before after (TooFewBlanks back) = ⊥
  EndsRun first end script before after (NotCreated refusal) =
      IsNotCreated script refusal before after × IsHandedBack G first end script refusal
  EndsRun first end script before after Memory = ⊥
  EndsRun first end script before after (Output error) = EndsWrite first end script before after

  -- All objects come back if and only if there are too few. The disk and the output then stay as
  -- they were, as they do when out of memory before the store is to be created.
  abbrev pub Leaves : {C W : Type 0} → (C → State) → (W → Option Text) → (first end : D) → List C →
      Contents → (before after : W) → RunError C → Type 0
  Leaves state contents first end objects script before after (TooFewBlanks back) =
      (end ≡ first) × (back.items ≡ objects) × (after ≡ before)
      × ¬ AreEnough state objects script.lines
  Leaves state contents first end objects script before after Memory = (end ≡ first)
      × AreEnough state objects script.lines × (after ≡ before)
  Leaves state contents first end objects script before after (NotCreated refusal) =
      AreEnough state objects script.lines × IsNotCreated script refusal (contents before)
      (contents after) × IsHandedBack G first end script refusal
  Leaves state contents first end objects script before after (Output error) =
      AreEnough state objects script.lines × EndsWrite first end script (contents before)
      (contents after)

-- there are too few objects, and all come back; or there are enough, and it is out of memory
abbrev pub Lacks : {C : Type 0} → (C → State) → List C → Contents → RunError C → Type 0
Lacks state objects script (TooFewBlanks back) = (back.items ≡ objects)
    × ¬ AreEnough state objects script.lines
Lacks state objects script Memory = AreEnough state objects script.lines
Lacks state objects script (NotCreated refusal) = ⊥
Lacks state objects script (Output error) = ⊥

-- why the program stops after it
abbrev pub stop_after : {C : Type 0} → RunError C → ExitReason
stop_after (NotCreated refusal) = stops.NotCreated refusal
stop_after (TooFewBlanks back) = stops.CannotGoOn
stop_after Memory = stops.CannotGoOn
stop_after (Output error) = stops.CannotGoOn
