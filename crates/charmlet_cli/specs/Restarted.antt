-- What a restart for a script is, and what it leaves on the disk.
use Rattle.std.specs.Prelude.{◌≡◌, ◌⊎◌, ℕ, Bool, true, false, List, IsTrue, Option, Result, Ok, Err}
use Rattle.std.specs.Io.KnownBytes.{Appends}
use Rattle.charmlet_model.specs.declared.refusal.Refusal.{Refusal}
use Rattle.charmlet_model.specs.declared.state.State.{State}
use Rattle.charmlet_model.specs.Core.{Blanks}
use Rattle.charmlet_model.specs.Texts.{Text}
use Rattle.charmlet_locate.specs.Locations.{is_processor_count}
use Rattle.charmlet_disk.specs.declared.disk.Disk as disks
use Rattle.charmlet_disk.specs.File.{MayLeave, CrashBytes}
use Rattle.charmlet_engine.specs.found.Found as findings
use Rattle.charmlet_engine.specs.wanted.Wanted.{Wanted}
use Rattle.charmlet_script.specs.Script.{RestartContents}
use Rattle.charmlet_cli.specs.declared.restarted_run.FindError.{FindError}
use Rattle.charmlet_cli.specs.declared.restarted_run.FindError.TheVariants as finds
use Rattle.charmlet_cli.specs.declared.restarted_run.RestartError.{RestartError}
use Rattle.charmlet_cli.specs.declared.restarted_run.RestartError.TheVariants.{TooFewBlanks, NotRestarted, Memory, Output}
use Rattle.charmlet_script_output.specs.declared.exit_reason.ExitReason.{ExitReason}
use Rattle.charmlet_script_output.specs.declared.exit_reason.ExitReason.TheVariants as stops
use Rattle.charmlet_script_output.specs.Supplied.{AreEnough}
use Rattle.charmlet_script_output.specs.Ledgers.{Ledger}
use Rattle.charmlet_script_output.specs.Writing.{AppendsBeginning}
use Rattle.charmlet_script_output.specs.Named.{named_by}
use Rattle.charmlet_cli.specs.Lines.{AreRun, BreakOff}
use Rattle.charmlet_cli.specs.Run.{Stands}
use Rattle.charmlet_script_output.specs.Back.{IsBack, WasNotRestarted, given_of, refusal_text, restarted_text}

-- ---- blanks

-- what was found tells how many blanks are wanted, and nothing is written; or its refusal's line is
-- written, or a beginning of it
abbrev pub TellsWanted : Result findings.Found Refusal → Result Wanted FindError →
    (before after : Option Text) → Type 0
TellsWanted (Ok f) (Ok wanted) before after = (wanted ≡ f.wanted) × (after ≡ before)
TellsWanted (Err refusal) (Err (finds.Refused why)) before after = (why ≡ refusal)
    × Appends before after (refusal_text refusal)
TellsWanted (Err refusal) (Err (finds.Output error)) before after =
    AppendsBeginning before after (refusal_text refusal)
TellsWanted (Ok f) (Err error) before after = ⊥
TellsWanted (Err refusal) (Ok wanted) before after = ⊥

-- ---- restarts

module _ {D : Type 0} (G : disks.Ghosts D) where
  -- what a crash before the restart might have left
  abbrev pub is_left_by : D → CrashBytes → Type 0
  is_left_by first = MayLeave (G.file first)

  -- the first line is written, and each line of the script is run in its order and prints its texts
  abbrev pub PrintsRestart : (back : Ledger D) → RestartContents → (last : Ledger D) →
      (before after : Option Text) → Type 0
  PrintsRestart back script last before after =
      (between : Option Text) × Appends before between (restarted_text back.store.core)
      × AreRun G (named_by script.handlers) last back script.lines last between after

  -- a beginning of the first line is written, and nothing is run; or it is written, some lines are
  -- run, and a beginning of their texts is printed
  abbrev pub BreaksOffRestart : (back : Ledger D) → RestartContents → (last : Ledger D) →
      (before after : Option Text) → Type 0
  BreaksOffRestart back script last before after =
      ((last ≡ back) × AppendsBeginning before after (restarted_text back.store.core))
      ⊎ ((between : Option Text) × Appends before between (restarted_text back.store.core)
      × BreakOff G (named_by script.handlers) back script.lines last between after)

  -- a store comes back, the first line says so, each line of the script is run and prints its
  -- texts, and the last store stands on the disk
  abbrev pub IsRestarted : (processors : ℕ) → Blanks → (first end : D) → RestartContents →
      (before after : Option Text) → Type 0
  IsRestarted processors given first end script before after =
      IsTrue (is_processor_count processors) × (back : Ledger D)
      × IsBack G processors given first back
      × (last : Ledger D) × PrintsRestart back script last before after
      × Stands G (is_left_by first) first end last

  -- a store comes back, a beginning of what is to be printed is printed, and the store after the
  -- lines that were run stands on the disk
  abbrev pub IsRestartCutOff : (processors : ℕ) → Blanks → (first end : D) → RestartContents →
      (before after : Option Text) → Type 0
  IsRestartCutOff processors given first end script before after =
      IsTrue (is_processor_count processors) × (back : Ledger D)
      × IsBack G processors given first back
      × (last : Ledger D) × BreaksOffRestart back script last before after
      × Stands G (is_left_by first) first end last

  -- a line couldn't be written: that of a refusal, or one after the store came back
  abbrev pub EndsRestartWrite : (processors : ℕ) → Blanks → (first end : D) → RestartContents →
      (before after : Option Text) → Type 0
  EndsRestartWrite processors given first end script before after =
      ((refusal : Refusal) × WasNotRestarted G processors given first end refusal
      × AppendsBeginning before after (refusal_text refusal))
      ⊎ IsRestartCutOff processors given first end script before after

  -- A restart that had enough objects for its script ends early if no store comes back, or if the
  -- output fails or there is no memory for a line's text.
  abbrev pub EndsRestart : {C : Type 0} → (processors : ℕ) → Blanks → (first end : D) →
      RestartContents → (before after : Option Text) → RestartError C → Type 0
  EndsRestart processors given first end script before after (TooFewBlanks back others) = ⊥
  EndsRestart processors given first end script before after Memory = ⊥
  EndsRestart processors given first end script before after (NotRestarted refusal) =
      WasNotRestarted G processors given first end refusal
      × Appends before after (refusal_text refusal)
  EndsRestart processors given first end script before after (Output error) =
      EndsRestartWrite processors given first end script before after

  -- All objects come back if and only if there are too few for the script's lines. The disk and the
  -- output then stay as they were, as they do when out of memory before the store is to come back.
  -- A refused restart writes its line.
  abbrev pub RestartLeaves : {C W : Type 0} → (C → State) → (W → Option Text) → (processors : ℕ) →
      (first end : D) → (blanks supplies : List C) → RestartContents →
      (before after : W) → RestartError C → Type 0
  RestartLeaves state contents processors first end blanks supplies script before after
      (TooFewBlanks back others) =
      (end ≡ first) × (back.items ≡ blanks) × (others.items ≡ supplies) × (after ≡ before)
      × ¬ AreEnough state supplies script.lines
  RestartLeaves state contents processors first end blanks supplies script before after Memory =
      (end ≡ first) × AreEnough state supplies script.lines × (after ≡ before)
  RestartLeaves state contents processors first end blanks supplies script before after
      (NotRestarted refusal) =
      AreEnough state supplies script.lines
      × WasNotRestarted G processors (given_of state blanks) first end refusal
      × Appends (contents before) (contents after) (refusal_text refusal)
  RestartLeaves state contents processors first end blanks supplies script before after
      (Output error) =
      AreEnough state supplies script.lines
      × EndsRestartWrite processors (given_of state blanks) first end script (contents before)
      (contents after)

-- no store came back
abbrev pub is_without_store : {C : Type 0} → RestartError C → Bool
is_without_store (TooFewBlanks blanks supplies) = true
is_without_store (NotRestarted refusal) = true
is_without_store Memory = true
is_without_store (Output error) = false

-- ---- how the program ends

-- why the program stops after it
abbrev pub stop_restarted : {C : Type 0} → RestartError C → ExitReason
stop_restarted (NotRestarted refusal) = stops.NotRestarted refusal
stop_restarted (TooFewBlanks blanks supplies) = stops.CannotGoOn
stop_restarted Memory = stops.CannotGoOn
stop_restarted (Output error) = stops.CannotGoOn

-- the same if no store is found
abbrev pub stop_found : FindError → ExitReason
stop_found (finds.Refused refusal) = stops.NotRestarted refusal
stop_found (finds.Output error) = stops.CannotGoOn
