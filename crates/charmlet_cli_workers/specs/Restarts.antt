-- What a run of a script by workers over a store that comes back is, and what each of its errors
-- means.
use Rattle.std.specs.Prelude.{◌≡◌, ◌⊎◌, ℕ, false, List, IsTrue, Option, Some, None, IfSome, IsSome}
use Rattle.std.specs.Global.{Vec}
use Rattle.std.specs.Io.KnownBytes.{Appends}
use Rattle.charmlet_model.specs.declared.refusal.Refusal.{Refusal}
use Rattle.charmlet_model.specs.declared.state.State.{State}
use Rattle.charmlet_model.specs.Core.{Blanks, Core}
use Rattle.charmlet_model.specs.Texts.{Text}
use Rattle.charmlet_locate.specs.Locations.{is_processor_count}
use Rattle.charmlet_disk.specs.declared.disk.Disk.{Ghosts}
use Rattle.charmlet_script.specs.declared.script.HandlerLine.{HandlerLine}
use Rattle.charmlet_script.specs.declared.script.Line.{Line}
use Rattle.charmlet_script_output.specs.declared.restarted_line.RestartedLine.{RestartedLine}
use Rattle.charmlet_script_output.specs.Supplied.{AreEnough}
use Rattle.charmlet_script_output.specs.Ledgers.{Ledger}
use Rattle.charmlet_script_output.specs.Back.{IsBack, WasNotRestarted, given_of, refusal_text}
use Rattle.charmlet_script_output.specs.Writing.{AppendsBeginning}
use Rattle.charmlet_cli_workers.specs.declared.ended.WorkersError.{WorkersError}
use Rattle.charmlet_cli_workers.specs.declared.ended.WorkersError.TheVariants.{Delivers, TooFewBlanks, Memory, NotCreated, NotRestarted, NoSeats, Output, NotClosed}
use Rattle.charmlet_cli_workers.specs.Left.{IsLeft}
use Rattle.charmlet_cli_workers.specs.Lines.{has_delivery}
use Rattle.charmlet_cli_workers.specs.Said.{ArePrinted, HaveBrokenOff, IsBrokenOff, unknown}
use Rattle.charmlet_cli_workers.specs.Runs.{IsAsHonest, IsFit}

-- the line of a store that came back with this core
abbrev pub line_of : Core → RestartedLine
line_of back = record {
  generation = back.generation;
  events = back.before;
  processors = back.processors;
}

-- whether it was counted what the pending messages want, where a run ends so: not if no store came
-- back, but if one did
abbrev pub IsCountedAt : {T X : Type 0} → WorkersError T → Option X → Type 0
IsCountedAt (Delivers objects) counted = counted ≡ None
IsCountedAt (TooFewBlanks objects) counted = counted ≡ None
IsCountedAt Memory counted = counted ≡ None
IsCountedAt (NotCreated refusal) counted = counted ≡ None
IsCountedAt (NotRestarted refusal) counted = counted ≡ None
IsCountedAt NoSeats counted = IsSome counted
IsCountedAt (Output error) counted = Unit {0}
IsCountedAt NotClosed counted = IsSome counted

-- the line of a restart that is refused was written, or a beginning of it
abbrev pub TellsRefusal : {T W : Type 0} → (W → Option Text) → Refusal → (before after : W) →
    WorkersError T → Type 0
TellsRefusal contents refusal before after (NotRestarted why) = (why ≡ refusal)
    × Appends (contents before) (contents after) (refusal_text refusal)
TellsRefusal contents refusal before after (Output error) =
    AppendsBeginning (contents before) (contents after) (refusal_text refusal)
TellsRefusal contents refusal before after _ = ⊥

module _ {D : Type 0} (G : Ghosts D) where
  -- There are 1 to 64 processors, and a store came back from the first disk, as an engine's does.
  -- The disk at the end, if it comes back, is honest if the first one was, and has a store that
  -- went on from that one; and this was printed. This was said whether or not the disk comes back.
  pub record IsBackByWorkers (processors : ℕ) (given : Blanks) (first : D) (end : Option D)
      (printed : (back last : Core) → Type 0) (said : Core → Type 0) : Type 0 where
    pub counted : IsTrue (is_processor_count processors)
    pub back : Ledger D
    pub is_back : IsBack G processors given first back
    pub left : IfSome end (IsLeft G back.store.core.opening back.store.core.before processors
        (printed back.store.core))
    pub says : said back.store.core
    pub honest : IfSome end (λ last. G.honest first → G.honest last)

  -- no store came back, for this reason, and the disk does
  abbrev pub IsNotBack : (processors : ℕ) → Blanks → (first : D) → (end : Option D) → Refusal →
      Type 0
  IsNotBack processors given first end refusal = (last : D) × (end ≡ Some last)
      × WasNotRestarted G processors given first last refusal × IsAsHonest G first last

  -- What each error means where a store was to come back. A refused restart writes its line, and
  -- nothing to the disk unless the device failed. Where the disk doesn't come back, what was
  -- printed is still of the lines' own forms; and if only the runtime wasn't taken apart, all of
  -- it.
  abbrev pub EndsBack : {T W : Type 0} → (W → Option Text) → (processors : ℕ) → Blanks →
      (first : D) → (end : Option D) → List HandlerLine → List Line → (before after : W) →
      WorkersError T → Type 0
  EndsBack contents processors given first end handlers lines before after (NotRestarted refusal) =
      Appends (contents before) (contents after) (refusal_text refusal)
      × IsNotBack processors given first end refusal
  EndsBack contents processors given first end handlers lines before after NoSeats =
      IsBackByWorkers processors given first end (λ back last. Unit {0}) (λ back. Unit {0})
      × (after ≡ before)
  EndsBack contents processors given first end handlers lines before after (Output error) =
      ((refusal : Refusal)
      × AppendsBeginning (contents before) (contents after) (refusal_text refusal)
      × IsNotBack processors given first end refusal)
      ⊎ IsBackByWorkers processors given first end
      (λ back last. HaveBrokenOff (Some (line_of back)) last handlers lines (contents before)
      (contents after))
      (λ back. IsBrokenOff (Some (line_of back)) unknown (λ deeds. Unit {0}) lines
      (contents before) (contents after))
  EndsBack contents processors given first end handlers lines before after NotClosed =
      IsBackByWorkers processors given first end (λ back last. Unit {0})
      (λ back. ArePrinted (Some (line_of back)) unknown (λ deeds. Unit {0}) lines
      (contents before) (contents after)) × (end ≡ None)
  EndsBack contents processors given first end handlers lines before after (Delivers objects) = ⊥
  EndsBack contents processors given first end handlers lines before after (TooFewBlanks objects) =
      ⊥
  EndsBack contents processors given first end handlers lines before after Memory = ⊥
  EndsBack contents processors given first end handlers lines before after (NotCreated refusal) = ⊥

  -- What each error of a run means. All objects come back if and only if a line is `deliver`, or no
  -- line is and there are too few for the script. The disk and the output then stay as they were,
  -- as they do when out of memory before the store is to come back.
  abbrev pub EndsRestart : {C W : Type 0} → (C → State) → (W → Option Text) → (processors : ℕ) →
      (first : D) → (end : Option D) → (blanks supplies : List C) → List HandlerLine → List Line →
      (before after : W) → WorkersError (Vec C × Vec C) → Type 0
  EndsRestart state contents processors first end blanks supplies handlers lines before after
      (Delivers back) =
      (end ≡ Some first) × (back.0.items ≡ blanks) × (back.1.items ≡ supplies)
      × (after ≡ before) × IsTrue (has_delivery lines)
  EndsRestart state contents processors first end blanks supplies handlers lines before after
      (TooFewBlanks back) =
      (end ≡ Some first) × (back.0.items ≡ blanks) × (back.1.items ≡ supplies)
      × (after ≡ before) × (has_delivery lines ≡ false) × ¬ AreEnough state supplies lines
  EndsRestart state contents processors first end blanks supplies handlers lines before after
      Memory =
      (end ≡ Some first) × (after ≡ before) × IsFit state supplies lines
  EndsRestart state contents processors first end blanks supplies handlers lines before after
      error =
      EndsBack contents processors (given_of state blanks) first end handlers lines before after
      error
