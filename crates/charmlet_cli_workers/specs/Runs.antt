-- What a run of a script by workers is, and what each of its errors means.
use Rattle.std.specs.Prelude.{◌≡◌, ◌⊎◌, false, List, IsTrue, Option, Some, None, IfSome}
use Rattle.std.specs.Global.{Vec}
use Rattle.charmlet_model.specs.declared.refusal.Refusal.{Refusal}
use Rattle.charmlet_model.specs.declared.state.State.{State}
use Rattle.charmlet_model.specs.Core.{Core}
use Rattle.charmlet_model.specs.Sound.{new_world}
use Rattle.charmlet_model.specs.Texts.{Text}
use Rattle.charmlet_locate.specs.Locations.{is_processor_count}
use Rattle.charmlet_disk.specs.declared.disk.Disk.{Ghosts}
use Rattle.charmlet_script.specs.declared.script.Line.{Line}
use Rattle.charmlet_script.specs.Script.{Contents, processors_of}
use Rattle.charmlet_script_output.specs.Supplied.{AreEnough}
use Rattle.charmlet_script_output.specs.Ledgers.{kinds_of}
use Rattle.charmlet_script_output.specs.Created.{IsCreated, IsHandedBack, IsNotCreated, IsNotSaid}
use Rattle.charmlet_cli_workers.specs.declared.ended.WorkersError.{WorkersError}
use Rattle.charmlet_cli_workers.specs.declared.ended.WorkersError.TheVariants.{Delivers, TooFewBlanks, Memory, NotCreated, NotRestarted, NoSeats, Output, NotClosed}
use Rattle.charmlet_cli_workers.specs.Left.{IsLeft}
use Rattle.charmlet_cli_workers.specs.Lines.{has_delivery}
use Rattle.charmlet_cli_workers.specs.Said.{ArePrinted, HaveBrokenOff, IsBrokenOff, unknown}

module _ {D : Type 0} (G : Ghosts D) where
  -- one disk is as honest as the other
  abbrev pub IsAsHonest : D → D → Type 0
  IsAsHonest first last = (G.honest first → G.honest last) × (G.honest last → G.honest first)

  -- There are 1 to 64 processors, and a new store with the script's arrays was made on the first
  -- disk. The disk at the end, if it comes back, is honest if that one was, and has a store that
  -- went on from the new one; and this was printed.
  pub record IsMade (first : D) (end : Option D) (script : Contents) (printed : Core → Type 0)
      : Type 0 where
    pub processors : IsTrue (is_processor_count (processors_of script))
    pub made : D
    pub created : IsCreated G (kinds_of script) first made
    pub left : IfSome end (IsLeft G (new_world (kinds_of script)) 0 (processors_of script) printed)
    pub honest : IfSome end (λ last. G.honest first → G.honest last)

  -- no store was made, for this reason, and the disk comes back
  abbrev pub IsNotMade : (first : D) → (end : Option D) → Contents → Refusal → Type 0
  IsNotMade first end script refusal = (last : D) × (end ≡ Some last)
      × IsHandedBack G first last script refusal × IsAsHonest first last

  -- What each error means where a store was to be made. Out of memory before that, nothing is
  -- done; a refused creation writes its line. Where the disk doesn't come back, what was printed
  -- is still of the lines' own forms; and if only the runtime wasn't taken apart, all of it.
  abbrev pub EndsMade : {T W : Type 0} → (W → Option Text) → (first : D) → (end : Option D) →
      Contents → (before after : W) → WorkersError T → Type 0
  EndsMade contents first end script before after (NotCreated refusal) =
      IsNotCreated script refusal (contents before) (contents after)
      × IsNotMade first end script refusal
  EndsMade contents first end script before after NoSeats =
      IsMade first end script (λ last. Unit {0}) × (after ≡ before)
  EndsMade contents first end script before after (Output error) =
      ((refusal : Refusal) × IsNotSaid script refusal (contents before) (contents after)
      × IsNotMade first end script refusal)
      ⊎ (IsMade first end script (λ last. HaveBrokenOff None last script.handlers script.lines
      (contents before) (contents after))
      × IsBrokenOff None unknown (λ deeds. Unit {0}) script.lines (contents before)
      (contents after))
  EndsMade contents first end script before after NotClosed =
      IsMade first end script (λ last. Unit {0}) × (end ≡ None)
      × ArePrinted None unknown (λ deeds. Unit {0}) script.lines (contents before)
      (contents after)
  EndsMade contents first end script before after (Delivers objects) = ⊥
  EndsMade contents first end script before after (TooFewBlanks objects) = ⊥
  EndsMade contents first end script before after Memory = (end ≡ Some first) × (after ≡ before)
  EndsMade contents first end script before after (NotRestarted refusal) = ⊥

  -- What each error of a run means. All objects come back if and only if a line is `deliver`, or no
  -- line is and there are too few of them. The disk and the output then stay as they were, as they
  -- do when out of memory before there is to be a store.
  abbrev pub EndsRun : {C W : Type 0} → (C → State) → (W → Option Text) → (first : D) →
      (end : Option D) → List C → Contents → (before after : W) → WorkersError (Vec C) → Type 0
  EndsRun state contents first end objects script before after (Delivers back) =
      (end ≡ Some first) × (back.items ≡ objects) × (after ≡ before)
      × IsTrue (has_delivery script.lines)
  EndsRun state contents first end objects script before after (TooFewBlanks back) =
      (end ≡ Some first) × (back.items ≡ objects) × (after ≡ before)
      × (has_delivery script.lines ≡ false) × ¬ AreEnough state objects script.lines
  EndsRun state contents first end objects script before after Memory =
      (end ≡ Some first) × (after ≡ before) × (has_delivery script.lines ≡ false)
      × AreEnough state objects script.lines
  EndsRun state contents first end objects script before after error =
      EndsMade contents first end script before after error

-- The script has no `deliver` line, and there are as many objects of each kind as it supplies.
abbrev pub IsFit : {C : Type 0} → (C → State) → List C → List Line → Type 0
IsFit state objects lines = (has_delivery lines ≡ false) × AreEnough state objects lines

-- why no run begins: a `deliver` line, too few objects, or want of memory
abbrev pub Lacks : {C : Type 0} → (C → State) → List C → List Line → WorkersError (Vec C) → Type 0
Lacks state objects lines (Delivers back) = (back.items ≡ objects) × IsTrue (has_delivery lines)
Lacks state objects lines (TooFewBlanks back) = (back.items ≡ objects)
    × (has_delivery lines ≡ false) × ¬ AreEnough state objects lines
Lacks state objects lines Memory = IsFit state objects lines
Lacks state objects lines error = ⊥
