-- What the lines of a script do to a store, and what they print.
use Rattle.std.specs.Prelude.{◌≡◌, ◌⊎◌, ℕ, ◌+◌, false, true, List, [], ◌∷◌, ◌++◌, map, take, Option, None, IsSome, Result}
use Rattle.std.specs.Io.KnownBytes.{Appends}
use Rattle.std.specs.List.{flat_map}
use Rattle.charmlet_model.specs.declared.kind.Kind.{Kind}
use Rattle.charmlet_model.specs.declared.names.Elem.{Elem}
use Rattle.charmlet_model.specs.declared.refusal.Refusal.{Refusal}
use Rattle.charmlet_model.specs.declared.step.Answer.{Answer}
use Rattle.charmlet_model.specs.declared.step.Step.{Step}
use Rattle.charmlet_model.specs.Texts.{Text, answer_text}
use Rattle.charmlet_model.specs.Run.{StoreView, Does}
use Rattle.charmlet_model.specs.RunLaws.{IsToldTrue}
use Rattle.charmlet_model.specs.declared.step.Step.TheVariants as steps
use Rattle.charmlet_requests.specs.Handlers.{IsTarget, handler_of}
use Rattle.charmlet_cli.specs.declared.desk.Desk.{Desk}
use Rattle.charmlet_script.specs.declared.script.Line.{Line}
use Rattle.charmlet_script.specs.declared.script.Line.TheVariants.{Supply, Drain, State, Pending, Census}
use Rattle.charmlet_script.specs.declared.script.Line.TheVariants as lines
use Rattle.charmlet_script.specs.Printed.{pending_text, supplied_text}
use Rattle.charmlet_script.specs.Script.{Contents, processors_of}
use Rattle.charmlet_model.specs.Core.{present, place_or_home}
use Rattle.charmlet_model.specs.World.{record_of}
use Rattle.charmlet_disk.specs.declared.disk.Disk as disks
use Rattle.charmlet_disk.specs.Disk.{LeavesOnly, faults_after}
use Rattle.charmlet_persist.specs.Writes.NewStores.{new_core}
use Rattle.charmlet_engine.specs.Outcomes.{IsFlushedAnyway, IsOldOrImage, Onward, is_lawful_since, is_no_fault, is_still}
use Rattle.charmlet_stock.specs.Stock.{part_of}
use Rattle.charmlet_engine.specs.Delivering.{DrainsUpTo}
use Rattle.charmlet_cli.specs.Drain.{drain_texts}
use Rattle.charmlet_script_output.specs.Shown.{IsWhole, all_kinds, counted_in, counted_texts, record_text}
use Rattle.charmlet_script_output.specs.Writing.{AppendsBeginning, Writes, in_lines, memory_text}
use Rattle.charmlet_script_output.specs.Ledgers.{Ledger, kinds_of}
use Rattle.charmlet_script_output.specs.Named.{Names}

-- before the first line: the script's processors and arrays on this disk, and nothing else
abbrev pub history_opening : {D : Type 0} → Contents → D → Ledger D
history_opening script disk = record {
  store = record { core = new_core (processors_of script) (kinds_of script); blanks = λ _. 0 };
  supplied = λ _. 0;
  disk = disk;
}

-- no name stands for one
abbrev pub no_names : Names
no_names name = None

-- the handlers of a desk
abbrev pub named_at : Desk → Names
named_at desk name = handler_of desk.handlers name

-- `count` more blanks of a kind, in the stock and in what was supplied
pub record IsSupplied {D : Type 0} (kind : Kind) (count : ℕ) (old new : Ledger D) : Type 0 where
  pub core : new.store.core ≡ old.store.core
  pub blanks : (k : Kind) → new.store.blanks k ≡ old.store.blanks k + part_of kind count k
  pub supplied : (k : Kind) → new.supplied k ≡ old.supplied k + part_of kind count k
  pub disk : new.disk ≡ old.disk

-- a supply line adds its blanks, or is out of memory and changes nothing
abbrev pub Supplies : {D : Type 0} → Ledger D → Kind → ℕ → Text → Ledger D → Type 0
Supplies old kind count text new = ((text ≡ supplied_text (record { kind = kind; count = count }))
    × IsSupplied kind count old new) ⊎ ((text ≡ memory_text) × (new ≡ old))

-- a state line shows the element's processor and record; it may be out of memory if the element is
-- there
abbrev pub ShowsState : StoreView → Elem → Text → Type 0
ShowsState store elem text =
    (text ≡ record_text elem (place_or_home store.core elem) (record_of (present store.core) elem))
    ⊎ (IsSome (record_of (present store.core) elem).state × (text ≡ memory_text))

-- a pending line shows the ids of the pending messages, or is out of memory
abbrev pub ShowsPending : StoreView → Text → Type 0
ShowsPending store text = (text ≡ pending_text (map (λ m. m.id) (present store.core).pending))
    ⊎ (text ≡ memory_text)

-- a census shows, kind by kind, where the objects supplied so far are
abbrev pub ShowsCensus : {D : Type 0} → Ledger D → List Text → Type 0
ShowsCensus old texts =
    (retired : Kind → ℕ)
    × ((kind : Kind) → IsWhole (counted_in old.store old.supplied retired kind))
    × (texts ≡ flat_map (λ kind. counted_texts (counted_in old.store old.supplied retired kind))
    all_kinds)

module _ {D : Type 0} (G : disks.Ghosts D) where
  -- The store goes on: its history grows; on an honest disk each crash between the two leaves the
  -- world after some of it, with all that was durable at the old one; and the disk is as honest as
  -- before.
  pub record Continues (old new : Ledger D) : Type 0 where
    pub onward : Onward old.store.core new.store.core
    pub any_moment : G.honest old.disk →
        LeavesOnly G.moment G.since old.disk new.disk
        (is_lawful_since old.store.core new.store.core)
    pub honest : (G.honest old.disk → G.honest new.disk) × (G.honest new.disk → G.honest old.disk)

  -- A step has this answer: what clients are told is true of the durable events; the device fails
  -- once if and only if the answer says so; after a step that writes nothing the disk is as it was;
  -- a flush isn't refused when out of memory; and a crash in a checkpoint of a store that isn't
  -- halted leaves the old store or the image.
  pub record IsAnswered (step : Step) (answer : Answer) (old new : Ledger D) : Type 0 where
    pub does : Does old.store step answer new.store
    pub told : IsToldTrue new.store.core.opening
        (take new.store.core.durable new.store.core.history) step answer
    pub supplied : new.supplied ≡ old.supplied
    pub counted : G.faults new.disk ≡ faults_after (is_no_fault answer) (G.faults old.disk)
    pub still : is_still answer ≡ true → new.disk ≡ old.disk
    pub flushed : IsFlushedAnyway step answer
    pub stored : G.honest old.disk → old.store.core.halted ≡ false → step ≡ steps.Checkpoint →
        LeavesOnly G.moment G.since old.disk new.disk (IsOldOrImage old.store.core)

module _ {D : Type 0} (G : disks.Ghosts D) (named : Names) where
  -- from one store a line prints these texts and leads to another store
  abbrev pub Follows : Ledger D → Line → List Text → Ledger D → Type 0
  Follows old (Supply kind count) texts new = (text : Text) × Supplies old kind count text new
      × (texts ≡ text ∷ [])
  Follows old (Drain count) texts new =
      (k : ℕ) × (refusal : Option Refusal) × DrainsUpTo old.store count k refusal new.store
      × (new.supplied ≡ old.supplied) × (new.disk ≡ old.disk)
      × (texts ≡ drain_texts k new.store refusal)
  Follows old (State elem) texts new = (text : Text) × ShowsState old.store elem text
      × (texts ≡ text ∷ []) × (new ≡ old)
  Follows old Pending texts new = (text : Text) × ShowsPending old.store text × (texts ≡ text ∷ [])
      × (new ≡ old)
  Follows old Census texts new = ShowsCensus old texts × (new ≡ old)
  Follows old (lines.Step step) texts new = (answer : Answer) × IsAnswered G step answer old new
      × (texts ≡ answer_text answer ∷ [])
  Follows old (lines.Call client number name index words) texts new =
      (to : Elem) × (entry : ℕ) × IsTarget (present old.store.core) index (named name) to entry
      × (answer : Answer) × IsAnswered G (steps.Request client number to entry words) answer old new
      × (texts ≡ answer_text answer ∷ [])

  -- a line is run, and its texts are written after what was written before, or, if that fails, a
  -- beginning of them
  abbrev pub IsPrinted : {T E : Type 0} → Result T E → Ledger D → Line → Ledger D →
      (before after : Option Text) → Type 0
  IsPrinted result old line new before after = (texts : List Text) × Follows old line texts new
      × Writes result before after (in_lines texts)

  -- Lines one after another print their texts, in a run that ends in `end`: each crash in a line
  -- has what was durable before it, and each crash from the line's end to the end of the run has
  -- what was durable after the line.
  abbrev pub Prints : (end first : Ledger D) → List Line → List Text → (last : Ledger D) → Type 0
  Prints end first [] texts last = (texts ≡ []) × (last ≡ first)
  Prints end first (line ∷ lines) texts last =
      (next : Ledger D) × (printed : List Text) × (rest : List Text)
      × Follows first line printed next × Continues G first next × Continues G next end
      × Prints end next lines rest last × (texts ≡ printed ++ rest)

  -- lines are run one after another, in a run that ends in `end`, and their texts written
  abbrev pub AreRun : (end first : Ledger D) → List Line → (last : Ledger D) →
      (before after : Option Text) → Type 0
  AreRun end first lines last before after = (texts : List Text) × Prints end first lines texts last
      × Appends before after (in_lines texts)

  -- some lines are run and their texts written, and the next line is run and a beginning of its
  -- texts written
  abbrev pub BreakOff : Ledger D → List Line → Ledger D → (before after : Option Text) → Type 0
  BreakOff first lines last before after =
      (whole : List Line) × (line : Line) × (rest : List Line) × (lines ≡ whole ++ line ∷ rest)
      × (mid : Ledger D) × (between : Option Text) × AreRun last first whole mid before between
      × (texts : List Text) × Follows mid line texts last × Continues G mid last
      × AppendsBeginning between after (in_lines texts)
