-- A store that comes back for a script, or doesn't.
use Rattle.std.specs.Prelude.{◌≡◌, ◌≢◌, ◌↔◌, ℕ, true, false, List, [], ◌∷◌, ◌++◌, Err, codes}
use Rattle.std.specs.Fmt.{decimal}
use Rattle.charmlet_model.specs.declared.event.Event.{Event}
use Rattle.charmlet_model.specs.declared.kind.Kind.{Kind}
use Rattle.charmlet_model.specs.declared.refusal.Refusal.{Refusal}
use Rattle.charmlet_model.specs.declared.refusal.Refusal.TheVariants.{BadPes, Device}
use Rattle.charmlet_model.specs.declared.state.State.{State}
use Rattle.charmlet_model.specs.declared.step.Answer.TheVariants.{Refused}
use Rattle.charmlet_model.specs.Core.{Blanks, Core}
use Rattle.charmlet_model.specs.Shelves.{count_of}
use Rattle.charmlet_model.specs.Sound.{IsSound}
use Rattle.charmlet_model.specs.Texts.{Text, answer_text}
use Rattle.charmlet_model.specs.World.{World}
use Rattle.charmlet_locate.specs.Locations.{is_processor_count}
use Rattle.charmlet_recovery.specs.Outcomes.{IsLawful}
use Rattle.charmlet_recovery.specs.Restarts.{engine_refusal, wants_image}
use Rattle.charmlet_disk.specs.declared.disk.Disk as disks
use Rattle.charmlet_disk.specs.Calls.{IsUnwritten}
use Rattle.charmlet_disk.specs.Disk.{IsSettled, LeavesOnly, faults_after}
use Rattle.charmlet_disk.specs.File.{MayLeave, CrashBytes}
use Rattle.charmlet_engine.specs.Constructions.{AreConstructions}
use Rattle.charmlet_engine.specs.Restart.{AnswersBy, bytes_on, is_after_sync}
use Rattle.charmlet_engine.specs.Lives.{ComesBack, Past, Remembers}
use Rattle.charmlet_engine.specs.Outcomes.{Onward, is_lawful_now, is_lawful_since, not_device}
use Rattle.charmlet_engine.specs.Restarted.{IsFound, IsLackOrFull, IsLeftByRestart, IsOpenedOn, IsTakenFrom, is_engine_refusal}
use Rattle.charmlet_engine.specs.wanted.Wanted.{Wanted}
use Rattle.charmlet_script_output.specs.declared.restarted_line.RestartedLine.{RestartedLine}
use Rattle.charmlet_script_output.specs.Ledgers.{Ledger}
use Rattle.charmlet_script_output.specs.Writing.{in_lines}

-- restarted generation G events E on N
abbrev pub restarted_line_text : RestartedLine → Text
restarted_line_text line = codes "restarted generation " ++ decimal line.generation
    ++ codes " events " ++ decimal line.events ++ codes " on " ++ decimal line.processors

-- the first line after a restart: the generation that the store goes on at, and how many events
-- came back
abbrev pub restarted_text : Core → Text
restarted_text core = in_lines
    (restarted_line_text (record {
      generation = core.generation;
      events = core.before;
      processors = core.processors;
    }) ∷ [])

-- the only line if no store comes back
abbrev pub refusal_text : Refusal → Text
refusal_text refusal = in_lines (answer_text (Refused refusal) ∷ [])

-- the objects of a restart, by their kinds
abbrev pub given_of : {C : Type 0} → (C → State) → List C → Blanks
given_of state objects kind = count_of state objects kind

module _ {D : Type 0} (G : disks.Ghosts D) where
  -- A store came back from the first disk. Nothing has happened since, and each element that is
  -- there stands on its home. From an honest disk it has the world and the count of events that the
  -- files recover to, at their generation, or at the next one if an image was wanted. The stock has
  -- the blanks that the taken half didn't want, and the log goes on where that half ends, or after
  -- the image. After a crash in any life of the store all that clients were told is true. The disk
  -- is settled, and each crash now leaves that world. Nothing was written unless an image was
  -- wanted; and each crash since the beginning leaves what one before the restart might have left,
  -- or files that recover to that world, at their generation or the next.
  pub record IsBack (processors : ℕ) (given : Blanks) (first : D) (back : Ledger D) : Type 0 where
    pub opens : IsOpenedOn processors back.store.core
    pub found : G.honest first → IsFound (bytes_on (G.file first)) back.store.core
    pub left : G.honest first → IsTakenFrom given (bytes_on (G.file first)) back.store
    pub supplied : (kind : Kind) → back.supplied kind ≡ given kind
    pub remembers : G.honest first → (past : Past) (old new : Core) → Remembers past old →
        Onward old new → IsSound new →
        is_lawful_since old new (bytes_on (G.file first)) → ComesBack past old new back.store.core
    pub counted : G.faults back.disk ≡ G.faults first
    pub honest : (G.honest first → G.honest back.disk) × (G.honest back.disk → G.honest first)
    pub settled : G.honest first → IsSettled (G.file back.disk)
    pub now : G.honest first → (outcome : CrashBytes) → MayLeave (G.file back.disk) outcome →
        is_lawful_now back.store.core outcome
    pub still : G.honest first → wants_image (bytes_on (G.file first)) ≡ false →
        IsUnwritten G first back.disk
    pub any_moment : G.honest first →
        LeavesOnly G.moment G.since first back.disk (IsLeftByRestart (G.file first))

  -- a store came back from the first disk, and so many blanks of each kind are those that its
  -- pending messages take
  abbrev pub CameBackWith : (processors : ℕ) → Blanks → (first : D) → Wanted → Type 0
  CameBackWith processors given first wanted = (back : Ledger D)
      × IsBack processors given first back × AreConstructions back.store.core wanted

  -- No store came back from the first disk, for a cause that is found in its files or its blanks,
  -- the number of processors, lack of memory, or a failure of the device. After a crash of an
  -- earlier run the files alone are never the cause, unless an image is wanted that can't be
  -- written. What was read is sure. Nothing is written unless an image is wanted, and then only if
  -- the device failed; and each crash since the beginning leaves what one before the restart might
  -- have left, or files that recover to the same world, at the same generation or the next.
  pub record WasNotRestarted (processors : ℕ) (given : Blanks) (first end : D)
      (refusal : Refusal) : Type 0 where
    pub kind : is_engine_refusal refusal ≡ true
    pub bad : (refusal ≡ BadPes) ↔ (is_processor_count processors ≡ false)
    pub cause : G.honest first → is_processor_count processors ≡ true →
        AnswersBy {X = Core} (engine_refusal given (bytes_on (G.file first))) (Err refusal)
    pub lawful : G.honest first → (w : World) (before : ℕ) (history : List Event) (durable : ℕ) →
        IsLawful w before history durable (bytes_on (G.file first)) →
        IsLackOrFull (bytes_on (G.file first)) refusal
    pub still : G.honest first → wants_image (bytes_on (G.file first)) ≡ false →
        IsUnwritten G first end
    pub unwritten : G.honest first → refusal ≢ Device → IsUnwritten G first end
    pub settled : G.honest first → is_after_sync {X = Core} (Err refusal) ≡ true →
        IsSettled (G.file end)
    pub any_moment : G.honest first →
        LeavesOnly G.moment G.since first end (IsLeftByRestart (G.file first))
    pub counted : G.faults end ≡ faults_after (not_device refusal) (G.faults first)
