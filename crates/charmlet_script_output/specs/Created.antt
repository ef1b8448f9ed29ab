-- A store that is made for a script, or refused.
use Rattle.std.specs.Prelude.{◌≡◌, ◌≢◌, ◌⊎◌, ◌↔◌, ℕ, false, [], ◌∷◌, Option}
use Rattle.std.specs.Io.KnownBytes.{Appends}
use Rattle.charmlet_model.specs.declared.half.Half.TheVariants.{Zero, One}
use Rattle.charmlet_model.specs.declared.refusal.Refusal.{Refusal}
use Rattle.charmlet_model.specs.declared.refusal.Refusal.TheVariants.{AlreadyHere, BadPes, Device, Memory}
use Rattle.charmlet_model.specs.declared.step.Answer.TheVariants.{Refused}
use Rattle.charmlet_model.specs.Texts.{Text, answer_text}
use Rattle.charmlet_locate.specs.Locations.{is_processor_count}
use Rattle.charmlet_disk.specs.declared.disk.Disk as disks
use Rattle.charmlet_disk.specs.Calls.{IsOnlyRead}
use Rattle.charmlet_disk.specs.Disk.{LeavesOnly, faults_after}
use Rattle.charmlet_disk.specs.File.{MayLeave}
use Rattle.charmlet_image.specs.Spelled.{IsClosed}
use Rattle.charmlet_halves.specs.Bytes.{IsOpen}
use Rattle.charmlet_record.specs.Reading.{Kinds}
use Rattle.charmlet_engine.specs.Outcomes.{IsNothingOrNew, not_device}
use Rattle.charmlet_script.specs.Script.{Contents, processors_of}
use Rattle.charmlet_script_output.specs.Ledgers.{kinds_of}
use Rattle.charmlet_script_output.specs.Writing.{AppendsBeginning, in_lines}

-- why a store isn't created: for the number of its processors, or else because one is here already,
-- when out of memory, or because the device failed
abbrev pub IsCreationRefusal : ℕ → Refusal → Type 0
IsCreationRefusal processors refusal =
    ((refusal ≡ BadPes) ↔ (is_processor_count processors ≡ false))
    × ((refusal ≡ BadPes) ⊎ ((refusal ≡ AlreadyHere) ⊎ ((refusal ≡ Memory) ⊎ (refusal ≡ Device))))

-- what is printed then
abbrev pub creation_text : Refusal → Text
creation_text refusal = in_lines (answer_text (Refused refusal) ∷ [])

-- no line is run, and the refusal of the store's creation is all that is printed
abbrev pub IsNotCreated : Contents → Refusal → (before after : Option Text) → Type 0
IsNotCreated script refusal before after = IsCreationRefusal (processors_of script) refusal
    × Appends before after (creation_text refusal)

-- the same, with only a beginning of it printed
abbrev pub IsNotSaid : Contents → Refusal → (before after : Option Text) → Type 0
IsNotSaid script refusal before after = IsCreationRefusal (processors_of script) refusal
    × AppendsBeginning before after (creation_text refusal)

module _ {D : Type 0} (G : disks.Ghosts D) where
  -- A store was made on the first disk: if that is honest, no half was open; the device hasn't
  -- failed, the disk is as honest as before, and each crash leaves nothing or the new store.
  pub record IsCreated (kinds : Kinds) (first made : D) : Type 0 where
    pub closed : G.honest first → IsClosed (G.file first Zero).now × IsClosed (G.file first One).now
    pub counted : G.faults made ≡ G.faults first
    pub honest : (G.honest first → G.honest made) × (G.honest made → G.honest first)
    pub any_moment : G.honest first → LeavesOnly G.moment G.since first made (IsNothingOrNew kinds)

  -- No store was made on an honest disk: a store that is here already has an open half, and it is
  -- out of memory only if neither is open; unless the device failed, nothing was written; and each
  -- crash leaves what it would have left before, or, if the disk had no store, nothing or the new
  -- store.
  pub record WasRefused (first end : D) (kinds : Kinds) (refusal : Refusal) : Type 0 where
    pub here : refusal ≡ AlreadyHere → IsOpen (G.file first Zero).now
        ⊎ IsOpen (G.file first One).now
    pub lacked : refusal ≡ Memory → IsClosed (G.file first Zero).now
        × IsClosed (G.file first One).now
    pub unwritten : refusal ≢ Device → IsOnlyRead G first end
    pub open_kept : IsOpen (G.file first Zero).now ⊎ IsOpen (G.file first One).now →
        LeavesOnly G.moment G.since first end (MayLeave (G.file first))
    pub any_moment : IsClosed (G.file first Zero).now → IsClosed (G.file first One).now →
        LeavesOnly G.moment G.since first end (IsNothingOrNew kinds)

  -- the disk comes back without a new store; the device has failed once if and only if that is
  -- why
  abbrev pub IsHandedBack : (first end : D) → Contents → Refusal → Type 0
  IsHandedBack first end script refusal =
      (G.faults end ≡ faults_after (not_device refusal) (G.faults first))
      × (G.honest first → WasRefused first end (kinds_of script) refusal)
