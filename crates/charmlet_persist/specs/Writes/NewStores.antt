-- Stores that are made anew, and what a crash leaves of that.
use Rattle.std.specs.Prelude.{◌≡◌, ◌⊎◌, ℕ, ◌+◌, true, Result, Ok, Err}
use Rattle.charmlet_model.specs.declared.half.Half.{Half}
use Rattle.charmlet_model.specs.declared.half.Half.TheVariants.{Zero, One}
use Rattle.charmlet_model.specs.declared.refusal.Refusal.{Refusal}
use Rattle.charmlet_model.specs.declared.refusal.Refusal.TheVariants.{BadPes}
use Rattle.charmlet_model.specs.Core.{Core}
use Rattle.charmlet_model.specs.Sizes.{image_size}
use Rattle.charmlet_model.specs.Sound.{new_world, opened}
use Rattle.charmlet_record.specs.Reading.{Kinds}
use Rattle.charmlet_image.specs.Images.{spell_half}
use Rattle.charmlet_image.specs.NewStores.{new_saved}
use Rattle.charmlet_recovery.specs.Recovered.{Nothing, recovered}
use Rattle.charmlet_recovery.specs.Stores.{Stores}
use Rattle.charmlet_disk.specs.declared.disk.Disk.{Ghosts}
use Rattle.charmlet_disk.specs.Disk.{IsSettled}
use Rattle.charmlet_disk.specs.File.{File, CrashBytes}
use Rattle.charmlet_halves.specs.declared.opened.Refused.{Refused}
use Rattle.charmlet_halves.specs.Halves.{disk_of, spare_of, taken_half, text_of}
use Rattle.charmlet_halves.specs.Made.{AreClosed, IsMakingRefusal}
use Rattle.charmlet_locate.specs.Locations.{is_processor_count}
use Rattle.charmlet_history.specs.Kept.{core_in}
use Rattle.charmlet_persist.specs.declared.writes.created.Created.{Created}
use Rattle.charmlet_persist.specs.Writes.Rest.{Agrees, IsCurrent, IsKept}

-- the disk afterwards, which the halves own or which was handed back
abbrev pub created_disk : {D : Type 0} {G : Ghosts D} → Result (Created D G) (Refused D) → D
created_disk (Ok created) = disk_of created.halves
created_disk (Err refused) = refused.disk

-- that the store was created, or why not
abbrev pub created_so : {D : Type 0} {G : Ghosts D} → Result (Created D G) (Refused D) →
    Result (Created D G) Refusal
created_so (Ok created) = Ok created
created_so (Err refused) = Err refused.refusal

-- a new store with these arrays: after a gate, a header of 24 bytes, and the image, its log begins
-- and ends
abbrev pub new_core : ℕ → Kinds → Core
new_core processors kinds = opened processors (new_world kinds) 0 1
    (25 + image_size (new_world kinds))

-- the files recover to nothing, or store the world in which nothing has happened, at no events and
-- generation 1
abbrev pub NothingOrNewWorld : Kinds → CrashBytes → Type 0
NothingOrNewWorld kinds outcome = (recovered outcome ≡ Nothing)
    ⊎ Stores outcome (new_world kinds) 0 1

-- ---- the promises of a creation

module _ {D : Type 0} {G : Ghosts D} where
  -- With these arrays and on this number of processors, of which there may be so many, nothing has
  -- happened. The store stands in half 0, and the halves go on where it does.
  pub record IsNewOn (processors : ℕ) (kinds : Kinds) (created : Created D G) : Type 0 where
    pub processors_are : is_processor_count processors ≡ true
    pub opens : core_in created.history ≡ new_core processors kinds
    pub half : taken_half created.halves ≡ Zero
    pub agrees : Agrees (core_in created.history) created.halves

  -- On an honest disk no half was open; now half 0 says the new store, and half 1 has what it had;
  -- both are settled. Each crash keeps the store, and events may be appended to it.
  pub record IsOnNewFiles (kinds : Kinds) (files : Half → File) (created : Created D G)
      : Type 0 where
    pub closed : AreClosed files
    pub text : text_of created.halves ≡ spell_half (new_saved kinds)
    pub other : spare_of created.halves ≡ (files One).now
    pub settled : IsSettled (G.file (disk_of created.halves))
    pub kept : IsKept (core_in created.history) created.halves
    pub current : IsCurrent created.halves

-- a creation is refused for the number of processors, or as the halves are, and for nothing else
abbrev pub IsCreationRefusal : Refusal → Type 0
IsCreationRefusal refusal = (refusal ≡ BadPes) ⊎ IsMakingRefusal refusal
