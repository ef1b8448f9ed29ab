-- What two files recover to by the versions that are written in them.
use Rattle.std.specs.Prelude.{ℕ, List}
use Rattle.charmlet_model.specs.declared.half.Half.{Half}
use Rattle.charmlet_model.specs.declared.half.Half.TheVariants.{Zero, One}
use Rattle.charmlet_model.specs.Upgrade.{up_world}
use Rattle.charmlet_image.specs.Halves.{Taken, NothingHere, Takes, DamagedAt, taken}
use Rattle.charmlet_image.specs.Images.{Saved}
use Rattle.charmlet_recovery.specs.Meanings.{Meaning, meaning}
use Rattle.charmlet_recovery.specs.Recovered.{Recovered, Nothing, Damaged, Found, log_of, recovered_by}

-- what an open half says: its image, with its log, by the versions that are written
abbrev pub meaning_as_written : Saved → Meaning
meaning_as_written s = meaning s.image s.header.events (log_of s)

-- what is taken of two halves comes to: nothing, the first fault of the format, or else what the
-- half says
abbrev pub as_written_from : Taken → Recovered
as_written_from NothingHere = Nothing
as_written_from (DamagedAt half offset) = Damaged half offset
as_written_from (Takes half s) = recovered_by half s (meaning_as_written s)

-- what the bytes of both files recover to, in the versions that are written
unfoldable pub recovered_as_written : (Half → List ℕ) → Recovered
recovered_as_written outcome = as_written_from (taken (outcome Zero) (outcome One))

-- a world that is found is brought forward to the newest versions of its kinds
abbrev pub gone_on : Recovered → Recovered
gone_on Nothing = Nothing
gone_on (Damaged half offset) = Damaged half offset
gone_on (Found w count generation) = Found (up_world w) count generation
