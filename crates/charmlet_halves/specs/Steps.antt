-- What a crash leaves of a half that isn't taken, while it is written.
use Rattle.std.specs.Prelude.{◌≡◌, ◌⊎◌, ℕ, List}
use Rattle.charmlet_model.specs.declared.half.Half.{Half}
use Rattle.charmlet_model.specs.declared.half.Half.TheVariants.{Zero, One}
use Rattle.charmlet_model.specs.Half.{other}
use Rattle.charmlet_disk.specs.File.{File, CrashBytes}
use Rattle.charmlet_image.specs.Spelled.{Spells, IsClosed}

-- the half is closed or as it was, and the other one is as it was
abbrev pub ClosedOrSame : (Half → File) → Half → CrashBytes → Type 0
ClosedOrSame files half outcome = (outcome (other half) ≡ (files (other half)).now)
    × (IsClosed (outcome half) ⊎ (outcome half ≡ (files half).now))

-- half 1 is as it was, and half 0 is closed or says this text
abbrev pub NothingOrNew : (Half → File) → List ℕ → CrashBytes → Type 0
NothingOrNew files text outcome = (outcome One ≡ (files One).now)
    × (IsClosed (outcome Zero) ⊎ Spells (outcome Zero) text)
