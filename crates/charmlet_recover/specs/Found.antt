-- What two halves say, as a call that only reads answers it.
use Rattle.std.specs.Prelude.{◌≡◌, ℕ, List, length, Result, Ok, Err}
use Rattle.charmlet_model.specs.declared.kind.Kind.{Kind}
use Rattle.charmlet_model.specs.declared.refusal.Refusal.{Refusal}
use Rattle.charmlet_model.specs.declared.refusal.Refusal.TheVariants.{Memory, Device}
use Rattle.charmlet_image.specs.Images.{Saved}
use Rattle.charmlet_image.specs.Halves.{Open, Takes, found, taken}
use Rattle.charmlet_recovery.specs.Recovered.{log_of}
use Rattle.charmlet_recovery.specs.Restarts.{wanted_of}
use Rattle.charmlet_halves.specs.Found.{Refuses}
use Rattle.charmlet_recover.specs.Wanted.{blanks_in}
use Rattle.charmlet_recover.specs.declared.found.Found.{Found}

-- what is found of a half is what it says: its header's generation and events, the events of its
-- log, its arrays, and the blanks of each kind that a restart of it needs
pub record Says (s : Saved) (f : Found) : Type 0 where
  pub generation : f.generation ≡ s.header.generation
  pub before : f.before ≡ s.header.events
  pub logged : f.logged ≡ length (log_of s)
  pub manifest : f.manifest ≡ s.image.manifest
  pub wanted : (kind : Kind) → blanks_in f.wanted kind ≡ wanted_of s kind

-- on any disk, what is found is what the bytes of some half say
abbrev pub IsRead : Found → Type 0
IsRead f = (bytes : List ℕ) × (s : Saved) × (found bytes ≡ Open s) × Says s f

-- a half that says so is taken of the two; or it is refused what they say, unless memory is refused
-- or the device fails
abbrev pub IsFoundIn : List ℕ → List ℕ → Result Found Refusal → Type 0
IsFoundIn first second (Ok f) = (s : Saved) × (taken first second ≡ Takes f.half s) × Says s f
IsFoundIn first second (Err Memory) = Unit {0}
IsFoundIn first second (Err Device) = Unit {0}
IsFoundIn first second (Err refusal) = Refuses (taken first second) refusal
