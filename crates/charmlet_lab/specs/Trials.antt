-- The crashes of a script that are tried, and how many of them are bad.
use Rattle.std.specs.Prelude.{◌≡◌, ◌⊎◌, ◌↔◌, ⊤, ℕ, zero, suc, ◌^◌, Bool, true, false, List, [], ◌∷◌, ◌++◌, map, take, length, Option, Some, None, Result, Ok}
use Rattle.std.specs.List.{AllByRecursion, count_by}
use Rattle.charmlet_model.specs.declared.half.Half.{Half}
use Rattle.charmlet_model.specs.declared.refusal.Refusal.{Refusal}
use Rattle.charmlet_model.specs.declared.refusal.Refusal.TheVariants.{AlreadyHere, BadPes, BlanksWanted, Device, ImageFull, Memory}
use Rattle.charmlet_model.specs.Core.{Blanks, Core}
use Rattle.charmlet_persist.specs.Snapshot.Showing.{PassesLimit}
use Rattle.charmlet_disk.specs.declared.crash.CrashChoice.{CrashChoice}
use Rattle.charmlet_disk.specs.declared.crash.CrashChoice.TheVariants.{Old, New, Zeros, Ones, Sevens, FirstHalves}
use Rattle.charmlet_disk.specs.declared.disk.Disk as disks
use Rattle.charmlet_disk.specs.Disk.{faults_after}
use Rattle.charmlet_disk.specs.File.{clean}
use Rattle.charmlet_locate.specs.Locations.{is_processor_count}
use Rattle.charmlet_recovery.specs.RestartLaws.{IsEnough, IsLeastShort}
use Rattle.charmlet_script.specs.Script.{Contents, processors_of}
use Rattle.charmlet_lab.specs.declared.line.LabLine.{LabLine}
use Rattle.charmlet_lab.specs.declared.round.Round.{Round}
use Rattle.charmlet_lab.specs.Judged.{IsGood}
use Rattle.charmlet_lab.specs.Lines.{IsRunOf}
use Rattle.charmlet_lab.specs.Restarts.{AreWanted, IsCrash, IsRestart}
use Rattle.charmlet_lab.specs.Rounds.{IsRound, arrays_of}

-- a crash: after how many calls the disk of its run failed, and what it left of the disk
abbrev pub Place : Type 0
Place = ℕ × CrashChoice

-- what a crash may leave
abbrev pub choices : List CrashChoice
choices = Old ∷ New ∷ Zeros ∷ Ones ∷ Sevens ∷ FirstHalves ∷ []

-- the crashes of the stop after this many calls, one for each choice
abbrev pub places_at : ℕ → List Place
places_at calls = map (λ choice. (calls, choice)) choices

-- those of the first n stops, one stop after another
abbrev pub places : ℕ → List Place
places zero = []
places (suc n) = places n ++ places_at n

-- no more stops are tried
abbrev pub most_stops : ℕ
most_stops = 2 ^ 60

-- A crash that was tried: its place, what its run left, the disk after it, the blanks that this
-- wants, those that were given, what the restart gave, and whether that was reported as bad.
pub record Tried (D : Type 0) : Type 0 where
  pub place : Place
  pub round : Round D
  pub disk : D
  pub wanted : Blanks
  pub given : Blanks
  pub back : Result Core Refusal
  pub bad : Bool

module _ {D : Type 0} (G : disks.Ghosts D) (calls_left : D → Option ℕ) where
  -- a run of the script on a new disk that fails after this many calls left this
  pub record IsRunAfter (script : Contents) (calls : ℕ) (round : Round D) : Type 0 where
    pub first : D
    pub fails : calls_left first ≡ Some calls
    pub empty : G.honest first → (half : Half) → G.file first half ≡ clean []
    pub leaves : IsRound G (arrays_of script) first round
    pub lines : IsRunOf script round
    pub processors : is_processor_count (processors_of script) ≡ true

  -- The run was stopped, and its disk crashed. The restart was on the script's processors, with
  -- enough of the blanks that the disk wanted, and was reported as bad if and only if it was.
  pub record IsTried (script : Contents) (t : Tried D) : Type 0 where
    pub run : IsRunAfter script t.place.0 t.round
    pub stopped : t.round.is_stopped ≡ true
    pub crash : IsCrash G t.place.1 t.round.disk t.disk
    pub wanted : AreWanted G t.disk t.wanted
    pub enough : IsEnough t.given t.wanted
    pub restart : IsRestart G (processors_of script) t.given t.disk t.back
    pub judged : (t.bad ≡ false)
        ↔ IsGood (arrays_of script) t.round.events.items t.round.durable t.back

  -- the crashes at these places were tried, in this order, and are counted
  pub record AreTried (script : Contents) (at : List Place) (line : LabLine) : Type 0 where
    pub tried : List (Tried D)
    pub each : AllByRecursion (IsTried script) tried
    pub where_they_are : map (λ t. t.place) tried ≡ at
    pub outcomes : line.outcomes ≡ length tried
    pub bad : line.bad ≡ count_by (λ t. t.bad) tried

  -- a run on a disk that fails after this many calls isn't stopped
  pub record IsUnstopped (script : Contents) (calls : ℕ) : Type 0 where
    pub round : Round D
    pub run : IsRunAfter script calls round
    pub unstopped : round.is_stopped ≡ false

  -- What is found for a script: all crashes of a number of stops, and the first ones of the next
  -- stop, at which a run wasn't stopped. It would take 2^60 stops to end earlier.
  pub record Finds (script : Contents) (line : LabLine) : Type 0 where
    pub more : ℕ
    pub tried : AreTried script (places line.stops ++ take more (places_at line.stops)) line
    pub ended : IsUnstopped script line.stops ⊎ (line.stops ≡ most_stops)

  -- what one trial gives: the run wasn't stopped, or the restart after its crash is bad or not
  abbrev pub ComesTo : Contents → Place → Option Bool → Type 0
  ComesTo script place None = IsUnstopped script place.0
  ComesTo script place (Some bad) = (t : Tried D) × IsTried script t × (t.place ≡ place)
      × (t.bad ≡ bad)

module _ {D : Type 0} (G : disks.Ghosts D) where
  -- why nothing is found: there can't be this number of processors; there were too few blanks for a
  -- run or a restart; an image of a store that came back would pass a limit; a new disk has an open
  -- half, and isn't honest; a disk has failed once more, by its own count; or out of memory
  abbrev pub IsNotFound : Contents → Refusal → Type 0
  IsNotFound script BadPes = is_processor_count (processors_of script) ≡ false
  IsNotFound script (BlanksWanted kind count) = (given : Blanks) × (wanted : Blanks)
      × IsLeastShort given wanted kind count
  IsNotFound script ImageFull = (disk : D) × (given : Blanks) × (core : Core)
      × IsRestart G (processors_of script) given disk (Ok core) × PassesLimit core
  IsNotFound script AlreadyHere = (disk : D) × ¬ G.honest disk
  IsNotFound script Device = (old : D) × (new : D)
      × (G.faults new ≡ faults_after false (G.faults old))
  IsNotFound script Memory = ⊤
  IsNotFound script _ = ⊥
