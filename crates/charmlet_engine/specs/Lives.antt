-- What has come of a store over several lives, of which each but the last ended in a crash.
use Rattle.std.specs.Prelude.{◌≡◌, ℕ, ◌+◌, ◌≤◌, List, [], ◌∷◌, ◌++◌, length, take}
use Rattle.charmlet_model.specs.declared.event.Event.{Event}
use Rattle.charmlet_model.specs.declared.step.Step.{Step}
use Rattle.charmlet_model.specs.declared.step.Answer.{Answer}
use Rattle.charmlet_model.specs.World.{World, world, IsLegal}
use Rattle.charmlet_model.specs.Core.{Core, present}
use Rattle.charmlet_model.specs.RunLaws.{AllTold}
use Rattle.charmlet_model.specs.Sound.{IsSound, opened}
use Rattle.charmlet_recover.specs.Restart.{OpensWithin}
use Rattle.charmlet_engine.specs.Outcomes.{Onward}

-- a store's beginning, which is a world that came after so many events; the events of its earlier
-- lives that came back; and all steps so far, each with its answer
pub record Past : Type 0 where
  pub beginning : World
  pub before : ℕ
  pub kept : List Event
  pub steps : List Step
  pub answers : List Answer

-- of a store in its first life, where no step was run yet
abbrev pub no_past : Core → Past
no_past core = record {
  beginning = core.opening;
  before = core.before;
  kept = [];
  steps = [];
  answers = [];
}

-- these steps were answered so
abbrev pub with_run : Past → List Step → List Answer → Past
with_run past steps answers = record past {
  steps = past.steps ++ steps;
  answers = past.answers ++ answers;
}

-- these events of a life came back
abbrev pub with_kept : Past → List Event → Past
with_kept past events = record past { kept = past.kept ++ events }

-- The store opened with the world after what came back of its earlier lives. All that was told in
-- any life is true of that and of what is durable now.
pub record Remembers (past : Past) (core : Core) : Type 0 where
  pub opening : core.opening ≡ world past.beginning past.kept
  pub before : core.before ≡ past.before + length past.kept
  pub legal : IsLegal past.beginning past.before past.kept
  pub told : AllTold past.beginning (past.kept ++ take core.durable core.history)
      past.steps past.answers

-- A store that was on its way from one core to the next comes back in this one: some of the history
-- came back, with all that was durable at first.
pub record ComesBack (past : Past) (old new back : Core) : Type 0 where
  pub kept : ℕ
  pub durable_kept : old.durable ≤ kept
  pub none_invented : kept ≤ length new.history
  pub remembers : Remembers (with_kept past (take kept new.history)) back

-- ---- any number of lives

-- what happens to a store: steps are run, and answered; or a crash ends its life, and a restart
-- begins the next one
pub data Turn : Type 0 where
  Run : (steps : List Step) (answers : List Answer) → Turn
  Restart : Turn

-- a run leads from one core to a later one, and all that it tells is true of what is durable then
pub record HasRun (steps : List Step) (answers : List Answer) (old new : Core) : Type 0 where
  pub onward : Onward old new
  pub sound : IsSound new
  pub told : AllTold new.opening (take new.durable new.history) steps answers

-- a crash ends a life while it goes from one core to the next, and a restart opens with the world
-- after some of its history, all durable events among it
pub record HasRestarted (old new back : Core) : Type 0 where
  pub onward : Onward old new
  pub sound : IsSound new
  pub within : OpensWithin new.opening new.before new.history old.durable back
  pub opens : back ≡ opened back.processors back.opening back.before back.generation back.log_end

-- turns one after another lead from a store with its past to a later one
abbrev pub Lives : Past → Core → List Turn → Past → Core → Type 0
Lives past core [] last end = (last ≡ past) × (end ≡ core)
Lives past core (Run steps answers ∷ turns) last end =
    (next : Core) × HasRun steps answers core next
    × Lives (with_run past steps answers) next turns last end
Lives past core (Restart ∷ turns) last end =
    (new : Core) × (next : Core) × (lives : HasRestarted core new next)
    × Lives (with_kept past (take lives.within.kept new.history)) next turns last end

-- whatever happens to a store, it remembers its past
abbrev pub LivesAreRemembered : Type 0
LivesAreRemembered = (past last : Past) (core end : Core) (turns : List Turn) →
    Remembers past core → Lives past core turns last end → Remembers last end

-- and its present world is the one after what came back of its earlier lives and after the events
-- of this one
abbrev pub PresentIsRemembered : Type 0
PresentIsRemembered = (past : Past) (core : Core) → Remembers past core →
    present core ≡ world past.beginning (past.kept ++ core.history)

-- of any store, nothing that came before it has to be remembered
abbrev pub BeginningsAreRemembered : Type 0
BeginningsAreRemembered = (core : Core) → IsSound core → Remembers (no_past core) core
