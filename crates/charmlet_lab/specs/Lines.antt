-- What the lines of a script do to a store.
use Rattle.std.specs.Prelude.{◌≡◌, ◌⊎◌, ℕ, zero, suc, ◌+◌, Bool, true, false, List, [], ◌∷◌, Option, Some, None}
use Rattle.charmlet_model.specs.declared.event.Event.{Event}
use Rattle.charmlet_model.specs.declared.kind.Kind.{Kind}
use Rattle.charmlet_model.specs.declared.names.Elem.{Elem}
use Rattle.charmlet_model.specs.declared.names.MsgId.{MsgId}
use Rattle.charmlet_model.specs.declared.refusal.Refusal.{Refusal}
use Rattle.charmlet_model.specs.declared.refusal.Refusal.TheVariants as refusals
use Rattle.charmlet_model.specs.declared.step.Answer.{Answer}
use Rattle.charmlet_model.specs.declared.step.Answer.TheVariants as answers
use Rattle.charmlet_model.specs.declared.step.Step.TheVariants as steps
use Rattle.charmlet_model.specs.Core.{present}
use Rattle.charmlet_model.specs.Run.{Does, IsDelivered, IsNotDelivered, StoreView}
use Rattle.charmlet_history.specs.Kept.{next_in}
use Rattle.charmlet_persist.specs.Writes.NewStores.{new_core}
use Rattle.charmlet_requests.specs.Handlers.{IsTarget}
use Rattle.charmlet_script.specs.declared.script.Line.{Line}
use Rattle.charmlet_script.specs.declared.script.Line.TheVariants.{Supply, Drain, State, Pending, Census}
use Rattle.charmlet_script.specs.declared.script.Line.TheVariants as lines
use Rattle.charmlet_script.specs.Script.{Contents, processors_of}
use Rattle.charmlet_stock.specs.Stock.{part_of}
use Rattle.charmlet_script_output.specs.Named.{Names, named_by}
use Rattle.charmlet_lab.specs.declared.round.Round.{Round}
use Rattle.charmlet_lab.specs.Rounds.{arrays_of}

-- `count` more blanks of a kind
pub record IsSupplied (kind : Kind) (count : ℕ) (old new : StoreView) : Type 0 where
  pub core : new.core ≡ old.core
  pub blanks : (k : Kind) → new.blanks k ≡ old.blanks k + part_of kind count k

-- the oldest message that can be delivered is delivered on its processor
abbrev pub DeliversNext : StoreView → StoreView → Type 0
DeliversNext old new = (processor : ℕ) × (id : MsgId)
    × (next_in old.core ≡ Some (processor, id)) × IsDelivered old processor id new

-- the answer isn't the refusal for want of memory
abbrev pub HadMemory : Answer → Type 0
HadMemory (answers.Refused refusals.Memory) = ⊥
HadMemory answer = Unit {0}

-- no message can be delivered, or the delivery of the oldest one that can be is refused, and not
-- for want of memory
abbrev pub DeliversNone : StoreView → StoreView → Type 0
DeliversNone old new = ((next_in old.core ≡ None) × (new ≡ old))
    ⊎ ((processor : ℕ) × (id : MsgId) × (refusal : Refusal)
    × (next_in old.core ≡ Some (processor, id)) × IsNotDelivered old processor id refusal new
    × HadMemory (answers.Refused refusal))

-- up to n deliveries one after another, until there is none
abbrev pub Drains : ℕ → StoreView → StoreView → Type 0
Drains zero old new = new ≡ old
Drains (suc n) old new = ((mid : StoreView) × DeliversNext old mid × Drains n mid new)
    ⊎ DeliversNone old new

-- A line that has the memory which it wants leads from one store to another. One that shows
-- something changes nothing.
abbrev pub Follows : Names → StoreView → Line → StoreView → Type 0
Follows named old (Supply kind count) new = IsSupplied kind count old new
Follows named old (Drain count) new = Drains count old new
Follows named old (State elem) new = new ≡ old
Follows named old Pending new = new ≡ old
Follows named old Census new = new ≡ old
Follows named old (lines.Step step) new = (answer : Answer) × Does old step answer new
    × HadMemory answer
Follows named old (lines.Call client number name index words) new =
    (to : Elem) × (entry : ℕ) × IsTarget (present old.core) index (named name) to entry
    × (answer : Answer) × Does old (steps.Request client number to entry words) answer new
    × HadMemory answer

-- lines are run one after another, up to the first failure of the device, which halts the store
abbrev pub AreRun : Names → StoreView → List Line → StoreView → Type 0
AreRun named old [] new = new ≡ old
AreRun named old (line ∷ lines) new =
    ((old.core.halted ≡ true) × (new ≡ old))
    ⊎ ((old.core.halted ≡ false) × (next : StoreView) × Follows named old line next
    × AreRun named next lines new)

-- before the first line: the script's processors and arrays, and nothing else
abbrev pub history_opening : Contents → StoreView
history_opening script = record {
  core = new_core (processors_of script) (arrays_of script);
  blanks = λ _. 0;
}

-- A store that was made has run the script's lines up to the first failure of the device. These are
-- its events, `durable` of them are durable, and the run is stopped if and only if the device
-- failed. If no store was reported as made, no line was run.
abbrev pub Leaves : Contents → (events : List Event) → (durable : Option ℕ) → (stopped : Bool) →
    Type 0
Leaves script events (Some durable) stopped = (last : StoreView)
    × AreRun (named_by script.handlers) (history_opening script) script.lines last
    × (events ≡ last.core.history) × (durable ≡ last.core.durable) × (stopped ≡ last.core.halted)
Leaves script events None stopped = (events ≡ []) × (stopped ≡ true)

-- a run leaves what its script says
abbrev pub IsRunOf : {D : Type 0} → Contents → Round D → Type 0
IsRunOf script round = Leaves script round.events.items round.durable round.is_stopped
