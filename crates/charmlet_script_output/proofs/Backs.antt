-- Stores that came back for a script.
use Rattle.std.proofs.Common.{◌≡◌, ◌≢◌, ℕ, Bool, true, false, Err, List, refl, ap, ◌∙◌, arith}
use Rattle.charmlet_model.specs.declared.event.Event.{Event}
use Rattle.charmlet_model.specs.declared.kind.Kind.{Kind}
use Rattle.charmlet_model.specs.declared.refusal.Refusal.TheVariants as refusals
use Rattle.charmlet_model.specs.Core.{Blanks, Core}
use Rattle.charmlet_model.specs.Sound.{IsSound}
use Rattle.charmlet_model.specs.World.{World}
use Rattle.charmlet_chare.specs.declared.chare.Chare as chares
use Rattle.charmlet_disk.specs.declared.disk.Disk as disks
use Rattle.charmlet_disk.specs.Calls.{IsUnwritten}
use Rattle.charmlet_disk.specs.Disk.{IsSettled, LeavesOnly, faults_after}
use Rattle.charmlet_disk.specs.File.{MayLeave, CrashBytes}
use Rattle.charmlet_locate.specs.Locations.{is_processor_count}
use Rattle.charmlet_halves.specs.Answers.{is_no_failure}
use Rattle.charmlet_recovery.specs.Outcomes.{IsLawful}
use Rattle.charmlet_recovery.specs.Restarts.{engine_refusal, wants_image}
use Rattle.charmlet_stock.specs.declared.pile.Tally.{Tally}
use Rattle.charmlet_stock.specs.declared.stock.Stock.{Stock}
use Rattle.charmlet_stock.specs.Stock.{blanks_in, supplied_to}
use Rattle.charmlet_replay.specs.Unused.{IsUnused}
use Rattle.charmlet_engine.specs.restarted.NotRestarted.{NotRestarted}
use Rattle.charmlet_engine.specs.Restart.{AnswersBy, bytes_on, is_after_sync}
use Rattle.charmlet_engine.specs.Engine.{EngineShown, core_of, supplied_of, view_of}
use Rattle.charmlet_engine.specs.Lives.{ComesBack, Past, Remembers}
use Rattle.charmlet_engine.specs.Outcomes.{Onward, is_lawful_now, is_lawful_since}
use Rattle.charmlet_engine.specs.Restarted.{IsFound, IsHandedBack, IsLackOrFull, IsLeftByRestart, IsOpenedOn, IsTakenFrom, is_engine_refusal}
use Rattle.charmlet_script_output.specs.Back.{IsBack, WasNotRestarted}
use Rattle.charmlet_script_output.specs.Ledgers.{ledger_in}
use Rattle.charmlet_script_output.proofs.Creations.{failure_said}

module _ {D : Type 0} (G : disks.Ghosts D) where
  -- an engine that came back
  pub is_back : (processors : ℕ) (given : Blanks) (first : D) (engine : EngineShown D) → IsOpenedOn processors (core_of engine) →
      (G.honest first → IsFound (bytes_on (G.file first)) (core_of engine)) →
      (G.honest first → IsTakenFrom given (bytes_on (G.file first)) (view_of engine)) →
      supplied_of engine ≡ given →
      (G.honest first → (past : Past) (old new : Core) → Remembers past old → Onward old new → IsSound new → is_lawful_since old new (bytes_on (G.file first)) → ComesBack past old new (core_of engine)) →
      G.faults engine.disk ≡ G.faults first → (G.honest first → G.honest engine.disk) × (G.honest engine.disk → G.honest first) → (G.honest first → IsSettled (G.file engine.disk)) →
      (G.honest first → (o : CrashBytes) → MayLeave (G.file engine.disk) o → is_lawful_now (core_of engine) o) →
      (G.honest first → wants_image (bytes_on (G.file first)) ≡ false → IsUnwritten G first engine.disk) →
      (G.honest first → LeavesOnly G.moment G.since first engine.disk (IsLeftByRestart (G.file first))) → IsBack G processors given first (ledger_in engine)
  is_back processors given first engine opens found taken supplied remembers counted honest settled now still any_moment = record {
    opens = opens;
    found = found;
    left = taken;
    supplied = λ kind. ap (λ (f : Kind → ℕ). f kind) supplied;
    remembers = remembers;
    counted = counted;
    honest = honest;
    settled = settled;
    now = now;
    still = still;
    any_moment = any_moment;
  }

-- there are 1 to 64 processors where a store came back
pub counted_processors : (b : Bool) → (b ≡ false → ⊥) → b ≡ true
counted_processors true never = refl
counted_processors false never = absurd (never refl)

-- blanks of which none was used are all that were supplied
pub all_given : {C : Type 0} {H : chares.Ghosts C} (stock : Stock C H) → IsUnused stock → blanks_in stock ≡ supplied_to stock
all_given stock unused =
    let each : (kind : Kind) → blanks_in stock kind ≡ supplied_to stock kind = λ kind. ap (λ (t : Tally). t.in_stock) (unused.all kind) ∙ omega arith in
    λ i kind. each kind i

module _ {D C : Type 0} (G : disks.Ghosts D) {H : chares.Ghosts C} where
  -- no store came back
  pub was_not_restarted : (processors : ℕ) (given : Blanks) (first : D) (blanks : Stock C H) (refused : NotRestarted D C H) →
      is_engine_refusal refused.refusal ≡ true → (is_processor_count processors ≡ false → IsHandedBack first blanks (Err refused)) → (refused.refusal ≡ refusals.BadPes → is_processor_count processors ≡ false) →
      (G.honest first → is_processor_count processors ≡ true → AnswersBy {X = Core} (engine_refusal given (bytes_on (G.file first))) (Err refused.refusal)) →
      (G.honest first → (w : World) (before : ℕ) (history : List Event) (durable : ℕ) → IsLawful w before history durable (bytes_on (G.file first)) → IsLackOrFull (bytes_on (G.file first)) refused.refusal) →
      (G.honest first → wants_image (bytes_on (G.file first)) ≡ false → IsUnwritten G first refused.disk) →
      (G.honest first → refused.refusal ≢ refusals.Device → IsUnwritten G first refused.disk) →
      (G.honest first → is_after_sync {X = Core} (Err refused.refusal) ≡ true → IsSettled (G.file refused.disk)) →
      (G.honest first → LeavesOnly G.moment G.since first refused.disk (IsLeftByRestart (G.file first))) →
      G.faults refused.disk ≡ faults_after (is_no_failure {X = Core} (Err refused.refusal)) (G.faults first) → WasNotRestarted G processors given first refused.disk refused.refusal
  was_not_restarted processors given first blanks refused kind bad only_bad cause lawful still unwritten settled any_moment counted = record {
    kind = kind;
    bad = ((λ is. only_bad is), (λ is. (bad is).0));
    cause = cause;
    lawful = lawful;
    still = still;
    unwritten = unwritten;
    settled = settled;
    any_moment = any_moment;
    counted = counted ∙ ap (λ (b : Bool). faults_after b (G.faults first)) (failure_said Core refused.refusal);
  }
