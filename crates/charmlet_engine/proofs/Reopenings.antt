-- Stores that came back and don't go on yet.
use Rattle.std.proofs.Common.{◌≡◌, ◌≢◌, ◌⊎◌, inl, inr, ℕ, ◌+◌, Bool, true, false, Result, Ok, Err, IfErr, IfOk, refl, sym, ap, subst, ◌∙◌, if◌then◌else◌}
use Rattle.charmlet_model.specs.declared.refusal.Refusal.{Refusal}
use Rattle.charmlet_model.specs.declared.refusal.Refusal.TheVariants as refusals
use Rattle.charmlet_model.specs.Core.{Blanks, Core}
use Rattle.charmlet_model.specs.Sound.{opened}
use Rattle.charmlet_chare.specs.declared.chare.Chare as chares
use Rattle.charmlet_disk.specs.declared.disk.Disk as disks
use Rattle.charmlet_disk.specs.Calls.{AfterCall}
use Rattle.charmlet_disk.specs.Disk.{IsSettled, LeavesOnly, faults_after}
use Rattle.charmlet_disk.specs.File.{CrashBytes, MayLeave}
use Rattle.charmlet_halves.specs.Answers.{is_no_failure}
use Rattle.charmlet_halves.specs.declared.halves.Halves.{Halves}
use Rattle.charmlet_halves.specs.Halves.{disk_of, taken_half}
use Rattle.charmlet_history.specs.Kept.{core_in}
use Rattle.charmlet_persist.specs.Writes.Rest.{HasOldOrSealed}
use Rattle.charmlet_locate.specs.Locations.{is_processor_count}
use Rattle.charmlet_recovery.specs.Restarts.{image_end}
use Rattle.charmlet_stock.specs.declared.stock.Stock.{Stock}
use Rattle.charmlet_stock.specs.Stock.{blanks_in, supplied_to}
use Rattle.charmlet_store.specs.Store.{blanks_of, supplied_in}
use Rattle.charmlet_replay.specs.Unused.{IsUnused}
use Rattle.charmlet_recover.specs.declared.restarted.NotRestarted.{NotRestarted}
use Rattle.charmlet_recover.specs.declared.restarted.Recovered.{Recovered}
use Rattle.charmlet_recover.specs.Restart as recovers
use Rattle.charmlet_recover.specs.Restart.{AnswersBy, bytes_on}
use Rattle.charmlet_engine.specs.Engine.{EngineShown, HasImage, core_of, supplied_of, view_of}
use Rattle.charmlet_engine.specs.Outcomes.{is_lawful_now}
use Rattle.charmlet_engine.specs.Reopened.{IsReopened, IsRestart, ReopenedShown, core_to_be, is_going_refusal, shown_in}
use Rattle.charmlet_engine.specs.Restarted.{CameBackOn, IsOpenedOn, core_or_refusal, disk_after, going_refusal, gone_on}
use Rattle.charmlet_engine.proofs.Renewed.{IsGoingRefusal, going_refused, gone_opened, opened_is}
use Rattle.charmlet_engine.proofs.Restarts.{all_back, all_came_back, all_from_files, all_lawful, all_refused, all_remember, all_settled, all_unwritten, current_where, engine_is, leaves_by, on_disk, sealed_same, unwritten_at}

-- there are so many processors unless that is refused
counted_by : (b : Bool) → (b ≡ false → ⊥) → b ≡ true
counted_by true never = refl
counted_by false never = absurd (never refl)

pub counted_where : (processors : ℕ) → (is_processor_count processors ≡ false → ⊥) → is_processor_count processors ≡ true
counted_where processors never = counted_by (is_processor_count processors) never

-- ---- what a store is once it goes on

-- a store that opened so is open on as many processors as it has
pub opens_on_its_own : (processors : ℕ) (core : Core) → IsOpenedOn processors core → IsOpenedOn core.processors core
opens_on_its_own processors core opens = opens ∙ ap (λ (n : ℕ). opened n core.opening core.before core.generation core.log_end) (sym (ap (λ (k : Core). k.processors) opens))

module _ (is_current : Bool) (was : Core) (opens : IsOpenedOn was.processors was) where
  abbrev next_generation : ℕ
  next_generation = if is_current then was.generation else was.generation + 1

  abbrev next_end : ℕ
  next_end = if is_current then was.log_end else image_end was.opening

  to_be_is : gone_on is_current was ≡ opened was.processors was.opening was.before next_generation next_end
  to_be_is = gone_opened was.processors was opens is_current

  pub generation_to_be : (gone_on is_current was).generation ≡ next_generation
  generation_to_be = ap (λ (k : Core). k.generation) to_be_is

  pub before_to_be : (gone_on is_current was).before ≡ was.before
  before_to_be = ap (λ (k : Core). k.before) to_be_is

  pub processors_to_be : (gone_on is_current was).processors ≡ was.processors
  processors_to_be = ap (λ (k : Core). k.processors) to_be_is

  -- nothing has happened in it then either
  pub opened_to_be : (core : Core) → core ≡ gone_on is_current was → IsOpenedOn core.processors core
  opened_to_be core is = opens_on_its_own was.processors core (opened_is was.processors was.opening was.before next_generation next_end core (is ∙ to_be_is))

-- ---- why it doesn't go on

going_known : (is_current : Bool) (core : Core) (refusal : Refusal) → IsGoingRefusal is_current core refusal → is_going_refusal refusal ≡ true
going_known is_current core refusal going = elim going [
  | inl is ↦ ap is_going_refusal is
  | inr more ↦ elim more [ inl is ↦ ap is_going_refusal is | inr full ↦ ap is_going_refusal full.0 ]
]

module _ {D C : Type 0} {H : chares.Ghosts C} where
  pub all_known : (is_current : Bool) (core : Core) (r : Result (EngineShown D) (NotRestarted D C H)) → AnswersBy (going_refusal is_current core) (core_or_refusal r) → IfErr r (λ refused. is_going_refusal refused.refusal ≡ true)
  all_known is_current core (Ok engine) so = tt
  all_known is_current core (Err refused) so = going_known is_current core refused.refusal (going_refused Core is_current core refused.refusal so)

  pub all_opened : (is_current : Bool) (was : Core) → IsOpenedOn was.processors was → (r : Result (EngineShown D) (NotRestarted D C H)) → IfOk r (λ engine. core_of engine ≡ gone_on is_current was) → IfOk r (λ engine. IsOpenedOn (core_of engine).processors (core_of engine))
  all_opened is_current was opens (Ok engine) gone = opened_to_be is_current was opens (core_of engine) gone
  all_opened is_current was opens (Err refused) gone = tt

  pub all_on : {G : disks.Ghosts D} (halves : Halves D G) (r : Result (EngineShown D) (NotRestarted D C H)) → CameBackOn halves r → IfOk r (λ engine. engine.half ≡ taken_half halves)
  all_on halves (Ok engine) on = on.half
  all_on halves (Err refused) on = tt

  pub all_written : {G : disks.Ghosts D} (halves : Halves D G) (core : Core) (r : Result (EngineShown D) (NotRestarted D C H)) (is_current : Bool) → (is_current ≡ true → CameBackOn halves r) → (is_current ≡ false → LeavesOnly G.moment G.since (disk_of halves) (disk_after r) (HasOldOrSealed core)) →
      (disk_after r ≡ disk_of halves) ⊎ LeavesOnly G.moment G.since (disk_of halves) (disk_after r) (HasOldOrSealed core)
  all_written halves core r true stays stored = inl (on_disk halves r (stays refl))
  all_written halves core r false stays stored = inr (stored refl)

-- ---- what is promised of a restart

-- what a store that came back answers where it is to go on
pub record GoneOn {D C : Type 0} {H : chares.Ghosts C} (G : disks.Ghosts D) (its : ReopenedShown D) (r : Result (EngineShown D) (NotRestarted D C H)) : Type 0 where
  pub core : IfOk r (λ engine. core_of engine ≡ core_to_be its)
  pub blanks : IfOk r (λ engine. (view_of engine).blanks ≡ blanks_of its.store)
  pub supplied : IfOk r (λ engine. supplied_of engine ≡ supplied_in its.store)
  pub stays : its.is_current ≡ true → IfOk r (λ engine. engine.half ≡ its.half)
  pub still : its.is_current ≡ true → disk_after r ≡ its.disk
  pub image : G.honest its.disk → its.is_current ≡ false → IfOk r (HasImage G)
  pub now : G.honest its.disk → IfOk r (λ engine. (outcome : CrashBytes) → MayLeave (G.file engine.disk) outcome → is_lawful_now (core_of engine) outcome)
  pub settled : G.honest its.disk → IfOk r (λ engine. IsSettled (G.file engine.disk))
  pub answer : AnswersBy (going_refusal its.is_current (core_in its.store.history)) (core_or_refusal r)
  pub unused : IfErr r (λ refused. IsUnused refused.blanks)
  pub kept : IfErr r (λ refused. supplied_to refused.blanks ≡ supplied_in its.store)
  pub refused : IfErr r (λ refused. refused.refusal ≢ refusals.Device → refused.disk ≡ its.disk)
  pub written : G.honest its.disk → (disk_after r ≡ its.disk) ⊎ LeavesOnly G.moment G.since its.disk (disk_after r) (HasOldOrSealed (core_in its.store.history))
  pub disk : AfterCall G its.disk (disk_after r) (is_no_failure (core_or_refusal r))

module _ {D C : Type 0} {H : chares.Ghosts C} (G : disks.Ghosts D) (processors : ℕ) (blanks : Stock C H) (first : D) (reopened : ReopenedShown D) (its : IsReopened G processors blanks first reopened)
    (r : Result (EngineShown D) (NotRestarted D C H)) (gone : GoneOn G reopened r) where
  abbrev back : Recovered D C G
  back = its.back

  abbrev given : Blanks
  given = blanks_in blanks

  abbrev outcome : CrashBytes
  outcome = bytes_on (G.file first)

  abbrev mid : D
  mid = disk_of back.halves

  on : GoneOn G (shown_in back) r
  on = subst (λ (v : ReopenedShown D). GoneOn G v r) its.is gone

  still : G.honest first → G.honest mid
  still honest = its.after.honest.0 honest

  pub restarted : IsRestart G processors blanks first r
  restarted = record {
    ok = all_came_back processors back its.came.opens given (supplied_in back.store) (supplied_to blanks) its.came.read its.came.supplied_are r on.core on.blanks on.supplied;
    files = λ honest. (let from = its.files honest in all_from_files processors back its.came.opens given outcome from.taken_from from.found r on.core on.blanks on.stays (on.image (still honest)) (on.now (still honest)));
    remembers = λ honest past old new remembered onward sound lawful. all_remember processors back its.came.opens past old new remembered onward sound (its.lawful honest new.opening new.before new.history old.durable lawful) r on.core;
    lawful = λ honest w before history durable lawful. all_lawful processors back its.came.opens w before history durable given outcome (its.files honest).taken_from (its.lawful honest w before history durable lawful) r on.core on.answer;
    answer = λ honest good. subst (λ why. AnswersBy why (core_or_refusal r)) (sym (engine_is processors back its.came.opens given outcome (its.files honest).taken_from (its.fits honest))) on.answer;
    bad = λ bad. (let no : true ≡ false = sym its.counted ∙ bad in absurd cc);
    err = all_refused processors back its.came.opens blanks its.came.read r on.answer (all_back blanks its.unused (supplied_in back.store) its.came.supplied_are r on.unused on.kept);
    leaves = λ honest.
        let from = its.files honest in
        let leaves = its.leaves honest in
        let read = leaves.unwritten in
        record {
          settled = all_settled {G = G} back.halves r (leaves.settled refl) (on.settled (still honest)) on.refused;
          still = λ none. unwritten_at G first mid read (disk_after r) (on.still (current_where given outcome back from.taken_from none));
          unwritten = all_unwritten G first mid read r on.refused;
          any_moment = leaves_by G first mid read (disk_after r) (recovers.core_of back) (on.written (still honest))
              (λ o has. sealed_same processors back its.came.opens outcome o from.found has);
        };
    after = record {
      honest = ((λ h. on.disk.honest.0 (its.after.honest.0 h)), (λ h. its.after.honest.1 (on.disk.honest.1 h)));
      counted = on.disk.counted ∙ ap (faults_after (is_no_failure (core_or_refusal r))) its.after.counted;
    };
  }
