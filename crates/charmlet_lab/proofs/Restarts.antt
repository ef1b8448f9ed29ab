-- Restarts of the laboratory, as the engine answers them.
use Rattle.std.proofs.Common.{◌≡◌, ◌⊎◌, inl, inr, Bool, ℕ, true, false, Option, Some, None, Result, Ok, Err, refl, sym, ap, subst, ◌∙◌}
use Rattle.std.specs.Prelude.{IfErr, IfOk, option_map}
use Rattle.std.specs.Result.{result_err}
use Rattle.charmlet_model.specs.declared.kind.Kind.{Kind}
use Rattle.charmlet_model.specs.declared.refusal.Refusal.{Refusal}
use Rattle.charmlet_model.specs.declared.refusal.Refusal.TheVariants as refusals
use Rattle.charmlet_model.specs.Core.{Blanks, Core}
use Rattle.charmlet_model.specs.KindVersion.{AreNewest}
use Rattle.charmlet_model.specs.World.{World}
use Rattle.charmlet_model.proofs.Upgrades.{up_is_newest}
use Rattle.charmlet_chare.specs.declared.chare.Chare as chares
use Rattle.charmlet_disk.specs.declared.disk.Disk as disks
use Rattle.charmlet_disk.specs.Disk.{SameFiles, faults_after}
use Rattle.charmlet_disk.specs.File.{File}
use Rattle.charmlet_halves.specs.Answers.{is_no_failure}
use Rattle.charmlet_locate.specs.Locations.{is_processor_count}
use Rattle.charmlet_recovery.specs.Blanks.{least_short}
use Rattle.charmlet_recovery.specs.Meanings.{meaning}
use Rattle.charmlet_recovery.specs.Recovered.{log_of}
use Rattle.charmlet_recovery.specs.RestartLaws.{IsEnough, Lacks}
use Rattle.charmlet_recovery.specs.Restarts.{engine_refusal}
use Rattle.charmlet_recovery.proofs.Restarting.{least_short_is_found}
use Rattle.charmlet_recovery.proofs.Saving.{newest-world, went_on}
use Rattle.charmlet_stock.specs.declared.stock.Stock.{Stock}
use Rattle.charmlet_engine.specs.restarted.NotRestarted.{NotRestarted}
use Rattle.charmlet_engine.specs.Restart.{AnswersBy, bytes_on}
use Rattle.charmlet_script.specs.Script.{Contents, processors_of}
use Rattle.charmlet_engine.specs.Engine.{EngineShown, core_of, view_of, world_of}
use Rattle.charmlet_engine.specs.Restarted.{IsFound, IsHandedBack, IsOpenedOn, IsReadFrom, core_or_refusal, is_engine_refusal}
use Rattle.charmlet_lab.specs.Judged.{IsNotJudged}
use Rattle.charmlet_lab.specs.Restarts.{IsKnown, IsNotTried, IsRestart}
use Rattle.charmlet_lab.proofs.Causes.{failure_counted}

-- what holds if two facts hold, of whatever is there
pub if_both : {T E : Type 0} (r : Result T E) (P Q R : T → Type 0) → ((x : T) → P x → Q x → R x) → IfOk r P → IfOk r Q → IfOk r R
if_both (Ok x) P Q R follows p q = follows x p q
if_both (Err e) P Q R follows p q = tt

-- a restart that is refused
abbrev no_store : Refusal → Result Core Refusal
no_store refusal = Err refusal

-- what is known is refused by its cause alone
by_cause : (why : Option Refusal) (back : Result Core Refusal) → IsKnown back → AnswersBy why back → result_err back ≡ why
by_cause why (Ok core) known is = sym is
by_cause why (Err refusals.Memory) known is = absurd (known.0 refl)
by_cause why (Err refusals.Device) known is = absurd (known.1 refl)
by_cause why (Err refusal) known is = sym is

module _ {D C : Type 0} {H : chares.Ghosts C} where
  -- what the engine answers to a restart is a restart, if it is known
  pub is_restart : (G : disks.Ghosts D) (processors : ℕ) (given : Blanks) (disk : D) (blanks : Stock C H) (r : Result (EngineShown D) (NotRestarted D C H)) →
      IfOk r (λ engine. IsOpenedOn processors (core_of engine)) →
      (G.honest disk → IfOk r (λ engine. IsFound (bytes_on (G.file disk)) (core_of engine))) →
      (is_processor_count processors ≡ false → IsHandedBack disk blanks r) →
      IfErr r (λ refused. refused.refusal ≡ refusals.BadPes → is_processor_count processors ≡ false) →
      (G.honest disk → is_processor_count processors ≡ true → AnswersBy (engine_refusal given (bytes_on (G.file disk))) (core_or_refusal r)) →
      IfErr r (λ refused. is_engine_refusal refused.refusal ≡ true) → IsKnown (core_or_refusal r) → IsRestart G processors given disk (core_or_refusal r)
  is_restart G processors given disk blanks (Ok engine) opens found bad only answer refused known = record {
    opens = opens;
    found = found;
    bad = λ no. absurd (bad no);
    only_bad = λ told. absurd (let no : ⊥ = cc in no);
    cause = λ honest good. by_cause (engine_refusal given (bytes_on (G.file disk))) (Ok (core_of engine)) known (answer honest good);
    refusals = tt;
    known = known;
  }
  is_restart G processors given disk blanks (Err refused) opens found bad only answer told known = record {
    opens = tt;
    found = λ honest. tt;
    bad = λ no. ap no_store (bad no).0;
    only_bad = λ is. only (let same : refused.refusal ≡ refusals.BadPes = cc in same);
    cause = λ honest good. by_cause (engine_refusal given (bytes_on (G.file disk))) (Err refused.refusal) known (answer honest good);
    refusals = told;
    known = known;
  }

  -- whatever the disk said, the store goes on in the newest versions
  pub goes_on_newest : (given : Blanks) (r : Result (EngineShown D) (NotRestarted D C H)) → IfOk r (λ engine. IsReadFrom given (view_of engine)) → IfOk r (λ engine. AreNewest (world_of engine).manifest)
  goes_on_newest given (Ok engine) read =
      let core = core_of engine in
      let half = read.saved in
      let went = went_on (meaning half.image half.header.events (log_of half)) core.opening core.before read.comes.means in
      newest-world core.opening core.history (subst (λ (w : World). AreNewest w.manifest) (sym went.is) (up_is_newest went.old))
  goes_on_newest given (Err refused) read = tt

-- of the same files it is the same restart
pub same_restart : {D : Type 0} (G : disks.Ghosts D) (processors : ℕ) (given : Blanks) (old new : D) (back : Result Core Refusal) →
    (G.honest old → G.honest new) → (G.honest old → SameFiles (G.file old) (G.file new)) → IsRestart G processors given new back → IsRestart G processors given old back
same_restart G processors given old new back honest same restart =
    let bytes : G.honest old → bytes_on (G.file new) ≡ bytes_on (G.file old) = λ h. λ i half. ap (λ (file : File). file.now) (same h half) i in
    record {
      opens = restart.opens;
      found = λ h. subst (λ o. IfOk back (IsFound o)) (bytes h) (restart.found (honest h));
      bad = restart.bad;
      only_bad = restart.only_bad;
      cause = λ h good. subst (λ o. result_err back ≡ engine_refusal given o) (bytes h) (restart.cause (honest h) good);
      refusals = restart.refusals;
      known = restart.known;
    }

-- ---- why none is tried

module _ {D : Type 0} (G : disks.Ghosts D) (script : Contents) (disk : D) (given wanted : Blanks) where
  -- a restart lacks memory, or the device fails in it
  unknown : (after : D) (refused refusal : Refusal) → refusal ≡ refused → (refused ≡ refusals.Memory) ⊎ (refused ≡ refusals.Device) → G.faults after ≡ faults_after (is_no_failure {X = Core} (Err refused)) (G.faults disk) → IsNotTried G script given wanted disk refusal
  unknown after refused refusal is (inl memory) counted = subst (IsNotTried G script given wanted disk) (sym (is ∙ memory)) tt
  unknown after refused refusal is (inr device) counted = subst (IsNotTried G script given wanted disk) (sym (is ∙ device)) (after, failure_counted G Core disk after refused device counted)

  -- or memory is lacking afterwards, or an image would pass a limit
  why : (after : D) (back : Result Core Refusal) (refusal : Refusal) → G.faults after ≡ faults_after (is_no_failure back) (G.faults disk) → (IsKnown back → IsRestart G (processors_of script) given disk back) → IsNotJudged back refusal →
      IsNotTried G script given wanted disk refusal
  why after (Ok core) refusal counted restart (inl is) = subst (IsNotTried G script given wanted disk) (sym is) tt
  why after (Ok core) refusal counted restart (inr full) = subst (IsNotTried G script given wanted disk) (sym full.0) (core, restart tt, full.1)
  why after (Err refused) refusal counted restart told = unknown after refused refusal told.0 told.1 counted

  pub all_why : (after : D) (judged : Result Bool Refusal) (back : Result Core Refusal) → G.faults after ≡ faults_after (is_no_failure back) (G.faults disk) → (IsKnown back → IsRestart G (processors_of script) given disk back) →
      IfErr judged (IsNotJudged back) → IfErr judged (IsNotTried G script given wanted disk)
  all_why after (Ok bad) back counted restart h = tt
  all_why after (Err refusal) back counted restart h = why after back refusal counted restart h

  -- blanks lack, or don't, as a stock of these says
  module _ (stock : Blanks) (has : (kind : Kind) → stock kind ≡ given kind) where
    lacks : Lacks given wanted (least_short stock wanted)
    lacks = subst (λ (g : Blanks). Lacks g wanted (least_short stock wanted)) (λ i kind. has kind i) (least_short_is_found stock wanted)

    told : (found : Option (Kind × ℕ)) → Lacks given wanted found → (refusal : Refusal) →
        option_map (λ (lack : Kind × ℕ). refusals.BlanksWanted lack.0 lack.1) found ≡ Some refusal → IsNotTried G script given wanted disk refusal
    told (Some lack) lacks refusal is = subst (IsNotTried G script given wanted disk) (let same : refusals.BlanksWanted lack.0 lack.1 ≡ refusal = cc in same) lacks
    told None enough refusal is = absurd cc

    all : (found : Option (Kind × ℕ)) → Lacks given wanted found → option_map (λ (lack : Kind × ℕ). refusals.BlanksWanted lack.0 lack.1) found ≡ None → IsEnough given wanted
    all None enough none = enough
    all (Some lack) short none = absurd cc

    pub told_lack : (refusal : Refusal) → option_map (λ (lack : Kind × ℕ). refusals.BlanksWanted lack.0 lack.1) (least_short stock wanted) ≡ Some refusal → IsNotTried G script given wanted disk refusal
    told_lack = told (least_short stock wanted) lacks

    pub told_enough : option_map (λ (lack : Kind × ℕ). refusals.BlanksWanted lack.0 lack.1) (least_short stock wanted) ≡ None → IsEnough given wanted
    told_enough = all (least_short stock wanted) lacks
