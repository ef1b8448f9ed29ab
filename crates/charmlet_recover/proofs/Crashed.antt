-- What a restart answers after a crash.
use Rattle.std.proofs.Common.{◌≡◌, ⊎_elim, ℕ, ◌+◌, true, List, take, sym, ap, ◌∙◌}
use Rattle.std.specs.Prelude.{IfOk, Option, Some, None, Result, Ok, Err}
use Rattle.charmlet_model.specs.declared.event.Event.{Event}
use Rattle.charmlet_model.specs.declared.half.Half.{Half}
use Rattle.charmlet_model.specs.declared.kind.Kind.{Kind}
use Rattle.charmlet_model.specs.declared.refusal.Refusal.{Refusal}
use Rattle.charmlet_model.specs.declared.refusal.Refusal.TheVariants as refusals
use Rattle.charmlet_model.specs.Core.{Blanks}
use Rattle.charmlet_model.specs.World.{World, world}
use Rattle.charmlet_disk.specs.declared.disk.Disk as disks
use Rattle.charmlet_recovery.specs.Blanks.{least_short}
use Rattle.charmlet_recovery.specs.Outcomes.{IsLawful}
use Rattle.charmlet_recovery.specs.Recovered as files
use Rattle.charmlet_recovery.specs.Recovered.{recovered}
use Rattle.charmlet_recovery.specs.Restarts.{restart_refusal, wanted_of}
use Rattle.charmlet_recovery.proofs.LawfulRestarts.{lawful_lacks_blanks_alone}
use Rattle.charmlet_recover.specs.declared.restarted.Recovered.{Recovered}
use Rattle.charmlet_recover.specs.Restart.{AnswersAfterCrash, AnswersBy, OpensWithin, core_of, is_lack}
use Rattle.charmlet_recover.proofs.Answered.{has_cause, lack_refusal}

only_lack : (lack : Option (Kind × ℕ)) (refusal : Refusal) → lack_refusal lack ≡ Some refusal → is_lack refusal ≡ true
only_lack None refusal e = absurd cc
only_lack (Some lack) refusal e = let same : refusals.BlanksWanted lack.0 lack.1 ≡ refusal = cc in ap is_lack (sym same)

module _ {D C : Type 0} {G : disks.Ghosts D} (w : World) (before : ℕ) (history : List Event) (durable : ℕ) (outcome : Half → List ℕ) (lawful : IsLawful w before history durable outcome) where
  -- a store that opens with what the files recover to opens with what was
  pub opens_within : (back : Recovered D C G) → recovered outcome ≡ files.Found (core_of back).opening (core_of back).before (core_of back).generation → OpensWithin w before history durable (core_of back)
  opens_within back e =
      let core = core_of back in
      let same : files.Found core.opening core.before core.generation ≡ files.Found (world w (take lawful.kept history)) (before + lawful.kept) lawful.generation = sym e ∙ lawful.is in
      record {
        kept = lawful.kept;
        durable_kept = lawful.durable_kept;
        none_invented = lawful.none_invented;
        opening = (let is : core.opening ≡ world w (take lawful.kept history) = cc in is);
        count = (let is : core.before ≡ before + lawful.kept = cc in is);
      }

  -- what answers by the files and the blanks answers as a restart after a crash may
  pub answers_after_crash : (given : Blanks) (answer : Result (Recovered D C G) Refusal) → AnswersBy (restart_refusal given outcome) answer →
      IfOk answer (λ back. recovered outcome ≡ files.Found (core_of back).opening (core_of back).before (core_of back).generation) → AnswersAfterCrash w before history durable answer
  answers_after_crash given (Ok back) so e = opens_within back e
  answers_after_crash given (Err refusal) so e =
      let alone = lawful_lacks_blanks_alone given w before history durable outcome lawful in
      ⊎_elim (λ memory. ap is_lack memory)
      (λ more. ⊎_elim (λ device. ap is_lack device) (λ why. only_lack (least_short given (wanted_of alone.saved)) refusal (sym alone.refusal ∙ why)) more)
      (has_cause (Recovered D C G) (restart_refusal given outcome) refusal so)
