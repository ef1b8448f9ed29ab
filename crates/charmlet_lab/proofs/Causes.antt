-- Trials of crashes: what they begin with, and why none is made.
use Rattle.std.proofs.Common.{◌≡◌, ◌⊎◌, inl, inr, false, [], Result, Ok, Err, sym, ap, subst, ◌∙◌}
use Rattle.std.specs.Prelude.{IfErr}
use Rattle.std.specs.Result.{IsErrAnd}
use Rattle.charmlet_model.specs.declared.half.Half.{Half}
use Rattle.charmlet_model.specs.declared.refusal.Refusal.{Refusal}
use Rattle.charmlet_model.specs.declared.refusal.Refusal.TheVariants as refusals
use Rattle.charmlet_disk.specs.declared.disk.Disk as disks
use Rattle.charmlet_disk.specs.Disk.{IsSettled, faults_after}
use Rattle.charmlet_disk.specs.File.{File, clean}
use Rattle.charmlet_halves.specs.Answers.{is_no_failure}
use Rattle.charmlet_script.specs.Script.{Contents}
use Rattle.charmlet_lab.specs.Trials.{IsNotFound}

-- empty files are settled
pub empty_is_settled : (files : Half → File) → ((half : Half) → files half ≡ clean []) → IsSettled files
empty_is_settled files empty = λ half. empty half ∙ ap (λ (file : File). clean file.now) (sym (empty half))

-- a call that answered `Device` counted one more failure
pub failure_counted : {D : Type 0} (G : disks.Ghosts D) (X : Type 0) (old new : D) (refusal : Refusal) → refusal ≡ refusals.Device → G.faults new ≡ faults_after (is_no_failure {X = X} (Err refusal)) (G.faults old) →
    G.faults new ≡ faults_after false (G.faults old)
failure_counted G X old new refusal is counted = subst (λ (r : Refusal). G.faults new ≡ faults_after (is_no_failure {X = X} (Err r)) (G.faults old)) is counted

module _ {D : Type 0} (G : disks.Ghosts D) (script : Contents) where
  -- since a disk couldn't be read
  pub not_read : (old new : D) (refusal : Refusal) → ((refusal ≡ refusals.Memory) ⊎ ((refusal ≡ refusals.Device) × (G.faults new ≡ faults_after false (G.faults old)))) → IsNotFound G script refusal
  not_read old new refusal (inl is) = subst (IsNotFound G script) (sym is) tt
  not_read old new refusal (inr failed) = subst (IsNotFound G script) (sym failed.0) (old, new, failed.1)

  -- a refusal that is handed on
  pub handed_on : {T : Type 0} (result : Result T Refusal) (refusal : Refusal) → IsErrAnd result (λ told. told ≡ refusal) → IsNotFound G script refusal → IfErr result (IsNotFound G script)
  handed_on (Ok done) refusal is why = tt
  handed_on (Err told) refusal is why = subst (IsNotFound G script) (sym is) why
