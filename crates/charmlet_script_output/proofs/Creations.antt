-- Disks on which a store was made for a script, or refused.
use Rattle.std.proofs.Common.{◌≡◌, ◌≢◌, ◌⊎◌, Option, Some, ℕ, Bool, Err, List, [], refl, sym, ap, subst, ◌∙◌}
use Rattle.std.specs.Prelude.{unwrap_or}
use Rattle.charmlet_model.specs.declared.half.Half.TheVariants.{Zero, One}
use Rattle.charmlet_model.specs.declared.kind_version.KindVersion.{KindVersion}
use Rattle.charmlet_model.specs.declared.refusal.Refusal.{Refusal}
use Rattle.charmlet_model.specs.declared.refusal.Refusal.TheVariants as refusals
use Rattle.charmlet_model.specs.Manifest.{manifest_of}
use Rattle.charmlet_image.specs.Spelled.{IsClosed}
use Rattle.charmlet_halves.specs.Answers.{is_no_failure}
use Rattle.charmlet_halves.specs.Bytes.{IsOpen}
use Rattle.charmlet_script.specs.Script.{Contents, pairs_of}
use Rattle.charmlet_disk.specs.declared.disk.Disk as disks
use Rattle.charmlet_disk.specs.Calls.{IsOnlyRead}
use Rattle.charmlet_disk.specs.Disk.{LeavesOnly, faults_after}
use Rattle.charmlet_disk.specs.File.{MayLeave}
use Rattle.charmlet_engine.specs.Outcomes.{IsNothingOrNew, not_device}
use Rattle.charmlet_script_output.specs.Created.{IsCreated, IsHandedBack}
use Rattle.charmlet_script_output.specs.Ledgers.{kinds_of}

-- the arrays that a script's store has
made_of : (script : Contents) (manifest : List (ℕ × KindVersion)) → manifest_of (pairs_of script.arrays) ≡ Some manifest → manifest ≡ kinds_of script
made_of script manifest is = sym (ap (λ (o : Option (List (ℕ × KindVersion))). unwrap_or o []) is)

-- a refusal is a failure of the device if and only if it says so
pub failure_said : (X : Type 0) (refusal : Refusal) → is_no_failure {X = X} (Err refusal) ≡ not_device refusal
failure_said X refusals.Device = refl
failure_said X _ = refl

module _ {D : Type 0} (G : disks.Ghosts D) (first last : D) (script : Contents) (manifest : List (ℕ × KindVersion)) (is : manifest_of (pairs_of script.arrays) ≡ Some manifest) where
  -- a disk on which a store was made
  pub created : (G.honest first → IsClosed (G.file first Zero).now × IsClosed (G.file first One).now) → G.faults last ≡ G.faults first →
      (G.honest first → G.honest last) × (G.honest last → G.honest first) → (G.honest first → LeavesOnly G.moment G.since first last (IsNothingOrNew manifest)) → IsCreated G (kinds_of script) first last
  created closed counted honest leaves = record {
    closed = closed;
    counted = counted;
    honest = honest;
    any_moment = λ still. subst (λ (kinds : List (ℕ × KindVersion)). LeavesOnly G.moment G.since first last (IsNothingOrNew kinds)) (made_of script manifest is) (leaves still);
  }

  -- a disk that a refused creation handed back
  pub handed_back : (refusal : Refusal) → G.faults last ≡ faults_after (is_no_failure {X = D} (Err refusal)) (G.faults first) →
      (G.honest first → refusal ≡ refusals.AlreadyHere → IsOpen (G.file first Zero).now ⊎ IsOpen (G.file first One).now) →
      (G.honest first → refusal ≡ refusals.Memory → IsClosed (G.file first Zero).now × IsClosed (G.file first One).now) →
      (G.honest first → refusal ≢ refusals.Device → IsOnlyRead G first last) →
      (G.honest first → IsOpen (G.file first Zero).now ⊎ IsOpen (G.file first One).now → LeavesOnly G.moment G.since first last (MayLeave (G.file first))) →
      (G.honest first → IsClosed (G.file first Zero).now → IsClosed (G.file first One).now → LeavesOnly G.moment G.since first last (IsNothingOrNew manifest)) →
      IsHandedBack G first last script refusal
  handed_back refusal counted here lacked unwritten open_kept any_moment = (
    counted ∙ ap (λ (b : Bool). faults_after b (G.faults first)) (failure_said D refusal),
    λ honest. record {
      here = here honest;
      lacked = lacked honest;
      unwritten = unwritten honest;
      open_kept = open_kept honest;
      any_moment = λ zero one.
          subst (λ (kinds : List (ℕ × KindVersion)). LeavesOnly G.moment G.since first last (IsNothingOrNew kinds)) (made_of script manifest is) (any_moment honest zero one);
    },
  )
