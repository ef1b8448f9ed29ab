-- Runs and restarts with some blanks, or without memory for them.
use Rattle.std.proofs.Common.{◌≡◌, Result, Ok, Err, sym, subst}
use Rattle.std.specs.Prelude.{IfErr}
use Rattle.std.specs.Result.{IsErrAnd}
use Rattle.charmlet_model.specs.declared.refusal.Refusal.{Refusal}
use Rattle.charmlet_model.specs.declared.refusal.Refusal.TheVariants as refusals
use Rattle.charmlet_model.specs.Core.{Blanks}
use Rattle.charmlet_disk.specs.declared.disk.Disk as disks
use Rattle.charmlet_script.specs.Script.{Contents}
use Rattle.charmlet_lab.specs.Restarts.{IsNotTried}
use Rattle.charmlet_lab.specs.Rounds.{IsNotRun}

abbrev none : Blanks
none kind = 0

module _ {T D : Type 0} (G : disks.Ghosts D) (script : Contents) (disk : D) where
  pub no_run : (result : Result T Refusal) → IsErrAnd result (λ told. told ≡ refusals.Memory) → IfErr result (λ refusal. (given : Blanks) × IsNotRun G given script disk refusal)
  no_run (Ok done) is = tt
  no_run (Err told) is = (none, subst (IsNotRun G none script disk) (sym is) tt)

  pub no_restart : (wanted : Blanks) (result : Result T Refusal) → IsErrAnd result (λ told. told ≡ refusals.Memory) → IfErr result (λ refusal. (given : Blanks) × IsNotTried G script given wanted disk refusal)
  no_restart wanted (Ok done) is = tt
  no_restart wanted (Err told) is = (none, subst (IsNotTried G script none wanted disk) (sym is) tt)

  -- of whatever blanks were given
  pub some_restart : (wanted given : Blanks) (result : Result T Refusal) → IfErr result (IsNotTried G script given wanted disk) → IfErr result (λ refusal. (given : Blanks) × IsNotTried G script given wanted disk refusal)
  some_restart wanted given (Ok done) why = tt
  some_restart wanted given (Err told) why = (given, why)
