-- How a run ends early.
use Rattle.std.proofs.Common.{◌≡◌, List, Option, Result, Ok, Err, sym, subst}
use Rattle.std.specs.Result.{IfErr, IsErrAnd}
use Rattle.charmlet_model.specs.declared.state.State.{State}
use Rattle.charmlet_model.specs.Texts.{Text}
use Rattle.charmlet_disk.specs.declared.disk.Disk as disks
use Rattle.charmlet_script.specs.Script.{Contents}
use Rattle.charmlet_cli.specs.declared.new_run.RunError.{RunError}
use Rattle.charmlet_cli.specs.declared.new_run.RunError.TheVariants.{TooFewBlanks, NotCreated, Memory, Output}
use Rattle.charmlet_script_output.specs.Supplied.{AreEnough}
use Rattle.charmlet_cli.specs.RunError.{EndsRun, Lacks, Leaves}

-- memory was refused although there were enough objects
pub memory_ends : {C T : Type 0} (state : C → State) (objects : List C) (script : Contents) (r : Result T (RunError C)) →
    AreEnough state objects script.lines → IsErrAnd r (λ e. e ≡ Memory) → IfErr r (Lacks state objects script)
memory_ends state objects script (Ok x) enough is = tt
memory_ends state objects script (Err e) enough is = subst (Lacks state objects script) (sym is) enough

module _ {D C W : Type 0} (G : disks.Ghosts D) (state : C → State) (contents : W → Option Text) where
  -- a run that had enough objects ended early
  pub run_ends : {T : Type 0} (first end : D) (objects : List C) (script : Contents) (before after : W) (r : Result T (RunError C)) →
      AreEnough state objects script.lines → IfErr r (EndsRun G first end script (contents before) (contents after)) → IfErr r (Leaves G state contents first end objects script before after)
  run_ends first end objects script before after (Ok x) enough ends = tt
  run_ends first end objects script before after (Err (TooFewBlanks back)) enough ends = absurd ends
  run_ends first end objects script before after (Err (NotCreated refusal)) enough ends = (enough, ends.0, ends.1)
  run_ends first end objects script before after (Err Memory) enough ends = absurd ends
  run_ends first end objects script before after (Err (Output error)) enough ends = (enough, ends)
