-- Stores that came back for a script.
use Rattle.std.proofs.Common.{◌≡◌, inl, inr, ⊎_elim, ℕ, ◌+◌, Option, Result, Ok, Err, List, [], ◌∷◌, sym, ap, subst, ◌∙◌, arith}
use Rattle.std.specs.Result.{IfErr}
use Rattle.charmlet_model.specs.declared.half.Half.{Half}
use Rattle.charmlet_model.specs.declared.state.State.{State}
use Rattle.charmlet_model.specs.Core.{Blanks, Core}
use Rattle.charmlet_model.specs.Texts.{Text}
use Rattle.charmlet_disk.specs.declared.disk.Disk as disks
use Rattle.charmlet_disk.specs.Disk.{LeavesOnly}
use Rattle.charmlet_disk.specs.File.{File, MayLeave, CrashBytes}
use Rattle.charmlet_model.specs.World.{World}
use Rattle.charmlet_recovery.specs.Outcomes.{IsLawful}
use Rattle.charmlet_recovery.specs.Recovered.{Found, recovered}
use Rattle.charmlet_engine.specs.Restart.{bytes_on}
use Rattle.charmlet_script.specs.Script.{RestartContents}
use Rattle.charmlet_engine.specs.Advances.{Advances}
use Rattle.charmlet_engine.specs.Engine.{EngineShown, core_of}
use Rattle.charmlet_engine.specs.Outcomes.{Onward}
use Rattle.charmlet_engine.specs.Restarted.{IsFound, IsLeftByRestart, IsSameOrNext}
use Rattle.charmlet_cli.specs.declared.restarted_run.RestartError.{RestartError}
use Rattle.charmlet_cli.specs.declared.restarted_run.RestartError.TheVariants as ends
use Rattle.charmlet_script_output.specs.Supplied.{AreEnough}
use Rattle.charmlet_script_output.specs.Writing.{in_lines}
use Rattle.charmlet_script_output.specs.Ledgers.{ledger_in}
use Rattle.charmlet_script_output.specs.Back.{WasNotRestarted, given_of, restarted_line_text, restarted_text}
use Rattle.charmlet_cli.specs.Restarted.{EndsRestart, EndsRestartWrite, RestartLeaves, is_left_by}
use Rattle.charmlet_cli.specs.Run.{IsEarlierOrLawful, Stands}
use Rattle.charmlet_cli.proofs.Standings.{IsLawfulDisk, stands_after}

-- files recover to one world and one count of events
same_found : (v w : World) (n m g h : ℕ) → Found v n g ≡ Found w m h → (v ≡ w) × (n ≡ m)
same_found v w n m g h is = ((let same : v ≡ w = cc in same), (let same : n ≡ m = cc in same))

-- what a crash within a restart leaves is what one before might have left, or the world of the
-- store that came back, which then went on
module _ (files : Half → File) (back last : Core) (found : IsFound (bytes_on files) back) (on : Onward back last) where
  at_generation : (o : CrashBytes) (w : World) (count generation : ℕ) → recovered o ≡ Found w count generation → w ≡ back.opening → count ≡ back.before → IsLawful last.opening last.before last.history 0 o
  at_generation o w count generation is world before =
      let opening : w ≡ last.opening = world ∙ sym on.opening in
      let all : count ≡ last.before + 0 = omega (arith, before, on.before) in
      record {
        kept = 0;
        durable_kept = omega arith;
        none_invented = omega arith;
        generation = generation;
        is = is ∙ ap (λ (v : World). Found v count generation) opening ∙ ap (λ (n : ℕ). Found last.opening n generation) all;
      }

  same_is_lawful : (o : CrashBytes) → IsSameOrNext (bytes_on files) o → IsLawful last.opening last.before last.history 0 o
  same_is_lawful o same =
      let its = same_found same.world back.opening same.count back.before same.generation found.generation (sym same.was ∙ found.is) in
      ⊎_elim (λ now. at_generation o same.world same.count same.generation now its.0 its.1) (λ next. at_generation o same.world same.count (same.generation + 1) next its.0 its.1) same.is

  from_restart : (o : CrashBytes) → IsLeftByRestart files o → IsEarlierOrLawful (MayLeave files) last o
  from_restart o left = ⊎_elim (λ old. inl old) (λ same. inr (same_is_lawful o same)) left

module _ {D : Type 0} (G : disks.Ghosts D) where
  -- and what it stands on, after some lines
  pub stands_back : (disk end : D) (first last : EngineShown D) → IsLawfulDisk G last → Advances G first last → (G.honest disk → G.honest first.disk) →
      (G.honest disk → IsFound (bytes_on (G.file disk)) (core_of first)) → (G.honest disk → LeavesOnly G.moment G.since disk first.disk (IsLeftByRestart (G.file disk))) → end ≡ last.disk →
      Stands G (is_left_by G disk) disk end (ledger_in last)
  stands_back disk end first last lawful advances honest found leaves is =
      stands_after G (MayLeave (G.file disk)) (IsLeftByRestart (G.file disk)) disk end first last lawful advances honest leaves
      (λ still. from_restart (G.file disk) (core_of first) (core_of last) (found still) advances.onward) is

module _ {D C W : Type 0} (G : disks.Ghosts D) (state : C → State) (contents : W → Option Text) where
  -- a restart that had enough objects for its script ended early
  pub restart_ends : {T : Type 0} (processors : ℕ) (given : Blanks) (first end : D) (blanks supplies : List C) (script : RestartContents) (before after : W) (r : Result T (RestartError C)) →
      AreEnough state supplies script.lines → given ≡ given_of state blanks → IfErr r (EndsRestart G processors given first end script (contents before) (contents after)) →
      IfErr r (RestartLeaves G state contents processors first end blanks supplies script before after)
  restart_ends processors given first end blanks supplies script before after (Ok x) enough same so = tt
  restart_ends processors given first end blanks supplies script before after (Err (ends.TooFewBlanks back others)) enough same so = absurd so
  restart_ends processors given first end blanks supplies script before after (Err ends.Memory) enough same so = absurd so
  restart_ends processors given first end blanks supplies script before after (Err (ends.NotRestarted refusal)) enough same so =
      (enough, subst (λ (g : Blanks). WasNotRestarted G processors g first end refusal) same so.0, so.1)
  restart_ends processors given first end blanks supplies script before after (Err (ends.Output error)) enough same so =
      (enough, subst (λ (g : Blanks). EndsRestartWrite G processors g first end script (contents before) (contents after)) same so)

-- the first line of a store in which nothing has happened since it came back
pub said_of : (core : Core) (generation events processors : ℕ) → generation ≡ core.generation → events ≡ core.before + core.durable → core.durable ≡ 0 → core.processors ≡ processors →
    in_lines (restarted_line_text (record { generation = generation; events = events; processors = processors }) ∷ []) ≡ restarted_text core
said_of core generation events processors same count none on =
    let all : events ≡ core.before = omega (arith, count, none) in
    λ i. in_lines (restarted_line_text (record { generation = same i; events = all i; processors = sym on i }) ∷ [])
