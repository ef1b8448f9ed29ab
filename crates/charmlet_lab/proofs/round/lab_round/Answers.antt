use Rattle.std.proofs.Common.{◌≡◌, ◌≤◌, ℕ, Bool, List, true, Some, None, refl, sym, ap, subst, ◌∙◌, arith, rules}
use Rattle.std.specs.Prelude.{not}
use Rattle.charmlet_model.specs.declared.kind.Kind.{Kind}
use Rattle.charmlet_model.specs.declared.refusal.Refusal.TheVariants as refusals
use Rattle.charmlet_model.specs.Core.{Blanks, Core}
use Rattle.charmlet_model.specs.Shelves.{count_of}
use Rattle.charmlet_model.specs.Sound.{new_world}
use Rattle.charmlet_model.specs.World.{IsLegal}
use Rattle.charmlet_record.specs.Reading.{Kinds}
use Rattle.charmlet_disk.specs.Disk.{faults_after}
use Rattle.charmlet_disk.specs.File.{MayLeave}
use Rattle.charmlet_history.specs.Kept.{core_in}
use Rattle.charmlet_stock.specs.Stock.{blanks_in}
use Rattle.charmlet_script.specs.declared.script.Line.{Line}
use Rattle.charmlet_script.specs.Script.{blanks_of}
use Rattle.charmlet_requests.specs.Handlers.{handler_of}
use Rattle.charmlet_engine.specs.Engine.{EngineShown, view_of}
use Rattle.charmlet_script_output.specs.Named.{named_by}
use Rattle.charmlet_lab.specs.Lines.{AreRun}
use Rattle.charmlet_lab.specs.Rounds.{IsRound}
use Rattle.charmlet_lab.proofs.Causes.{failure_counted}
use Rattle.charmlet_lab.proofs.Lines.{opens, run_by}
use Rattle.charmlet_lab.proofs.Rounds.{all_blanks, durable_within, lawful_events, legal_events, memory_lacks, same_arrays, told_enough, told_lack}
use Rattle.charmlet_lab.proofs.round.lab_round.Goals as goal

pub returns-in-Ok-create-clause-ok : goal.returns-in-Ok-create-clause-ok
returns-in-Ok-create-clause-ok g c =
    let kinds = c.in_ok-manifest.manifest in
    let arrays = same_arrays c.args.script.now kinds c.in_ok-manifest.ensures.manifest in
    let first = core_in c.note_events.new.self.store.history in
    let opens = c.note_events.ensures.core ∙ c.in-Ok-create.ensures.ok.opens in
    let disk = c.note_events.ensures.disk in
    let last = core_in c.run_lines.new.engine.store.history in
    let on = c.run_lines.ensures.advances.onward in
    let sound = c.facts.ensures.sound in
    let events = c.in_ok-events-in-Ok-create.events.items in
    let are : events ≡ last.history = c.in_ok-events-in-Ok-create.ensures ∙ rw c.in-Some-events.is at c.events.ensures in
    let durable = c.durable.result in
    let end = c.into_disk.ensures in
    let forth = λ (h : g.D.Disk.honest c.args.disk). c.run_lines.ensures.advances.honest.0 (subst g.D.Disk.honest (sym disk) (c.in-Ok-create.ensures.disk.honest.0 h)) in
    subst (λ (k : Kinds). IsRound g.D.Disk k c.args.disk (record { disk = c.into_disk.result; events = c.in_ok-events-in-Ok-create.events; durable = Some durable; is_stopped = c.is_halted-is_stopped.result })) (sym arrays) (record {
      legal = legal_events kinds c.processors.result first last opens on events are durable c.durable.ensures sound;
      within = durable_within kinds c.processors.result first last opens on events are durable c.durable.ensures sound;
      counted =
          ap g.D.Disk.faults end ∙ c.run_lines.ensures.counted (ap (λ (k : Core). k.halted) opens)
          ∙ ap (λ (h : Bool). faults_after (not h) (g.D.Disk.faults c.note_events.new.self.disk)) (sym c.is_halted-is_stopped.ensures)
          ∙ ap (λ (n : ℕ). faults_after (not c.is_halted-is_stopped.result) n) (ap g.D.Disk.faults disk ∙ c.in-Ok-create.ensures.disk.counted);
      made = λ _. refl;
      honest = (
        (λ h. subst g.D.Disk.honest (sym end) (forth h)),
        (λ h. c.in-Ok-create.ensures.disk.honest.1 (subst g.D.Disk.honest disk (c.run_lines.ensures.advances.honest.1 (subst g.D.Disk.honest end h)))),
      );
      closed = λ honest made. (let closed = (c.in-Ok-create.ensures.files honest).closed in (closed.zero, closed.one));
      now = λ honest _ _ o left.
          lawful_events kinds c.processors.result first last opens on events are durable c.durable.ensures o
          (c.facts.ensures.lawful (forth honest) o (subst (λ d. MayLeave (g.D.Disk.file d) o) end left));
    })

pub returns-in-Err-Device-clause-ok : goal.returns-in-Err-Device-clause-ok
returns-in-Err-Device-clause-ok g c =
    let laws = g.met.D.Disk g.world.𝓛 g.world.𝓜 g.world.𝓡 ((λ s x. x), (λ x. x), (λ x. x), (λ x. x)) in
    let kinds = c.in_ok-manifest.manifest in
    let arrays = same_arrays c.args.script.now kinds c.in_ok-manifest.ensures.manifest in
    let end = c.in-Err-Device.field-0.disk in
    subst (λ (k : Kinds). IsRound g.D.Disk k c.args.disk (record { disk = end; events = c.new.result; durable = None; is_stopped = true })) (sym arrays) (record {
      legal = subst (IsLegal (new_world kinds) 0) (sym c.new.ensures.items) (record { events = tt; each_can = refl; in_limit = omega arith });
      within = tt;
      counted =
          (let refused = c.in-Err-Device.field-0.refusal in
          let is : refused ≡ refusals.Device = search rules in
          failure_counted g.D.Disk ℕ c.args.disk end refused is c.in-Err-Device.ensures.disk.counted);
      made = λ h. absurd (let no : ⊥ = cc in no);
      honest = c.in-Err-Device.ensures.disk.honest;
      closed = λ honest made. absurd (let no : ⊥ = cc in no);
      now = λ honest zero one o left.
          let any = (c.in-Err-Device.ensures.leaves honest).any_moment (record { zero = zero; one = one }) in
          any.each o (laws.counts_now end (g.D.Disk.moment c.args.disk) o (c.in-Err-Device.ensures.disk.honest.0 honest) any.later left);
    })

-- ---- blanks that lack, or don't

pub returns-in-Some-clause-err : goal.returns-in-Some-clause-err
returns-in-Some-clause-err g c =
    let source = c.in-Ok.source in
    let given_are = λ (kind : Kind). all_blanks source c.in-Ok.ensures.unused kind ∙ c.in-Ok.ensures.supplied kind in
    told_lack g.D.Disk (count_of g.C.Chare.state c.args.blanks.items) c.args.script.now c.args.disk (blanks_in source) _ given_are c.supplied_by.ensures c.in-Some.lack (sym c.lacking.ensures ∙ c.in-Some.is)

pub run_lines-requires-clause-enough : goal.run_lines-requires-clause-enough
run_lines-requires-clause-enough g c κs within = λ kind.
    let source = c.in-Ok.source in
    let given_are = λ (kind : Kind). all_blanks source c.in-Ok.ensures.unused kind ∙ c.in-Ok.ensures.supplied kind in
    let enough = told_enough g.D.Disk (count_of g.C.Chare.state c.args.blanks.items) c.args.script.now c.args.disk (blanks_in source) _ given_are c.supplied_by.ensures (sym c.lacking.ensures ∙ c.in_default-lacking.is) in
    subst (λ (lines : List Line). blanks_of kind lines ≤ blanks_in source kind) (sym c.lines.ensures) (subst (λ n. blanks_of kind c.args.script.now.lines ≤ n) (sym (given_are kind)) (enough kind))

pub returns-in-Ok-create-clause-enough : goal.returns-in-Ok-create-clause-enough
returns-in-Ok-create-clause-enough g c =
    let source = c.in-Ok.source in
    let given_are = λ (kind : Kind). all_blanks source c.in-Ok.ensures.unused kind ∙ c.in-Ok.ensures.supplied kind in
    told_enough g.D.Disk (count_of g.C.Chare.state c.args.blanks.items) c.args.script.now c.args.disk (blanks_in source) _ given_are c.supplied_by.ensures (sym c.lacking.ensures ∙ c.in_default-lacking.is)

pub returns-in-Err-Device-clause-enough : goal.returns-in-Err-Device-clause-enough
returns-in-Err-Device-clause-enough g c =
    let source = c.in-Ok.source in
    let given_are = λ (kind : Kind). all_blanks source c.in-Ok.ensures.unused kind ∙ c.in-Ok.ensures.supplied kind in
    told_enough g.D.Disk (count_of g.C.Chare.state c.args.blanks.items) c.args.script.now c.args.disk (blanks_in source) _ given_are c.supplied_by.ensures (sym c.lacking.ensures ∙ c.in_default-lacking.is)

-- ---- memory that lacks

pub returns-in_err-events-in-Ok-create-clause-err : goal.returns-in_err-events-in-Ok-create-clause-err
returns-in_err-events-in-Ok-create-clause-err g c =
    memory_lacks g.D.Disk (count_of g.C.Chare.state c.args.blanks.items) c.args.script.now c.args.disk c.from_residual-in_err-events-in-Ok-create.result c.from_residual-in_err-events-in-Ok-create.ensures.1

pub returns-in_err-run_lines-in-Ok-create-clause-err : goal.returns-in_err-run_lines-in-Ok-create-clause-err
returns-in_err-run_lines-in-Ok-create-clause-err g c =
    memory_lacks g.D.Disk (count_of g.C.Chare.state c.args.blanks.items) c.args.script.now c.args.disk c.from_residual-in_err-run_lines-in-Ok-create.result c.from_residual-in_err-run_lines-in-Ok-create.ensures.1

-- ---- the lines

pub returns-in-Ok-create-clause-ran : goal.returns-in-Ok-create-clause-ran
returns-in-Ok-create-clause-ran g c =
    let script = c.args.script.now in
    let kinds = c.in_ok-manifest.manifest in
    let first = view_of c.note_events.new.self in
    let last = view_of c.run_lines.new.engine in
    let on = c.run_lines.ensures.advances.onward in
    let core = c.note_events.ensures.core ∙ c.in-Ok-create.ensures.ok.opens in
    let none = λ (kind : Kind). ap (λ (blanks : Blanks). blanks kind) c.note_events.ensures.blanks ∙ c.in-Ok-create.ensures.ok.blanks kind in
    let opening = opens script kinds c.processors.result first c.in_ok-manifest.ensures.manifest c.processors.ensures core none in
    let ran = subst (λ ls. AreRun (handler_of c.in_ok-handlers.handlers) first ls last) c.lines.ensures c.in_ok-run_lines-in-Ok-create.ensures.ran in
    let before = on.before ∙ ap (λ (k : Core). k.before) core in (
      last,
      subst (λ store. AreRun (named_by script.handlers) store script.lines last) opening (run_by c.in_ok-handlers.handlers script first last (λ name. c.in_ok-handlers.ensures name ∙ ap (λ ls. named_by ls name) c.handlers.ensures) ran),
      c.in_ok-events-in-Ok-create.ensures ∙ rw c.in-Some-events.is at c.events.ensures,
      omega (arith, c.durable.ensures, before),
      c.is_halted-is_stopped.ensures,
    )
