use Rattle.std.proofs.Common.{◌≡◌, ℕ, inl, inr, sym, ap, subst, ◌∙◌}
use Rattle.charmlet_locate.specs.Locations.{is_processor_count}
use Rattle.charmlet_script_output.specs.Ledgers.{ledger_in}
use Rattle.charmlet_script_output.specs.Named.{named_by}
use Rattle.charmlet_cli.specs.Lines.{AreRun, BreakOff, named_at, history_opening}
use Rattle.charmlet_script_output.specs.Created.{IsCreationRefusal}
use Rattle.charmlet_cli.proofs.Naming.{same_names}
use Rattle.charmlet_cli.proofs.Openings.{opens}
use Rattle.charmlet_script_output.proofs.Creations.{created, handed_back}
use Rattle.charmlet_cli.proofs.Standings.{stands, stays_honest}
use Rattle.charmlet_cli.proofs.new_run.run_in_new_store.Goals as goal

pub returns-in-Ok-ran-clause-ran : goal.returns-in-Ok-ran-clause-ran
returns-in-Ok-ran-clause-ran g c =
    let script = c.args.script.now in
    let old = g.W.Write.contents c.args.writer.now in
    let new = g.W.Write.contents c.run_lines-ran.new.writer in
    let first = c.in-Ok.engine in
    let end = c.run_lines-ran.new.engine in
    let made = c.in-Ok.ensures in
    let opening : ledger_in first ≡ history_opening script first.disk =
    opens script c.args.prepared.manifest c.processors.result (ledger_in first) c.requires.manifest c.processors.ensures made.ok.opens made.ok.blanks made.ok.supplied in
    let leaves = λ (honest : g.D.Disk.honest c.args.disk). (made.leaves honest).any_moment (made.files honest).closed in
    let last = ledger_in end in (
      sym (ap is_processor_count c.processors.ensures) ∙ made.ok.processors_are,
      first.disk,
      created g.D.Disk c.args.disk first.disk script c.args.prepared.manifest c.requires.manifest (λ honest. (let closed = (made.files honest).closed in (closed.zero, closed.one))) made.disk.counted made.disk.honest leaves,
      last,
      subst (λ ledger. AreRun g.D.Disk (named_by script.handlers) last ledger script.lines last old new) opening
          (subst (λ named. AreRun g.D.Disk named last (ledger_in first) script.lines last old new) (same_names c.args.prepared.desk script.handlers c.requires.named)
          (subst (λ lines. AreRun g.D.Disk (named_at c.args.prepared.desk) last (ledger_in first) lines last old new) c.lines-lines.ensures c.in-Ok-ran.ensures.prints)),
      stands g.D.Disk c.args.prepared.manifest c.processors.result c.args.disk c.into_disk.result first end made.ok.opens c.facts.ensures.lawful c.run_lines-ran.ensures.advances made.disk.honest.0 leaves c.into_disk.ensures,
    )

pub returns-in-Ok-ran-clause-honest : goal.returns-in-Ok-ran-clause-honest
returns-in-Ok-ran-clause-honest g c =
    stays_honest g.D.Disk c.args.disk c.into_disk.result c.in-Ok.engine c.run_lines-ran.new.engine c.in-Ok.ensures.disk.honest c.run_lines-ran.ensures.advances c.into_disk.ensures

pub returns-in-Ok-clause-err : goal.returns-in-Ok-clause-err
returns-in-Ok-clause-err g c =
    let script = c.args.script.now in
    let old = g.W.Write.contents c.args.writer.now in
    let new = g.W.Write.contents c.run_lines-ran.new.writer in
    let first = c.in-Ok.engine in
    let end = c.run_lines-ran.new.engine in
    let made = c.in-Ok.ensures in
    let opening : ledger_in first ≡ history_opening script first.disk =
    opens script c.args.prepared.manifest c.processors.result (ledger_in first) c.requires.manifest c.processors.ensures made.ok.opens made.ok.blanks made.ok.supplied in
    let leaves = λ (honest : g.D.Disk.honest c.args.disk). (made.leaves honest).any_moment (made.files honest).closed in
    let last = ledger_in end in
    inr (
      sym (ap is_processor_count c.processors.ensures) ∙ made.ok.processors_are,
      first.disk,
      created g.D.Disk c.args.disk first.disk script c.args.prepared.manifest c.requires.manifest (λ honest. (let closed = (made.files honest).closed in (closed.zero, closed.one))) made.disk.counted made.disk.honest leaves,
      last,
      subst (λ ledger. BreakOff g.D.Disk (named_by script.handlers) ledger script.lines last old new) opening
          (subst (λ named. BreakOff g.D.Disk named (ledger_in first) script.lines last old new) (same_names c.args.prepared.desk script.handlers c.requires.named)
          (subst (λ lines. BreakOff g.D.Disk (named_at c.args.prepared.desk) (ledger_in first) lines last old new) c.lines-lines.ensures c.in-Err-ran.ensures.breaks_off)),
      stands g.D.Disk c.args.prepared.manifest c.processors.result c.args.disk c.into_disk-in-Err-ran.result first end made.ok.opens c.facts.ensures.lawful c.run_lines-ran.ensures.advances made.disk.honest.0 leaves c.into_disk-in-Err-ran.ensures,
    )

pub returns-in-Ok-clause-honest : goal.returns-in-Ok-clause-honest
returns-in-Ok-clause-honest g c =
    stays_honest g.D.Disk c.args.disk c.into_disk-in-Err-ran.result c.in-Ok.engine c.run_lines-ran.new.engine c.in-Ok.ensures.disk.honest c.run_lines-ran.ensures.advances c.into_disk-in-Err-ran.ensures

pub returns-in-Ok-write_answer-clause-err : goal.returns-in-Ok-write_answer-clause-err
returns-in-Ok-write_answer-clause-err g c =
    let refused = c.in-Err.field-0 in
    let why = c.in-Err.ensures in (
      (subst (λ (n : ℕ). IsCreationRefusal n refused.refusal) c.processors.ensures (why.bad, why.err), c.in-Ok-write_answer.ensures),
      handed_back g.D.Disk c.args.disk refused.disk c.args.script.now c.args.prepared.manifest c.requires.manifest refused.refusal why.disk.counted
          (λ honest. (why.cause honest).here) (λ honest memory. (let closed = (why.cause honest).lacking memory in (closed.zero, closed.one))) (λ honest. (why.leaves honest).unwritten) (λ honest. (why.leaves honest).open_kept)
          (λ honest zero one. (why.leaves honest).any_moment (record { zero = zero; one = one })),
    )

pub returns-clause-err : goal.returns-clause-err
returns-clause-err g c =
    let refused = c.in-Err.field-0 in
    let why = c.in-Err.ensures in
    inl (
      refused.refusal,
      (subst (λ (n : ℕ). IsCreationRefusal n refused.refusal) c.processors.ensures (why.bad, why.err), c.in-Err-write_answer.ensures),
      handed_back g.D.Disk c.args.disk refused.disk c.args.script.now c.args.prepared.manifest c.requires.manifest refused.refusal why.disk.counted
          (λ honest. (why.cause honest).here) (λ honest memory. (let closed = (why.cause honest).lacking memory in (closed.zero, closed.one))) (λ honest. (why.leaves honest).unwritten) (λ honest. (why.leaves honest).open_kept)
          (λ honest zero one. (why.leaves honest).any_moment (record { zero = zero; one = one })),
    )
