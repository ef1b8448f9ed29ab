use Rattle.std.proofs.Common.{ℕ, None, inl, refl, sym, ap, subst, ◌∙◌}
use Rattle.charmlet_locate.specs.Locations.{is_processor_count}
use Rattle.std.specs.Prelude.{IfSome}
use Rattle.charmlet_model.specs.Core.{Core}
use Rattle.charmlet_runtime.specs.Engine.{core_of}
use Rattle.charmlet_script_output.specs.Named.{named_by}
use Rattle.charmlet_script_output.specs.Created.{IsCreationRefusal}
use Rattle.charmlet_cli_workers.specs.Heard.{names_in}
use Rattle.charmlet_script_output.proofs.Creations.{created, handed_back}
use Rattle.charmlet_cli_workers.specs.Left.{IsLeft, PrintsOver}
use Rattle.charmlet_persist.specs.Writes.NewStores.{new_core}
use Rattle.charmlet_sequencer.specs.Sequencer.{IsOf}
use Rattle.charmlet_workers.specs.Runtime.{RuntimeShown}
use Rattle.charmlet_cli_workers.specs.Runs.{IsMade}
use Rattle.charmlet_cli_workers.proofs.Beginnings.{left_new, made_early, made_ok}
use Rattle.charmlet_cli_workers.proofs.Leavings.{left_of_lines, prints_of_lines, some_on}
use Rattle.charmlet_cli_workers.proofs.new_run.run_in_new_store.Goals as goal

pub open_in-runtime-requires-clause-named : goal.open_in-runtime-requires-clause-named
open_in-runtime-requires-clause-named g c =
    let opens = c.in-Ok-create.ensures.ok.opens ∙ ap (λ n. new_core n c.args.prepared.manifest) c.processors-processors.ensures in
    λ _ _. subst (IsOf g.B.RuntimeName.opening g.B.RuntimeName.before g.B.RuntimeName.processors) (sym opens) c.requires.named

pub open_in-runtime-requires-clause-generation : goal.open_in-runtime-requires-clause-generation
open_in-runtime-requires-clause-generation g c = λ _ _. c.requires.generation ∙ sym (ap (λ (k : Core). k.generation) c.in-Ok-create.ensures.ok.opens)

pub open_in-runtime-requires-clause-honest : goal.open_in-runtime-requires-clause-honest
open_in-runtime-requires-clause-honest g c = λ _ _ honest. c.in-Ok-create.ensures.disk.honest.0 (c.requires.honest honest)

pub run_opened-requires-clause-restarted : goal.run_opened-requires-clause-restarted
run_opened-requires-clause-restarted g c = λ _ _. ap (λ (v : RuntimeShown). v.generation) c.open_in-runtime.ensures ∙ ap (λ (k : Core). k.generation) c.in-Ok-create.ensures.ok.opens

pub returns-in-Ok-create-clause-ran : goal.returns-in-Ok-create-clause-ran
returns-in-Ok-create-clause-ran g c =
    let script = c.args.script.now in
    let first = c.args.disk in
    let begun = c.in-Ok-create.begun in
    let manifest = c.args.prepared.manifest in
    let new = c.in-Ok-create.ensures in
    let left_of_begun = subst (λ (v : RuntimeShown). IfSome c.run_opened.result.disk (IsLeft g.D.Disk v.opening v.before v.processors (λ last. PrintsOver c.run_opened.result.result None last (names_in c.args.prepared.given.handlers) c.lines.result.now (g.W.Write.contents c.args.writer.now) (g.W.Write.contents c.run_opened.new.writer)))) c.open_in-runtime.ensures in
    let leaves = λ (honest : g.D.Disk.honest first). (new.leaves honest).any_moment (new.files honest).closed in
    let make : (P : Core → Type 0) → IfSome c.run_opened.result.disk (IsLeft g.D.Disk (core_of begun).opening (core_of begun).before (core_of begun).processors P) → IsMade g.D.Disk first c.run_opened.result.disk script P = λ P left. record {
      processors = sym (ap is_processor_count c.processors-processors.ensures) ∙ new.ok.processors_are;
      made = begun.disk;
      created = created g.D.Disk first begun.disk script manifest c.requires.manifest (λ honest. (let closed = (new.files honest).closed in (closed.zero, closed.one))) new.disk.counted new.disk.honest leaves;
      left = left_new g.D.Disk script manifest c.processors-processors.result (core_of begun) c.run_opened.result.disk c.requires.manifest c.processors-processors.ensures new.ok.opens P left;
      honest = some_on (λ last. g.B.RuntimeName.honest → g.D.Disk.honest last) (λ last. g.D.Disk.honest first → g.D.Disk.honest last) c.run_opened.result.disk (λ last still honest. still (c.requires.only_honest honest)) c.run_opened.ensures.honest;
    } in
    made_ok g.D.Disk first c.run_opened.result.disk script (core_of begun) make (g.W.Write.contents c.args.writer.now) (g.W.Write.contents c.run_opened.new.writer) c.run_opened.result.result
    (left_of_lines g.D.Disk (core_of begun).opening (core_of begun).before (core_of begun).processors c.run_opened.result.disk c.run_opened.result.result None None (names_in c.args.prepared.given.handlers) (named_by script.handlers) c.lines.result.now script.lines (g.W.Write.contents c.args.writer.now) (g.W.Write.contents c.run_opened.new.writer) refl (λ i name. c.requires.handlers name i) c.lines.ensures (left_of_begun c.run_opened.ensures.left))

pub returns-in-Ok-create-clause-err : goal.returns-in-Ok-create-clause-err
returns-in-Ok-create-clause-err g c =
    let script = c.args.script.now in
    let first = c.args.disk in
    let begun = c.in-Ok-create.begun in
    let manifest = c.args.prepared.manifest in
    let new = c.in-Ok-create.ensures in
    let left_of_begun = subst (λ (v : RuntimeShown). IfSome c.run_opened.result.disk (IsLeft g.D.Disk v.opening v.before v.processors (λ last. PrintsOver c.run_opened.result.result None last (names_in c.args.prepared.given.handlers) c.lines.result.now (g.W.Write.contents c.args.writer.now) (g.W.Write.contents c.run_opened.new.writer)))) c.open_in-runtime.ensures in
    let leaves = λ (honest : g.D.Disk.honest first). (new.leaves honest).any_moment (new.files honest).closed in
    let make : (P : Core → Type 0) → IfSome c.run_opened.result.disk (IsLeft g.D.Disk (core_of begun).opening (core_of begun).before (core_of begun).processors P) → IsMade g.D.Disk first c.run_opened.result.disk script P = λ P left. record {
      processors = sym (ap is_processor_count c.processors-processors.ensures) ∙ new.ok.processors_are;
      made = begun.disk;
      created = created g.D.Disk first begun.disk script manifest c.requires.manifest (λ honest. (let closed = (new.files honest).closed in (closed.zero, closed.one))) new.disk.counted new.disk.honest leaves;
      left = left_new g.D.Disk script manifest c.processors-processors.result (core_of begun) c.run_opened.result.disk c.requires.manifest c.processors-processors.ensures new.ok.opens P left;
      honest = some_on (λ last. g.B.RuntimeName.honest → g.D.Disk.honest last) (λ last. g.D.Disk.honest first → g.D.Disk.honest last) c.run_opened.result.disk (λ last still honest. still (c.requires.only_honest honest)) c.run_opened.ensures.honest;
    } in
    made_early g.D.Disk first c.run_opened.result.disk script (core_of begun) make g.W.Write.contents c.args.writer.now c.run_opened.new.writer c.run_opened.result.result
    (left_of_lines g.D.Disk (core_of begun).opening (core_of begun).before (core_of begun).processors c.run_opened.result.disk c.run_opened.result.result None None (names_in c.args.prepared.given.handlers) (named_by script.handlers) c.lines.result.now script.lines (g.W.Write.contents c.args.writer.now) (g.W.Write.contents c.run_opened.new.writer) refl (λ i name. c.requires.handlers name i) c.lines.ensures (left_of_begun c.run_opened.ensures.left))
    (prints_of_lines c.run_opened.result.result None None c.lines.result.now script.lines (g.W.Write.contents c.args.writer.now) (g.W.Write.contents c.run_opened.new.writer) refl c.lines.ensures c.run_opened.ensures.prints)
    c.run_opened.ensures.err

pub returns-in-Ok-write_answer-clause-err : goal.returns-in-Ok-write_answer-clause-err
returns-in-Ok-write_answer-clause-err g c =
    let refused = c.in-Err.field-0 in
    let why = c.in-Err.ensures in (
      (subst (λ (n : ℕ). IsCreationRefusal n refused.refusal) c.processors-processors.ensures (why.bad, why.err), c.in-Ok-write_answer.ensures),
      (
        refused.disk,
        refl,
        handed_back g.D.Disk c.args.disk refused.disk c.args.script.now c.args.prepared.manifest c.requires.manifest refused.refusal why.disk.counted
            (λ honest. (why.cause honest).here) (λ honest memory. (let closed = (why.cause honest).lacking memory in (closed.zero, closed.one))) (λ honest. (why.leaves honest).unwritten) (λ honest. (why.leaves honest).open_kept)
            (λ honest zero one. (why.leaves honest).any_moment (record { zero = zero; one = one })),
        why.disk.honest,
      ),
    )

pub returns-clause-err : goal.returns-clause-err
returns-clause-err g c =
    let refused = c.in-Err.field-0 in
    let why = c.in-Err.ensures in
    inl (
      refused.refusal,
      (subst (λ (n : ℕ). IsCreationRefusal n refused.refusal) c.processors-processors.ensures (why.bad, why.err), c.in-Err-write_answer.ensures),
      (
        refused.disk,
        refl,
        handed_back g.D.Disk c.args.disk refused.disk c.args.script.now c.args.prepared.manifest c.requires.manifest refused.refusal why.disk.counted
            (λ honest. (why.cause honest).here) (λ honest memory. (let closed = (why.cause honest).lacking memory in (closed.zero, closed.one))) (λ honest. (why.leaves honest).unwritten) (λ honest. (why.leaves honest).open_kept)
            (λ honest zero one. (why.leaves honest).any_moment (record { zero = zero; one = one })),
        why.disk.honest,
      ),
    )
