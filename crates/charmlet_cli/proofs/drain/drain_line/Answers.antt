use Rattle.std.proofs.Common.{ℕ, ◌∷◌, [], refl, subst}
use Rattle.std.specs.Prelude.{Option, Some, None}
use Rattle.std.specs.Io.KnownBytes.{Appends}
use Rattle.charmlet_model.specs.declared.refusal.Refusal.{Refusal}
use Rattle.charmlet_model.specs.declared.step.Answer.TheVariants.{Refused}
use Rattle.charmlet_model.specs.Run.{StoreView}
use Rattle.charmlet_model.specs.Texts.{Text, answer_text}
use Rattle.charmlet_script.specs.Printed.{drained_text}
use Rattle.charmlet_engine.specs.Engine.{view_of}
use Rattle.charmlet_engine.specs.Delivering.{DrainsUpTo}
use Rattle.charmlet_cli.specs.Drain.{drain_text, drain_texts}
use Rattle.charmlet_script_output.specs.Writing.{in_lines, AppendsBeginning}
use Rattle.charmlet_script_output.proofs.Printing.{beginning_written, kept_appends, kept_begins, line_begins, line_then}
use Rattle.charmlet_cli.proofs.drain.drain_line.Goals as goal

-- a beginning of its own line is one of what it prints
drain_begins : (a b : Option Text) (k : ℕ) (last : StoreView) (refusal : Option Refusal) → AppendsBeginning a b (in_lines (drain_text k last ∷ [])) → AppendsBeginning a b (in_lines (drain_texts k last refusal))
drain_begins a b k last None h = h
drain_begins a b k last (Some refusal) h = line_begins a b (drain_text k last ∷ []) (answer_text (Refused refusal) ∷ []) h

pub returns-in_err-write_line-clause-prints : goal.returns-in_err-write_line-clause-prints
returns-in_err-write_line-clause-prints g c =
    let old = g.W.Write.contents c.args.writer.now in
    let flushed = g.W.Write.contents c.flush.new.self in
    let mid = g.W.Write.contents c.write_line.new.writer in
    let last = view_of c.deliver_up_to-count.new.self in
    let k = c.deliver_up_to-count.result.count in
    let refusal = c.deliver_up_to-count.result.refusal in
    let line = in_lines (drain_text k last ∷ []) in
    let begins : AppendsBeginning old mid line =
    kept_begins old flushed mid line c.flush.ensures.bytes
    (subst (λ n. AppendsBeginning flushed mid (in_lines (drained_text (record { delivered = k; left = n }) ∷ []))) c.pending_count-left.ensures c.in_err-write_line.ensures) in (
      drain_texts k last refusal,
      (k, refusal, c.deliver_up_to-count.ensures.drains, c.deliver_up_to-count.ensures.supplied, c.deliver_up_to-count.ensures.disk, refl),
      beginning_written c.from_residual.result _ old mid (in_lines (drain_texts k last refusal)) c.from_residual.ensures.1 (drain_begins old mid k last refusal begins),
    )

pub returns-in_default-clause-prints : goal.returns-in_default-clause-prints
returns-in_default-clause-prints g c =
    let old = g.W.Write.contents c.args.writer.now in
    let flushed = g.W.Write.contents c.flush.new.self in
    let mid = g.W.Write.contents c.write_line.new.writer in
    let before = view_of c.args.engine.now in
    let last = view_of c.deliver_up_to-count.new.self in
    let k = c.deliver_up_to-count.result.count in
    let drains = subst (λ refusal. DrainsUpTo before c.args.most k refusal last) c.in_default.is c.deliver_up_to-count.ensures.drains in (
      drain_text k last ∷ [],
      (k, None, drains, c.deliver_up_to-count.ensures.supplied, c.deliver_up_to-count.ensures.disk, refl),
      kept_appends old flushed mid (in_lines (drain_text k last ∷ [])) c.flush.ensures.bytes
          (subst (λ n. Appends flushed mid (in_lines (drained_text (record { delivered = k; left = n }) ∷ []))) c.pending_count-left.ensures c.in_ok-write_line.ensures),
    )

pub returns-clause-prints : goal.returns-clause-prints
returns-clause-prints g c =
    let old = g.W.Write.contents c.args.writer.now in
    let flushed = g.W.Write.contents c.flush.new.self in
    let mid = g.W.Write.contents c.write_line.new.writer in
    let new = g.W.Write.contents c.write_answer.new.writer in
    let before = view_of c.args.engine.now in
    let last = view_of c.deliver_up_to-count.new.self in
    let k = c.deliver_up_to-count.result.count in
    let drains = subst (λ refusal. DrainsUpTo before c.args.most k refusal last) c.in-Some.is c.deliver_up_to-count.ensures.drains in
    let refused = answer_text (Refused c.in-Some.refusal) in
    let drained = kept_appends old flushed mid (in_lines (drain_text k last ∷ [])) c.flush.ensures.bytes
    (subst (λ n. Appends flushed mid (in_lines (drained_text (record { delivered = k; left = n }) ∷ []))) c.pending_count-left.ensures c.in_ok-write_line.ensures) in (
      drain_text k last ∷ refused ∷ [],
      (k, Some c.in-Some.refusal, drains, c.deliver_up_to-count.ensures.supplied, c.deliver_up_to-count.ensures.disk, refl),
      line_then c.write_answer.result old mid new (drain_text k last ∷ []) (refused ∷ []) drained c.write_answer.ensures,
    )
