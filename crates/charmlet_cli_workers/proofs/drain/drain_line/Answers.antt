use Rattle.std.proofs.Common.{rules, ◌≡◌, ℕ, ◌∷◌, [], None, Some, arith, map, subst}
use Rattle.charmlet_model.specs.declared.step.Answer.TheVariants.{Refused}
use Rattle.charmlet_model.specs.Texts.{answer_text}
use Rattle.charmlet_script.specs.declared.printed.Drained.{Drained}
use Rattle.charmlet_script.specs.Printed.{drained_text}
use Rattle.charmlet_workers.specs.declared.work.WorkerSlot.{WorkerSlot}
use Rattle.charmlet_script_output.specs.Writing.{in_lines}
use Rattle.charmlet_script_output.proofs.Printing.{beginning_written, kept_appends, kept_begins, line_then}
use Rattle.charmlet_cli_workers.specs.Heard.{known_by}
use Rattle.charmlet_cli_workers.specs.Said.{Deeds, IsDrained}
use Rattle.charmlet_cli_workers.proofs.Delivering.{drained_so}
use Rattle.charmlet_cli_workers.proofs.drain.drain_line.Goals as goal

pub returns-in_err-write_line : goal.returns-in_err-write_line
returns-in_err-write_line g c = λ named passes before is.
    let old = g.W.Write.contents c.args.writer.now in
    let flushed = g.W.Write.contents c.flush.new.self in
    let mid = g.W.Write.contents c.write_line.new.writer in
    let drained : Drained = record { delivered = c.delivered_by.result; left = c.pending_count.result } in
    let turns : c.from.result ≡ c.args.turns = search rules in
    let after : Deeds = record before { delivered = map (λ (s : WorkerSlot g.row.B.Denot). s.seat.ids) c.work_all.new.slots } in
    let left = c.pending_count.ensures in (
      drained_text drained ∷ [],
      subst (λ (n : ℕ). IsDrained (known_by c.args.runtime.now named passes) n before after (drained_text drained ∷ [])) turns
          (drained_so (λ (s : WorkerSlot g.row.B.Denot). s.seat) (λ (s : WorkerSlot g.row.B.Denot). s.worked) (known_by c.args.runtime.now named passes) c.from.result before c.args.slots.now c.work_all.new.slots drained None is (omega (arith, c.work_all.auto.slots)) c.work_all.ensures c.delivered_by.ensures left tt),
      beginning_written c.from_residual.result _ old mid (in_lines (drained_text drained ∷ [])) c.from_residual.ensures.1
          (kept_begins old flushed mid (in_lines (drained_text drained ∷ [])) c.flush.ensures.bytes c.in_err-write_line.ensures),
    )

pub returns-in-None : goal.returns-in-None
returns-in-None g c = λ named passes before is.
    let old = g.W.Write.contents c.args.writer.now in
    let flushed = g.W.Write.contents c.flush.new.self in
    let mid = g.W.Write.contents c.write_line.new.writer in
    let drained : Drained = record { delivered = c.delivered_by.result; left = c.pending_count.result } in
    let turns : c.from.result ≡ c.args.turns = search rules in
    let after : Deeds = record before { delivered = map (λ (s : WorkerSlot g.row.B.Denot). s.seat.ids) c.work_all.new.slots } in
    let left = c.pending_count.ensures in (
      drained_text drained ∷ [],
      subst (λ (n : ℕ). IsDrained (known_by c.args.runtime.now named passes) n before after (drained_text drained ∷ [])) turns
          (drained_so (λ (s : WorkerSlot g.row.B.Denot). s.seat) (λ (s : WorkerSlot g.row.B.Denot). s.worked) (known_by c.args.runtime.now named passes) c.from.result before c.args.slots.now c.work_all.new.slots drained None is (omega (arith, c.work_all.auto.slots)) c.work_all.ensures c.delivered_by.ensures left tt),
      kept_appends old flushed mid (in_lines (drained_text drained ∷ [])) c.flush.ensures.bytes c.in_ok-write_line.ensures,
    )

pub returns-in-Some : goal.returns-in-Some
returns-in-Some g c = λ named passes before is.
    let old = g.W.Write.contents c.args.writer.now in
    let flushed = g.W.Write.contents c.flush.new.self in
    let mid = g.W.Write.contents c.write_line.new.writer in
    let drained : Drained = record { delivered = c.delivered_by.result; left = c.pending_count.result } in
    let turns : c.from.result ≡ c.args.turns = search rules in
    let after : Deeds = record before { delivered = map (λ (s : WorkerSlot g.row.B.Denot). s.seat.ids) c.work_all.new.slots } in
    let left = c.pending_count.ensures in
    let new = g.W.Write.contents c.write_answer.new.writer in
    let refused = answer_text (Refused c.in-Some.refusal) in (
      drained_text drained ∷ refused ∷ [],
      subst (λ (n : ℕ). IsDrained (known_by c.args.runtime.now named passes) n before after (drained_text drained ∷ refused ∷ [])) turns
          (drained_so (λ (s : WorkerSlot g.row.B.Denot). s.seat) (λ (s : WorkerSlot g.row.B.Denot). s.worked) (known_by c.args.runtime.now named passes) c.from.result before c.args.slots.now c.work_all.new.slots drained (Some c.in-Some.refusal) is (omega (arith, c.work_all.auto.slots)) c.work_all.ensures c.delivered_by.ensures left (c.in-Some.ensures (λ i d within. (c.work_all.ensures i d (omega (arith, within, c.work_all.auto.slots))).refusal))),
      line_then c.write_answer.result old mid new (drained_text drained ∷ []) (refused ∷ [])
          (kept_appends old flushed mid (in_lines (drained_text drained ∷ [])) c.flush.ensures.bytes c.in_ok-write_line.ensures) c.write_answer.ensures,
    )
