use Rattle.std.proofs.Common.{◌+◌, ◌++◌, ◌∙◌, ap, drop, sym}
use Rattle.std.specs.List.{flat_map}
use Rattle.charmlet_model.specs.declared.message.Message.{Message}
use Rattle.charmlet_dump.specs.Facts.{pending_facts}
use Rattle.charmlet_dump.specs.Lines.{fact_line, lines_of}
use Rattle.charmlet_dump.proofs.Printing.{beginning_written, begun, breaks_off, ended, goes_on, left_over, none_left}
use Rattle.charmlet_dump.proofs.world_lines.write_pending.Goals as goal

pub loop-message-init : goal.loop-message-init
loop-message-init g c = begun (fact_line c.args.form) (g.W.Write.contents c.args.writer.now) (flat_map pending_facts c.args.pending.now)

pub loop-message-preserved : goal.loop-message-preserved
loop-message-preserved g c =
    let all = c.args.pending.now in
    let at = c.loop-message.message-index in
    let m : Message = c.message-item.result in
    let next = flat_map pending_facts (drop (at + 1) all) in
    let is = left_over pending_facts all at m c.loop-message-test.true ∙ ap (λ (x : Message). pending_facts x ++ next) (sym c.message-item.is) in
    goes_on (fact_line c.args.form) (g.W.Write.contents c.args.writer.now) (g.W.Write.contents c.loop-message.writer) (g.W.Write.contents c.write_fact.new.writer)
    (flat_map pending_facts all) (flat_map pending_facts (drop at all)) (pending_facts m) next
    c.loop-message.invariant is c.in_ok-write_fact.ensures

pub returns-in_err-write_fact : goal.returns-in_err-write_fact
returns-in_err-write_fact g c =
    let all = c.args.pending.now in
    let at = c.loop-message.message-index in
    let m : Message = c.message-item.result in
    let next = flat_map pending_facts (drop (at + 1) all) in
    let is = left_over pending_facts all at m c.loop-message-test.true ∙ ap (λ (x : Message). pending_facts x ++ next) (sym c.message-item.is) in
    let old = g.W.Write.contents c.args.writer.now in
    let new = g.W.Write.contents c.write_fact.new.writer in
    beginning_written c.from_residual.result _ old new (lines_of c.args.form (flat_map pending_facts all)) c.from_residual.ensures.1
    (breaks_off (fact_line c.args.form) old (g.W.Write.contents c.loop-message.writer) new
    (flat_map pending_facts all) (flat_map pending_facts (drop at all)) (pending_facts m) next
    c.loop-message.invariant is c.in_err-write_fact.ensures)

pub returns : goal.returns
returns g c =
    let all = c.args.pending.now in
    let at = c.loop-message.message-index in
    ended (fact_line c.args.form) (g.W.Write.contents c.args.writer.now) (g.W.Write.contents c.loop-message.writer)
    (flat_map pending_facts all) (flat_map pending_facts (drop at all)) c.loop-message.invariant (none_left pending_facts all at c.loop-message-test.false)
