use Rattle.std.proofs.Common.{List, ap, subst, sym}
use Rattle.std.specs.List.{flat_map}
use Rattle.charmlet_model.specs.declared.names.Elem.{Elem}
use Rattle.charmlet_model.specs.declared.state.Record.{Record}
use Rattle.charmlet_dump.specs.Facts.{Fact, element_facts}
use Rattle.charmlet_dump.specs.Lines.{fact_line, lines_of}
use Rattle.charmlet_dump.proofs.Printing.{IsUnderWay, beginning_written, begun, breaks_off, ended, goes_on}
use Rattle.charmlet_dump.proofs.world_lines.write_elements.Goals as goal

pub loop-elem-init : goal.loop-elem-init
loop-elem-init g c =
    let line = fact_line c.args.form in
    let of : Elem × Record → List Fact = element_facts c.args.processors in
    let old = g.W.Write.contents c.args.writer.now in
    let all = flat_map of c.args.records.now.entries in
    subst (λ (es : List (Elem × Record)). IsUnderWay line old old all (flat_map of es)) (sym c.into_iter-elem-iterator.ensures.into_iter_gives.0) (begun line old all)

pub loop-elem-preserved : goal.loop-elem-preserved
loop-elem-preserved g c =
    let of : Elem × Record → List Fact = element_facts c.args.processors in
    let e : Elem × Record = (c.in-Some.elem.now, c.in-Some.kept.now) in
    goes_on (fact_line c.args.form) (g.W.Write.contents c.args.writer.now) (g.W.Write.contents c.loop-elem.writer) (g.W.Write.contents c.write_element.new.writer)
    (flat_map of c.args.records.now.entries) (flat_map of c.loop-elem.elem-iterator) (of e) (flat_map of c.next.new.self)
    c.loop-elem.invariant (ap (flat_map of) c.in-Some.ensures.steps) c.in_ok-write_element.ensures

pub returns-in_err-write_element : goal.returns-in_err-write_element
returns-in_err-write_element g c =
    let of : Elem × Record → List Fact = element_facts c.args.processors in
    let e : Elem × Record = (c.in-Some.elem.now, c.in-Some.kept.now) in
    let old = g.W.Write.contents c.args.writer.now in
    let new = g.W.Write.contents c.write_element.new.writer in
    let all = flat_map of c.args.records.now.entries in
    beginning_written c.from_residual.result _ old new (lines_of c.args.form all) c.from_residual.ensures.1
    (breaks_off (fact_line c.args.form) old (g.W.Write.contents c.loop-elem.writer) new
    all (flat_map of c.loop-elem.elem-iterator) (of e) (flat_map of c.next.new.self)
    c.loop-elem.invariant (ap (flat_map of) c.in-Some.ensures.steps) c.in_err-write_element.ensures)

pub returns : goal.returns
returns g c =
    let of : Elem × Record → List Fact = element_facts c.args.processors in
    ended (fact_line c.args.form) (g.W.Write.contents c.args.writer.now) (g.W.Write.contents c.loop-elem.writer)
    (flat_map of c.args.records.now.entries) (flat_map of c.loop-elem.elem-iterator) c.loop-elem.invariant (ap (flat_map of) c.in-None.ensures.steps.0)
