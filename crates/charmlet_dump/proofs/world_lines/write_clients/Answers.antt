use Rattle.std.proofs.Common.{List, ℕ, ap, subst, sym}
use Rattle.std.specs.List.{flat_map}
use Rattle.charmlet_model.specs.declared.client.ClientRow.{ClientRow}
use Rattle.charmlet_dump.specs.Facts.{Fact, client_facts}
use Rattle.charmlet_dump.specs.Lines.{fact_line, lines_of}
use Rattle.charmlet_dump.proofs.Printing.{IsUnderWay, beginning_written, begun, breaks_off, ended, goes_on}
use Rattle.charmlet_dump.proofs.world_lines.write_clients.Goals as goal

pub loop-client-init : goal.loop-client-init
loop-client-init g c =
    let line = fact_line c.args.form in
    let of : ℕ × ClientRow → List Fact = client_facts in
    let old = g.W.Write.contents c.args.writer.now in
    let all = flat_map of c.args.clients.now.entries in
    subst (λ (es : List (ℕ × ClientRow)). IsUnderWay line old old all (flat_map of es)) (sym c.into_iter-client-iterator.ensures.into_iter_gives.0) (begun line old all)

pub loop-client-preserved : goal.loop-client-preserved
loop-client-preserved g c =
    let of : ℕ × ClientRow → List Fact = client_facts in
    let e : ℕ × ClientRow = (c.in-Some.client.now, c.in-Some.row.now) in
    goes_on (fact_line c.args.form) (g.W.Write.contents c.args.writer.now) (g.W.Write.contents c.loop-client.writer) (g.W.Write.contents c.write_client.new.writer)
    (flat_map of c.args.clients.now.entries) (flat_map of c.loop-client.client-iterator) (of e) (flat_map of c.next.new.self)
    c.loop-client.invariant (ap (flat_map of) c.in-Some.ensures.steps) c.in_ok-write_client.ensures

pub returns-in_err-write_client : goal.returns-in_err-write_client
returns-in_err-write_client g c =
    let of : ℕ × ClientRow → List Fact = client_facts in
    let e : ℕ × ClientRow = (c.in-Some.client.now, c.in-Some.row.now) in
    let old = g.W.Write.contents c.args.writer.now in
    let new = g.W.Write.contents c.write_client.new.writer in
    let all = flat_map of c.args.clients.now.entries in
    beginning_written c.from_residual.result _ old new (lines_of c.args.form all) c.from_residual.ensures.1
    (breaks_off (fact_line c.args.form) old (g.W.Write.contents c.loop-client.writer) new
    all (flat_map of c.loop-client.client-iterator) (of e) (flat_map of c.next.new.self)
    c.loop-client.invariant (ap (flat_map of) c.in-Some.ensures.steps) c.in_err-write_client.ensures)

pub returns : goal.returns
returns g c =
    let of : ℕ × ClientRow → List Fact = client_facts in
    ended (fact_line c.args.form) (g.W.Write.contents c.args.writer.now) (g.W.Write.contents c.loop-client.writer)
    (flat_map of c.args.clients.now.entries) (flat_map of c.loop-client.client-iterator) c.loop-client.invariant (ap (flat_map of) c.in-None.ensures.steps.0)
