use Rattle.std.proofs.Common.{◌≤◌, map, sym, subst}
use Rattle.charmlet_workers.specs.declared.work.WorkerSlot.{WorkerSlot}
use Rattle.charmlet_requests.specs.declared.handlers.Handlers.{Handlers}
use Rattle.charmlet_script.specs.Script.{blanks_of}
use Rattle.charmlet_stock.specs.Stock.{blanks_in}
use Rattle.charmlet_cli_workers.specs.Heard.{IsDoneBy, known_by, names_in}
use Rattle.charmlet_cli_workers.specs.Left.{Prints}
use Rattle.charmlet_cli_workers.proofs.Leavings.{ends_early, left_apart, prints_apart}
use Rattle.charmlet_cli_workers.proofs.opened.run_opened.Goals as goal

pub run_on-ran-requires-clause-enough : goal.run_on-ran-requires-clause-enough
run_on-ran-requires-clause-enough g c _ _ = λ kind. subst (λ s. blanks_of kind c.args.lines.now.lines.now ≤ blanks_in s kind) (sym c.new-floor.ensures.source) (c.requires.enough kind)

pub returns-clause-left : goal.returns-clause-left
returns-clause-left g c =
    let passes = c.run_on-ran.new.floor.clients.passes.items in
    let lists = map (λ (s : WorkerSlot g.row.B.Denot). s.seat.ids) c.run_on-ran.new.floor.slots.items in
    let lines = c.args.lines.now in
    let was = g.W.Write.contents c.args.writer.now in
    let now = g.W.Write.contents c.run_on-ran.new.writer in
    let names = names_in c.args.given.handlers in
    let prints = subst (λ (hs : Handlers). Prints c.run_on-ran.result lines.restarted (known_by c.args.runtime (names_in hs) passes) (IsDoneBy passes lists) lines.lines.now was now) c.new-floor.ensures.handlers c.run_on-ran.ensures.prints in
    left_apart g.D.Disk c.args.runtime names passes lists c.take_apart.result.disk c.run_on-ran.result c.take_apart.result.result lines.restarted lines.lines.now was now c.requires.restarted c.take_apart.ensures.left c.take_apart.ensures.same prints

pub returns-clause-prints : goal.returns-clause-prints
returns-clause-prints g c =
    let passes = c.run_on-ran.new.floor.clients.passes.items in
    let lists = map (λ (s : WorkerSlot g.row.B.Denot). s.seat.ids) c.run_on-ran.new.floor.slots.items in
    let lines = c.args.lines.now in
    prints_apart (known_by c.args.runtime (names_in c.new-floor.result.handlers) passes) (IsDoneBy passes lists) lines.restarted lines.lines.now (g.W.Write.contents c.args.writer.now) (g.W.Write.contents c.run_on-ran.new.writer) c.take_apart.result.disk c.run_on-ran.result c.take_apart.result.result
    c.take_apart.ensures.same c.take_apart.ensures.back c.take_apart.ensures.err c.run_on-ran.ensures.prints

pub returns-clause-err : goal.returns-clause-err
returns-clause-err g c =
    ends_early c.run_on-ran.result c.take_apart.result.result c.take_apart.result.disk c.args.writer.now c.run_on-ran.new.writer c.run_on-ran.ensures.err c.take_apart.ensures.err
