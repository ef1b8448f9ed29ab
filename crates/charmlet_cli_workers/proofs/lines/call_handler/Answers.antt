use Rattle.charmlet_history.specs.declared.request.Request.{Request}
use Rattle.charmlet_cli_workers.specs.Heard.{names_in}
use Rattle.charmlet_cli_workers.proofs.Asking.{told_answers}
use Rattle.charmlet_cli_workers.proofs.lines.call_handler.Goals as goal

pub returns-clause-did : goal.returns-clause-did
returns-clause-did g c = λ lists before done.
    let call = c.args.call.now in
    let handler = c.target-handler.result in
    let request : Request = record { number = call.number; to = record { array = handler.array; index = call.index }; entry = handler.entry; words = call.words } in
    let did = told_answers c.args.runtime.now (names_in c.args.handlers.now) c.args.clients.now.passes.items c.request.new.self.passes.items lists before call.client request c.request.result done c.request.ensures.asked c.request.ensures.unasked c.request.ensures.told c.request.ensures.untold c.request.ensures.heard c.request.ensures.reached c.request.ensures.err c.request.ensures.cause in
    (did.0, handler.array, handler.entry, did.1, c.target-handler.ensures call.index, did.2)
