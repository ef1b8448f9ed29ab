use Rattle.std.proofs.Common.{◌∙◌, ap}
use Rattle.charmlet_model.specs.Core as core
use Rattle.charmlet_history.specs.Kept.{told_or_refused}
use Rattle.charmlet_delivery.specs.Workplace.{done_or_refused}
use Rattle.charmlet_store.specs.Store.{store_in}
use Rattle.charmlet_engine.specs.Outcomes.{is_no_fault, is_still}
use Rattle.charmlet_engine.proofs.Quiets.{ends_quiet, goes_quiet, told_goes_on, told_still}
use Rattle.charmlet_engine.proofs.memory.answer_in_memory.Goals as goal

pub returns-in-Request-clause-quiet : goal.returns-in-Request-clause-quiet
returns-in-Request-clause-quiet g c =
    let r = c.in-Request in
    goes_quiet (store_in c.args.store.now) (store_in c.request.new.self) (core.Request r.client r.number r.to r.entry c.as_slice.result.now) (told_or_refused c.request.result) tt c.request.ensures.goes

pub returns-in-Request-clause-no_fault : goal.returns-in-Request-clause-no_fault
returns-in-Request-clause-no_fault g c =
    let r = c.in-Request in
    ap is_no_fault c.told_or_refused.ensures
    ∙ told_goes_on (store_in c.args.store.now) (store_in c.request.new.self) (core.Request r.client r.number r.to r.entry c.as_slice.result.now) c.request.result tt c.request.ensures.goes

pub returns-in-Err-clause-quiet : goal.returns-in-Err-clause-quiet
returns-in-Err-clause-quiet g c = ends_quiet (store_in c.args.store.now) (store_in c.deliver.new.self) c.in-Deliver.processor c.in-Deliver.id c.deliver.result c.deliver.ensures.ends

pub returns-in-Ok-relocate-clause-quiet : goal.returns-in-Ok-relocate-clause-quiet
returns-in-Ok-relocate-clause-quiet g c =
    goes_quiet (store_in c.args.store.now) (store_in c.relocate.new.self) (core.Move c.in-Move.elem c.in-Move.processor) (done_or_refused c.relocate.result) tt c.relocate.ensures.goes

pub returns-in-Err-relocate-clause-quiet : goal.returns-in-Err-relocate-clause-quiet
returns-in-Err-relocate-clause-quiet g c =
    goes_quiet (store_in c.args.store.now) (store_in c.relocate.new.self) (core.Move c.in-Move.elem c.in-Move.processor) (done_or_refused c.relocate.result) tt c.relocate.ensures.goes

pub returns-in-Request-clause-still : goal.returns-in-Request-clause-still
returns-in-Request-clause-still g c =
    let r = c.in-Request in
    ap is_still c.told_or_refused.ensures
    ∙ told_still (store_in c.args.store.now) (store_in c.request.new.self) (core.Request r.client r.number r.to r.entry c.as_slice.result.now) c.request.result tt c.request.ensures.goes
