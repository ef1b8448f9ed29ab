use Rattle.charmlet_model.specs.Core.{Flush}
use Rattle.charmlet_history.specs.Kept.{counts_or_refused}
use Rattle.charmlet_watch.proofs.Calls.{goes_at}
use Rattle.charmlet_watch.proofs.watched.Watched.flush.Goals as goal

pub note-requires-after_bounds : goal.note-requires-after_bounds
note-requires-after_bounds g c κs within =
    let done = c.flush-flushed in
    goes_at _ c.self.inside.hub done.new.self (Flush) (counts_or_refused done.result) c.self.invariant done.ensures.goes
