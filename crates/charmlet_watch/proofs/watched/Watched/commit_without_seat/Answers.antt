use Rattle.std.proofs.Common.{ℕ, sym, subst}
use Rattle.charmlet_model.specs.Core.{Commit}
use Rattle.charmlet_model.specs.Run.{Goes}
use Rattle.charmlet_delivery.specs.Workplace.{done_or_refused}
use Rattle.charmlet_hub.specs.Hub.{store_in}
use Rattle.charmlet_watch.proofs.Calls.{goes_at}
use Rattle.charmlet_watch.proofs.watched.Watched.commit_without_seat.Goals as goal

pub note-requires-after_bounds : goal.note-requires-after_bounds
note-requires-after_bounds g c κs within =
    let done = c.commit_without_seat-committed in
    goes_at _ c.self.inside.hub done.new.self (Commit c.number-processor.result) (done_or_refused done.result) c.self.invariant (subst (λ (n : ℕ). Goes (store_in c.self.inside.hub) (Commit n) (done_or_refused done.result) (store_in done.new.self)) (sym c.number-processor.ensures) done.ensures.goes)
