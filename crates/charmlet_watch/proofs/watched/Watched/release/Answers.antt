use Rattle.std.proofs.Common.{ℕ, sym, subst}
use Rattle.charmlet_model.specs.Core.{Release, Done}
use Rattle.charmlet_model.specs.Run.{Goes}
use Rattle.charmlet_hub.specs.Hub.{store_in}
use Rattle.charmlet_watch.proofs.Calls.{goes_at}
use Rattle.charmlet_watch.proofs.watched.Watched.release.Goals as goal

pub note-requires-after_bounds : goal.note-requires-after_bounds
note-requires-after_bounds g c κs within =
    let done = c.release in
    goes_at _ c.self.inside.hub done.new.self (Release c.number-processor.result) (Done) c.self.invariant (subst (λ (n : ℕ). Goes (store_in c.self.inside.hub) (Release n) (Done) (store_in done.new.self)) (sym c.number-processor.ensures) done.ensures.goes)
