use Rattle.std.proofs.Common.{ℕ, sym, subst}
use Rattle.charmlet_model.specs.Core.{Status}
use Rattle.charmlet_model.specs.Run.{Goes}
use Rattle.charmlet_history.specs.Kept.{told_or_refused}
use Rattle.charmlet_hub.specs.Hub.{store_in}
use Rattle.charmlet_watch.proofs.Calls.{goes_at}
use Rattle.charmlet_watch.proofs.watched.Watched.status.Goals as goal

pub note-requires-after_bounds : goal.note-requires-after_bounds
note-requires-after_bounds g c κs within =
    let done = c.status-told in
    goes_at _ c.self.inside.hub done.new.self (Status c.client-client.result c.args.number) (told_or_refused done.result) c.self.invariant (subst (λ (n : ℕ). Goes (store_in c.self.inside.hub) (Status n c.args.number) (told_or_refused done.result) (store_in done.new.self)) (sym c.client-client.ensures) done.ensures.goes)
