use Rattle.std.proofs.Common.{ℕ, sym, subst}
use Rattle.charmlet_model.specs.Core.{Request}
use Rattle.charmlet_model.specs.Run.{Goes}
use Rattle.charmlet_history.specs.Kept.{told_or_refused}
use Rattle.charmlet_hub.specs.Hub.{store_in}
use Rattle.charmlet_watch.proofs.Calls.{goes_at}
use Rattle.charmlet_watch.proofs.watched.Watched.request.Goals as goal

pub note-requires-after_bounds : goal.note-requires-after_bounds
note-requires-after_bounds g c κs within =
    let done = c.request-told in
    goes_at _ c.self.inside.hub done.new.self (Request c.client-client.result c.args.request.now.number c.args.request.now.to c.args.request.now.entry c.args.request.now.words.now) (told_or_refused done.result) c.self.invariant (subst (λ (n : ℕ). Goes (store_in c.self.inside.hub) (Request n c.args.request.now.number c.args.request.now.to c.args.request.now.entry c.args.request.now.words.now) (told_or_refused done.result) (store_in done.new.self)) (sym c.client-client.ensures) done.ensures.goes)
