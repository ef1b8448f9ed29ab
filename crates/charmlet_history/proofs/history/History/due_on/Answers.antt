use Rattle.std.proofs.Common.{◌≡◌, rules, ap, ◌∙◌}
use Rattle.std.specs.Prelude.{Some}
use Rattle.charmlet_model.specs.World.{message_among}
use Rattle.charmlet_world.specs.Waiting.{message_of}
use Rattle.charmlet_history.specs.Kept.{Kept, core_in, processor_for}
use Rattle.charmlet_history.specs.Whole.{kept_of}
use Rattle.charmlet_history.proofs.Nexts.{due_is}
use Rattle.charmlet_history.proofs.history.History.due_on.Goals as goal

pub returns : goal.returns
returns c =
    let k = kept_of c.self.inside in
    let m = message_of c.args.id c.in_ok-pending_message.pending_message.now in
    let found : message_among c.args.id k.pending ≡ Some m = search rules in
    ap (λ p. Some p) c.place_or_home.ensures ∙ due_is k c.self.invariant.consistent c.args.id m found
    ∙ ap (λ (k : Kept). processor_for (core_in k) c.args.id) c.self.view_is
