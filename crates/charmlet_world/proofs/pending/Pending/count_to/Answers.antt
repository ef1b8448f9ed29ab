use Rattle.std.proofs.Common.{ap, ◌∙◌, length}
use Rattle.charmlet_world.specs.declared.receivers.Receiver.{Receiver}
use Rattle.charmlet_world.specs.Tied.{calls_down}
use Rattle.charmlet_world.specs.Waiting.{Waiting}
use Rattle.charmlet_world.proofs.Enveloped.{calls_are}
use Rattle.charmlet_world.proofs.pending.Pending.count_to.Goals as goal

pub returns : goal.returns
returns c =
    let es = c.self.inside.envelopes.entries in
    let to = c.args.to in
    ap (λ (r : Receiver). r.count) c.receiver.ensures ∙ (c.self.invariant.counted to).count ∙ ap length (calls_are to es)
    ∙ ap (λ (w : Waiting). length (calls_down to w.seq_nos w.messages)) c.self.view_is
