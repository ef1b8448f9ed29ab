use Rattle.std.proofs.Common.{◌++◌, ◌∷◌, [], ap, ◌∙◌}
use Rattle.charmlet_model.specs.World.{request}
use Rattle.charmlet_world.specs.Changed.{accepted}
use Rattle.charmlet_world.specs.Seen.{Seen}
use Rattle.charmlet_world.specs.Standing.{risen}
use Rattle.charmlet_log_scan.proofs.world.ReplayWorld.accept.Goals as goal

pub returns-clause-ok : goal.returns-clause-ok
returns-clause-ok c =
    let own = c.self.inside in
    let pending = c.push.ensures.messages ∙ ap (λ ms. ms ++ request c.args.client c.args.number c.args.to c.args.entry c.args.words ∷ []) c.in_ok-make_room.ensures.messages in
    (λ i. record { manifest = own.manifest; processors = own.processors; elements = risen own.elements.entries; pending = pending i; clients = c.in_ok-note_request.ensures.ok i })
    ∙ ap (λ (k : Seen). accepted k c.args.client c.args.number c.args.to c.args.entry c.args.words) c.self.view_is
