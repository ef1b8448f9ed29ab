use Rattle.std.proofs.Common.{◌≡◌, [], ◌∷◌, ap, get_or}
use Rattle.std.specs.Prelude.{slice_set}
use Rattle.charmlet_parallel_replay.specs.Image.Given.{AreGivenOne, HasMoreDeliveries}
use Rattle.charmlet_parallel_replay.proofs.ImageLemmas.Giving.{given_one}
use Rattle.charmlet_parallel_replay.proofs.ImageLemmas.Results.{ok_then}
use Rattle.charmlet_parallel_replay.proofs.image.deliveries.give_delivery.Goals as goal

pub returns-clause-ok : goal.returns-clause-ok
returns-clause-ok g c =
    let replayers = c.args.replayers.now in
    let i = c.args.worker in
    let old = get_or replayers i c.index-replayers-worker.result in
    let is : old ≡ get_or replayers i old = ap (get_or replayers i) c.index-replayers-worker.is in
    let new = c.take_delivery.new.replayer in
    ok_then c.take_delivery.result (HasMoreDeliveries (c.args.placed ∷ []) old new) (AreGivenOne i c.args.placed replayers (slice_set replayers i new))
    (given_one replayers i c.requires.within old is new c.args.placed) c.take_delivery.ensures.ok
