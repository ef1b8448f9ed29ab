use Rattle.indexmap.specs.Layout.{length-set_value_at}
use Rattle.charmlet_model.specs.Shelves.{record_in}
use Rattle.charmlet_shelf.proofs.Images.{shown_index, shown_still}
use Rattle.std.proofs.lemmas.Result.{IfOk-weaker}
use Rattle.charmlet_shelf.proofs.image.image_standing.Goals as goal

pub returns-clause-ok : goal.returns-clause-ok
returns-clause-ok g c =
    let state = g.C.Chare.state in
    let x = c.pair_mut-resident.result.0.now in
    let old = c.pair_mut-resident.result.1.now in
    IfOk-weaker c.image_of.result _ _ (λ image is. ((x, record_in state old), shown_index state c.args.residents.now.entries c.args.index x old c.pair_mut-resident.ensures.value, is)) c.image_of.ensures.ok

pub returns-clause-same : goal.returns-clause-same
returns-clause-same g c =
    shown_still g.C.Chare.state c.args.residents.now.entries c.args.index c.pair_mut-resident.result.0.now c.pair_mut-resident.result.1.now c.image_of.new.resident c.pair_mut-resident.ensures.value c.image_of.ensures.same

pub returns-clause-len : goal.returns-clause-len
returns-clause-len g c = length-set_value_at c.args.residents.now.entries c.args.index c.image_of.new.resident
