use Rattle.std.proofs.Common.{◌≡◌, ◌∙◌}
use Rattle.std.specs.Prelude.{Some}
use Rattle.indexmap.specs.Layout.{length-set_value_at}
use Rattle.charmlet_model.specs.declared.state.Resident.{Resident}
use Rattle.charmlet_model.specs.Shelves.{record_in}
use Rattle.charmlet_shelf.proofs.Images.{risen_still, shown_still}
use Rattle.charmlet_shelf.proofs.image.measure_all.Goals as goal

pub loop-index-preserved : goal.loop-index-preserved
loop-index-preserved g c =
    let state = g.C.Chare.state in
    let entries = c.loop-index.residents.entries in
    let at = c.loop-index.index in
    let old = c.pair_mut-resident.result.1.now in
    let new : Resident g.row.C.Denot = record { object = c.size.new.self; sent = old.sent; received = old.received } in
    let shows : record_in state new ≡ record_in state old = λ i. record { state = Some (c.size.ensures.same i); sent = old.sent; received = old.received } in
    record {
      long = length-set_value_at entries at new ∙ c.loop-index.invariant.long;
      same = shown_still state entries at c.pair_mut-resident.result.0.now old new c.pair_mut-resident.ensures.value shows ∙ c.loop-index.invariant.same;
    }

pub returns : goal.returns
returns g c = risen_still g.C.Chare.state c.args.residents.now.entries c.loop-index.residents.entries c.loop-index.invariant.same
