use Rattle.std.proofs.Common.{◌≡◌, sym, ap, subst, ◌∙◌}
use Rattle.std.specs.Prelude.{Some, IfOk, IfSome}
use Rattle.std.specs.BTreeMap.{is_at}
use Rattle.charmlet_model.specs.Names.{elem_cmp}
use Rattle.charmlet_model.specs.Shelves.{records_of}
use Rattle.charmlet_shelf.specs.Image.{IsImage}
use Rattle.charmlet_shelf.specs.Risen.{risen}
use Rattle.charmlet_shelf.proofs.Records.{at, shown_same, shown_there}
use Rattle.charmlet_shelf.proofs.Risen.{found_here, written_at}
use Rattle.charmlet_shelf.proofs.image.image_at.Goals as goal

pub returns-clause-ok : goal.returns-clause-ok
returns-clause-ok g c =
    let state = g.C.Chare.state in
    let entries = c.args.residents.now.entries in
    let old = c.pair_mut-resident.result.1.now in
    let here : at (risen entries) c.args.elem ≡ Some old = found_here entries c.args.elem c.in-Some.index c.in-Some.ensures.some c.pair_mut-resident.result.0.now old c.pair_mut-resident.ensures.value in
    subst (λ o. IfOk c.image_of.result (λ image. IfSome o (IsImage image c.args.elem))) (sym (shown_there state (risen entries) c.args.elem old here)) c.image_of.ensures.ok

pub returns-clause-same : goal.returns-clause-same
returns-clause-same g c =
    let state = g.C.Chare.state in
    let entries = c.args.residents.now.entries in
    let old = c.pair_mut-resident.result.1.now in
    let new = c.image_of.new.resident in
    let here : at (risen entries) c.args.elem ≡ Some old = found_here entries c.args.elem c.in-Some.index c.in-Some.ensures.some c.pair_mut-resident.result.0.now old c.pair_mut-resident.ensures.value in
    ap (records_of state) (written_at c.args.residents.now c.args.elem c.in-Some.index new c.pair_mut-resident.ensures.unique c.in-Some.ensures.some)
    ∙ shown_same state (is_at (elem_cmp c.args.elem)) (risen entries) old new here c.image_of.ensures.same
