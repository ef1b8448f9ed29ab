use Rattle.std.proofs.Common.{List, ap, ◌∙◌}
use Rattle.charmlet_model.specs.declared.names.Elem.{Elem}
use Rattle.charmlet_model.specs.declared.state.Record.{Record}
use Rattle.charmlet_shelf.specs.Risen.{risen}
use Rattle.charmlet_shelf.specs.Shelf.{View, records_before}
use Rattle.charmlet_shelf.proofs.Images.{shows_still}
use Rattle.charmlet_shelf.proofs.shelf.Shelf.measure.Goals as goal

pub invariant_of-self : goal.invariant_of-self
invariant_of-self g c =
    shows_still g.C.Chare.state (risen c.self.inside.residents.entries) (risen c.measure_all.new.residents.entries) c.measure_all.ensures c.self.inside.phase c.self.invariant

pub returns : goal.returns
returns g c =
    let records = ap (λ (rs : List (Elem × Record)). records_before rs c.self.inside.phase) c.measure_all.ensures ∙ ap (λ (v : View). v.records) c.self.view_is in
    λ i. record { number = ap (λ (v : View). v.number) c.self.view_is i; records = records i; phase = ap (λ (v : View). v.phase) c.self.view_is i }
