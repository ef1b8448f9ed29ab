use Rattle.std.proofs.Common.{ap, ◌∙◌}
use Rattle.charmlet_shelf.specs.Count.{objects_on}
use Rattle.charmlet_shelf.specs.Shelf.{View}
use Rattle.charmlet_shelf.specs.Risen.{risen}
use Rattle.charmlet_shelf.proofs.CountsLemmas.{by_shown, counts_phase}
use Rattle.charmlet_shelf.proofs.Records.{Rising}
use Rattle.charmlet_shelf.proofs.shelf.Shelf.count.Goals as goal

pub returns : goal.returns
returns g c =
    let state = g.C.Chare.state in
    let es = risen c.self.inside.residents.entries in
    let rising : Rising es = c.count_residents.ensures.ordered in
    c.count_residents.ensures.count ∙ by_shown c.args.kind state es ∙ counts_phase c.args.kind state es rising c.self.inside.phase c.self.invariant
    ∙ ap (λ (v : View). objects_on v c.args.kind) c.self.view_is
