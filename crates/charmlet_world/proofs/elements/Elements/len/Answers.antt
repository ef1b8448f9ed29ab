use Rattle.std.proofs.Common.{◌≡◌, ◌∙◌, length, sym, subst}
use Rattle.charmlet_world.specs.Standing.{Standing, risen}
use Rattle.charmlet_world.proofs.Risen.{risen_long}
use Rattle.charmlet_world.proofs.elements.Elements.len.Goals as goal

pub returns-clause-elements : goal.returns-clause-elements
returns-clause-elements c =
    let rows = c.self.inside.rows in
    subst (λ (s : Standing). c.len.result ≡ length (risen s.entries)) c.self.view_is (c.len.ensures.len ∙ sym (risen_long rows.entries c.len.ensures.unique))
