use Rattle.std.proofs.Common.{◌≡◌, subst, slice_get, Some}
use Rattle.charmlet_world.specs.Standing.{Standing, element_in}
use Rattle.charmlet_world.proofs.elements.Elements.slot_near.Goals as goal

pub returns-in-Some-clause-found : goal.returns-in-Some-clause-found
returns-in-Some-clause-found c =
    subst (λ (s : Standing). slice_get s.entries c.in-Some.index ≡ Some (c.args.elem, element_in s.entries c.args.elem)) c.self.view_is c.in-Some.ensures.found
