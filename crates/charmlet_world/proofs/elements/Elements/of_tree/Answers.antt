use Rattle.std.proofs.Common.{◌≡◌, [], ap, sym, ◌∙◌}
use Rattle.charmlet_model.specs.Names.{elem_cmp}
use Rattle.charmlet_model.proofs.Maps.{elem_total}
use Rattle.charmlet_world.specs.Made.{as_it_is, with_made}
use Rattle.charmlet_world.specs.Standing.{risen}
use Rattle.charmlet_world.proofs.Made.{made_again}
use Rattle.charmlet_world.proofs.elements.Elements.of_tree.Goals as goal

pub returns : goal.returns
returns c =
    let rows = risen c.loop-elem.elements.entries in
    let none : c.loop-elem.elem-iterator ≡ [] = c.in-None.ensures.steps.0 in
    sym (ap (with_made elem_cmp as_it_is rows) none) ∙ c.loop-elem.invariant ∙ made_again elem_cmp elem_total c.args.tree.entries c.len.ensures.ordered
