use Rattle.std.proofs.Common.{ap, ◌∙◌}
use Rattle.std.specs.BTreeMap.{insert_entry}
use Rattle.charmlet_model.specs.Names.{elem_cmp}
use Rattle.charmlet_world.specs.Standing.{element_in}
use Rattle.charmlet_world.proofs.Risen.{inserted_again}
use Rattle.charmlet_world.proofs.elements.Elements.put.Goals as goal

pub returns : goal.returns
returns c =
    let es = c.args.self.now.entries in
    let x = c.args.elem in
    c.set.ensures.risen x (element_in es x) c.in_ok-slot.ensures.found
    ∙ ap (λ rows. insert_entry elem_cmp rows x c.args.element) c.in_ok-slot.ensures.risen
    ∙ inserted_again es x (element_in es x) c.args.element
