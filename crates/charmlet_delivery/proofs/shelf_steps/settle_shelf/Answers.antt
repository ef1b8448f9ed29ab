use Rattle.std.proofs.Common.{refl}
use Rattle.charmlet_model.specs.Reaction.{kind_of}
use Rattle.charmlet_stock.proofs.Blanks.{retired_blanks, same_supplied}
use Rattle.charmlet_delivery.proofs.Counting.{retired_as_before}
use Rattle.charmlet_delivery.proofs.shelf_steps.settle_shelf.Goals as goal

pub returns-in-Some-clause-blanks : goal.returns-in-Some-clause-blanks
returns-in-Some-clause-blanks g c = retired_blanks c.args.stock.now c.retire.new.self _ c.retire.ensures.census

pub returns-in-Some-clause-held : goal.returns-in-Some-clause-held
returns-in-Some-clause-held g c =
    retired_as_before g.C.Chare.state c.in-Some.object c.args.shelf.now c.args.shelf.now c.settle.new.self (λ kind. refl) (λ kind. c.in-Some.ensures.count kind) c.args.stock.now c.retire.new.self c.retire.ensures.census

pub returns-in-Some-clause-supplied : goal.returns-in-Some-clause-supplied
returns-in-Some-clause-supplied g c = same_supplied c.args.stock.now c.retire.new.self (kind_of (g.C.Chare.state c.in-Some.object)) _ c.retire.ensures.census refl
