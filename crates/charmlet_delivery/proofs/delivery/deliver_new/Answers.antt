use Rattle.charmlet_delivery.specs.Workplace.{store_with, workplace_of}
use Rattle.charmlet_delivery.proofs.Assigning.{ends_so}
use Rattle.charmlet_delivery.proofs.Turning.{turns_on}
use Rattle.charmlet_delivery.proofs.delivery.deliver_new.Goals as goal

pub returns-clause-ends : goal.returns-clause-ends
returns-clause-ends g c =
    ends_so (store_with c.args.history.now c.args.stock.now) (store_with c.assign_tested.new.history c.assign_tested.new.stock) (store_with c.perform.new.history c.perform.new.stock)
    c.args.shelf.now.number c.assign_tested.new.shelf.number c.args.id c.assign_tested.ensures.turns.number c.in_default.ensures.goes c.perform.result c.perform.ensures.ok c.perform.ensures.err

pub returns-clause-turns : goal.returns-clause-turns
returns-clause-turns g c =
    turns_on (workplace_of c.args.history.now c.args.shelf.now c.args.stock.now) (workplace_of c.assign_tested.new.history c.assign_tested.new.shelf c.assign_tested.new.stock)
    (workplace_of c.perform.new.history c.perform.new.shelf c.perform.new.stock) c.assign_tested.ensures.turns c.perform.ensures.turns
