use Rattle.charmlet_shelf.proofs.Risen.{risen_put}
use Rattle.charmlet_persist.proofs.fuzzy_checkpoint.captured_element.put.Goals as goal

pub returns-in-Ok-clause-ok : goal.returns-in-Ok-clause-ok
returns-in-Ok-clause-ok c = risen_put c.args.table.now.entries c.insert.new.self.entries c.args.elem c.args.captured c.in-Ok.ensures.updates.0
