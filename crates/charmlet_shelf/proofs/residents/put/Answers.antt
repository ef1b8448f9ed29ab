use Rattle.charmlet_shelf.proofs.Risen.{risen_put}
use Rattle.charmlet_shelf.proofs.residents.put.Goals as goal

pub returns-in-Ok-clause-ok : goal.returns-in-Ok-clause-ok
returns-in-Ok-clause-ok g c = risen_put c.args.residents.now.entries c.insert.new.self.entries c.args.elem c.args.resident c.in-Ok.ensures.updates.0
