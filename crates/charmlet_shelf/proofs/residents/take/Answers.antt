use Rattle.std.proofs.Common.{sym, ◌∙◌}
use Rattle.charmlet_shelf.proofs.Risen.{found_risen, risen_taken}
use Rattle.charmlet_shelf.proofs.residents.take.Goals as goal

pub returns-clause-value : goal.returns-clause-value
returns-clause-value g c = c.swap_remove.ensures.value ∙ sym (found_risen c.args.elem c.args.residents.now.entries)

pub returns-clause-entries : goal.returns-clause-entries
returns-clause-entries g c = risen_taken c.args.residents.now.entries c.swap_remove.new.self.entries c.args.elem c.swap_remove.ensures.updates.0
