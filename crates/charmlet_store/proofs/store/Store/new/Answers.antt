use Rattle.std.proofs.Common.{ap}
use Rattle.charmlet_stock.specs.declared.pile.Tally.{Tally}
use Rattle.charmlet_store.proofs.Shelved.{new_consistent}
use Rattle.charmlet_store.proofs.store.Store.new.Goals as goal

pub returns-clause-blanks : goal.returns-clause-blanks
returns-clause-blanks g c = λ kind. ap (λ (t : Tally). t.in_stock) (c.new.ensures.tally kind)

pub returns-clause-supplied : goal.returns-clause-supplied
returns-clause-supplied g c = λ kind. ap (λ (t : Tally). t.supplied) (c.new.ensures.tally kind)

pub invariant_of-result : goal.invariant_of-result
invariant_of-result g c =
    new_consistent (record { alloc = c.args.alloc; history = c.args.history; shelves = c.args.shelves; stock = c.new.result }) c.requires.new c.requires.empty c.new.ensures.tally
