use Rattle.std.proofs.Common.{◌≡◌}
use Rattle.charmlet_store.proofs.Upgrades.{firsts}
use Rattle.charmlet_store.proofs.upgraded.upgrade_shelves.Given as goal

-- the first ones have gone on, and the others are as they were
abbrev pub invariant-loop-index : goal.invariant-loop-index
invariant-loop-index g l = l.shelves.items ≡ firsts l.index l.fn.shelves.items
