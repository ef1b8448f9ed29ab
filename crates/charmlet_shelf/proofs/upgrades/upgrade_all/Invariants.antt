use Rattle.std.proofs.Common.{◌≡◌, length}
use Rattle.charmlet_model.specs.Shelves.{records_of}
use Rattle.charmlet_shelf.proofs.Newest.{ups}
use Rattle.charmlet_shelf.proofs.upgrades.upgrade_all.Given as goal

-- the first ones have gone on, and the others are as they were
abbrev pub invariant-loop-index : goal.invariant-loop-index
invariant-loop-index g l =
    (length l.residents.entries ≡ length l.fn.residents.entries)
    × (records_of g.C.Chare.state l.residents.entries ≡ ups l.index (records_of g.C.Chare.state l.fn.residents.entries))
