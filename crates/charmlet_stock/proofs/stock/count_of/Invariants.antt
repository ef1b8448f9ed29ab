use Rattle.std.proofs.Common.{◌≡◌, take}
use Rattle.charmlet_model.specs.Shelves.{count_of}
use Rattle.charmlet_stock.proofs.stock.count_of.Given as goal

-- those so far are counted
abbrev pub invariant-loop-object : goal.invariant-loop-object
invariant-loop-object g l = l.count ≡ count_of g.C.Chare.state (take l.object-index l.objects) l.kind
