use Rattle.std.proofs.Common.{◌≡◌, length}
use Rattle.charmlet_model.specs.Shelves.{records_of}
use Rattle.charmlet_shelf.proofs.image.measure_all.Given as goal

-- all show what they showed
abbrev pub invariant-loop-index : goal.invariant-loop-index
invariant-loop-index g l = record {
  long : length l.residents.entries ≡ length l.fn.residents.entries;
  same : records_of g.C.Chare.state l.residents.entries ≡ records_of g.C.Chare.state l.fn.residents.entries;
}
