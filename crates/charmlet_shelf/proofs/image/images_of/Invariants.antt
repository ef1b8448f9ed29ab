use Rattle.std.proofs.Common.{◌≡◌, length, take}
use Rattle.charmlet_model.specs.Shelves.{records_of}
use Rattle.charmlet_shelf.proofs.Images.{AreOf}
use Rattle.charmlet_shelf.proofs.image.images_of.Given as goal

-- the first ones have their images, and all show what they showed
abbrev pub invariant-loop-index : goal.invariant-loop-index
invariant-loop-index g l = record {
  long : length l.residents.entries ≡ length l.fn.residents.entries;
  same : records_of g.C.Chare.state l.residents.entries ≡ records_of g.C.Chare.state l.fn.residents.entries;
  so_far : AreOf (take l.index (records_of g.C.Chare.state l.fn.residents.entries)) l.images.items;
}
