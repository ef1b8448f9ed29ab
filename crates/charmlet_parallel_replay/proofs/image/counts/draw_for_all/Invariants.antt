use Rattle.std.proofs.Common.{◌≡◌, List, [], drop}
use Rattle.charmlet_model.specs.declared.names.Elem.{Elem}
use Rattle.charmlet_model.specs.declared.state.Record.{Record}
use Rattle.charmlet_image.specs.Positioned.{items_of}
use Rattle.charmlet_parallel_replay.specs.Image.Counts.{AreCountsOf}
use Rattle.charmlet_parallel_replay.specs.Image.Keeping.{KeepsOne}
use Rattle.charmlet_parallel_replay.proofs.ImageLemmas.Counted.{DrawnSoFar}
use Rattle.charmlet_parallel_replay.proofs.image.counts.draw_for_all.Given as goal

-- there are blanks for the deliveries so far
abbrev pub invariant-loop-placed : goal.invariant-loop-placed
invariant-loop-placed g l = record {
  keeps : KeepsOne l.fn.stock l.stock l.fn.restored l.restored;
  rest : l.restored ≡ record l.fn.restored { stock = l.restored.stock };
  drawn : (records : List (Elem × Record)) → AreCountsOf [] l.fn.restored.elements.entries records →
      DrawnSoFar l.manifest records (items_of l.deliveries) (items_of (drop l.placed-index l.deliveries)) l.fn.stock l.fn.restored l.counts.entries l.stock l.restored;
}
