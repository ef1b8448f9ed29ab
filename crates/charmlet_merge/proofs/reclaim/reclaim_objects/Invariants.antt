use Rattle.std.proofs.Common.{◌≡◌, ◌+◌, true, length}
use Rattle.std.specs.List.{AllByRecursion}
use Rattle.charmlet_model.specs.declared.kind.Kind.{Kind}
use Rattle.charmlet_stock.specs.ByKind.{for_all}
use Rattle.charmlet_stock.specs.Stock.{blanks_in, keeping_of, supplied_to}
use Rattle.charmlet_stock.specs.Absorption.Absorbed.{retired_in}
use Rattle.charmlet_replay.specs.RestoredShard.{IsHeld}
use Rattle.charmlet_merge.specs.Combined.{drawn_by_replayers}
use Rattle.charmlet_merge.proofs.reclaim.reclaim_objects.Given as goal

-- the objects of some replayers went back
abbrev pub invariant-replayers : goal.invariant-replayers
invariant-replayers g l = record {
  left : l.replayer-iterator.rest.len ≡ length l.replayer-iterator.rest.items;
  held : AllByRecursion (λ replayer. IsHeld replayer.restored) l.replayer-iterator.rest.items;
  shared : (kind : Kind) → supplied_to l.stock kind ≡ drawn_by_replayers l.replayer-iterator.rest.items kind + blanks_in l.stock kind + retired_in l.stock kind;
  supplied : (kind : Kind) → supplied_to l.stock kind ≡ supplied_to l.fn.stock kind;
  keeping : keeping_of l.stock ≡ for_all true;
}
