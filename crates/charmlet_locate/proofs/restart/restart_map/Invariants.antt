use Rattle.std.proofs.Common.{take}
use Rattle.std.specs.List.Sorted.{IsStrictlySortedBy}
use Rattle.std.specs.Map.{keys_of}
use Rattle.charmlet_model.specs.Names.{elem_cmp}
use Rattle.charmlet_locate.specs.Locations.{AreAtHome}
use Rattle.charmlet_locate.proofs.restart.restart_map.Given as goal

abbrev pub invariant-loop-elem : goal.invariant-loop-elem
invariant-loop-elem l = record {
  rising : IsStrictlySortedBy elem_cmp (keys_of l.locations);
  at_home : AreAtHome l.processors (take l.elem-index l.elems) l.locations;
}
