use Rattle.std.proofs.Common.{◌≡◌, ◌+◌, List, length}
use Rattle.charmlet_merge.proofs.Joins.{IsJoining}
use Rattle.charmlet_merge.specs.Combined.{IsJoinable}
use Rattle.charmlet_model.specs.declared.names.Elem.{Elem}
use Rattle.charmlet_model.specs.declared.state.Record.{Record}
use Rattle.charmlet_merge.proofs.combined.merge_replayers.Given as goal

-- the first replayers are in
abbrev pub invariant-replayers : goal.invariant-replayers
invariant-replayers g l = record {
  left : l.replayer-iterator.rest.len ≡ length l.replayer-iterator.rest.items;
  place : l.worker + length l.replayer-iterator.rest.items ≡ l.workers;
  many : l.workers ≡ length l.fn.replayers.items;
  so_far : (records : List (Elem × Record)) → IsJoinable l.processors records l.fn.replayers.items l.fn.shelves.items l.fn.stock →
      IsJoining l.processors records l.fn.replayers.items l.fn.shelves.items l.fn.stock l.worker l.replayer-iterator.rest.items l.shelves.items l.stock;
}
