use Rattle.std.proofs.Common.{◌≡◌, ◌+◌, ◌≤◌, length}
use Rattle.std.specs.Prelude.{Option}
use Rattle.charmlet_model.specs.declared.names.Elem.{Elem}
use Rattle.charmlet_model.specs.declared.state.State.{State}
use Rattle.charmlet_history.specs.Records.{records_from}
use Rattle.charmlet_persist.proofs.snapshot.records.count_records.Given as goal

abbrev pub invariant-loop-elem : goal.invariant-loop-elem
invariant-loop-elem l = record {
  count : (state : Elem → Option State) → l.count + length (records_from state l._elem-iterator) ≡ length (records_from state l.elements.entries);
  room : l.count + length l._elem-iterator ≤ length l.elements.entries;
}
