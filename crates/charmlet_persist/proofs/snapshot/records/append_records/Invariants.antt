use Rattle.std.proofs.Common.{◌≡◌, ◌++◌, All, length}
use Rattle.std.specs.List.{flat_map}
use Rattle.charmlet_pup.specs.Fields.{number_bytes}
use Rattle.charmlet_model.specs.Core.{present}
use Rattle.charmlet_image.specs.Images.{spell_entry}
use Rattle.charmlet_history.specs.Kept.{core_in}
use Rattle.charmlet_history.specs.Records.{records_from}
use Rattle.charmlet_persist.specs.Snapshot.Showing.{state_in}
use Rattle.charmlet_persist.proofs.SnapshotLemmas.Lists.{IsOwn}
use Rattle.charmlet_persist.proofs.snapshot.records.append_records.Given as goal

abbrev pub invariant-loop-elem : goal.invariant-loop-elem
invariant-loop-elem g l = record {
  bytes : l.out.items ++ flat_map spell_entry (records_from (state_in l.history) l.elem-iterator)
      ≡ (l.fn.out.items ++ number_bytes 4 (length (present (core_in l.history)).records)) ++ flat_map spell_entry (records_from (state_in l.history) l.history.elements);
  own : All (IsOwn l.history.elements) l.elem-iterator;
  same : l.shelves ≡ l.fn.shelves;
}
