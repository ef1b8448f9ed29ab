use Rattle.std.proofs.Common.{◌≡◌, ◌++◌, All, length}
use Rattle.std.specs.List.{flat_map}
use Rattle.charmlet_pup.specs.Fields.{number_bytes}
use Rattle.charmlet_persist.specs.Snapshot.Showing.{AreShort}
use Rattle.charmlet_persist.proofs.SnapshotLemmas.Lists.{spell_rows}
use Rattle.charmlet_persist.proofs.snapshot.clients.append_clients.Given as goal

abbrev pub invariant-loop-client : goal.invariant-loop-client
invariant-loop-client l = record {
  bytes : l.out.items ++ flat_map spell_rows l.client-iterator ≡ (l.fn.out.items ++ number_bytes 4 (length l.clients.entries)) ++ flat_map spell_rows l.clients.entries;
  short : All (λ e. AreShort e.1.present) l.client-iterator;
}
