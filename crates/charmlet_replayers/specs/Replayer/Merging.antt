-- Shelves that are taken from replayers.
use Rattle.std.specs.Prelude.{◌≡◌, ℕ, ◌<◌, List, length, slice_index_or}
use Rattle.charmlet_model.specs.declared.names.Elem.{Elem}
use Rattle.charmlet_model.specs.declared.state.Record.{Record}
use Rattle.std.specs.BTreeMap.{is_at}
use Rattle.std.specs.List.Sorted.{IsStrictlySortedBy}
use Rattle.std.specs.Map.{keys_of, lookup}
use Rattle.charmlet_model.specs.Names.{elem_cmp}
use Rattle.charmlet_model.specs.Core.{home}
use Rattle.charmlet_shard.specs.Opened.{opened_elements}
use Rattle.charmlet_shard.specs.element.Element.{Element}
use Rattle.charmlet_shelf.specs.Shelf.{View}
use Rattle.charmlet_log_scan.specs.Partition.Parts.{is_of_worker, part}
use Rattle.charmlet_shard.specs.Home.{AreHome}

-- Where each replayer has a shelf for each processor, its part of the records is on them, and each
-- processor's elements are one replayer's, the shelves that are taken from that replayer show all
-- records.
abbrev pub MergedAreHome : Type 0
MergedAreHome = (n : ℕ) (records : List (Elem × Record)) (worker : Elem → ℕ)
    (worker_of : ℕ → ℕ) (replayers : ℕ → List View) (joined : List View) →
    ((x : Elem) → worker x ≡ worker_of (home x n)) →
    ((w : ℕ) → AreHome n (part (is_of_worker worker w) records) (replayers w)) →
    length joined ≡ n →
    ((p : ℕ) (d : View) → p < n → slice_index_or joined p d
    ≡ slice_index_or (replayers (worker_of p)) p d) → AreHome n records joined

-- A map that has of each element what its replayer's has is the one of all records.
abbrev pub MergedAreOpened : Type 0
MergedAreOpened = (n : ℕ) (records : List (Elem × Record)) (worker : Elem → ℕ)
    (maps : ℕ → List (Elem × Element)) (merged : List (Elem × Element)) →
    IsStrictlySortedBy elem_cmp (keys_of records) →
    IsStrictlySortedBy elem_cmp (keys_of merged) →
    ((w : ℕ) → maps w ≡ opened_elements n (part (is_of_worker worker w) records)) →
    ((x : Elem) → lookup (is_at (elem_cmp x)) merged
    ≡ lookup (is_at (elem_cmp x)) (maps (worker x))) → merged ≡ opened_elements n records
