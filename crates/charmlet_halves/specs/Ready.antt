-- What always holds of two halves.
use Rattle.std.specs.Prelude.{◌≡◌, ◌≢◌, ℕ, ◌<◌, Bool, true, List, length, slice_index, Option, Some}
use Rattle.charmlet_model.specs.declared.half.Half.{Half}
use Rattle.charmlet_model.specs.Half.{other}
use Rattle.charmlet_disk.specs.File.{File}
use Rattle.charmlet_disk.specs.Disk.{IsSettled}
use Rattle.charmlet_halves.specs.Bytes.{FirstGate}

-- an image stands in the half after its closed first gate, up to the closed gate at this place
pub record IsPreparedAt (bytes : List ℕ) (at : ℕ) : Type 0 where
  pub some : 0 < at
  pub inside : at < length bytes
  pub first : slice_index bytes 0 ≢ 1
  pub closed : slice_index bytes at ≢ 1

-- Both halves are on the disk. The taken one is open, and the closed gate after its last batch is
-- at `log_end`. What is known of the other one is its first gate, and where a prepared image
-- stands.
pub record IsReady (files : Half → File) (taken : Half) (log_end : ℕ) (spare_closed : Bool)
    (prepared : Option ℕ) : Type 0 where
  pub settled : IsSettled files
  pub opened : slice_index (files taken).now 0 ≡ 1
  pub some : 0 < log_end
  pub inside : log_end < length (files taken).now
  pub closed : slice_index (files taken).now log_end ≢ 1
  pub spare : FirstGate spare_closed (files (other taken)).now
  pub image : (at : ℕ) → prepared ≡ Some at → (spare_closed ≡ true)
      × IsPreparedAt (files (other taken)).now at
