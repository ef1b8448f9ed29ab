-- What an image and a log that the format has are, in the words of worlds.
use Rattle.charmlet_record.specs.Reading.{Kinds}
use Rattle.std.specs.Prelude.{ℕ, ◌≤◌, ◌<◌, ◌^◌, length, List}
use Rattle.std.specs.List.{All, AllByRecursion}
use Rattle.std.specs.List.Sorted.{IsStrictlySortedBy}
use Rattle.std.specs.Ordering.{nat_cmp}
use Rattle.std.specs.BTreeMap.{is_at}
use Rattle.std.specs.Map.{lookup, keys_of, values_of}
use Rattle.charmlet_model.specs.declared.names.Elem.{Elem}
use Rattle.charmlet_model.specs.declared.names.MsgId.{MsgId}
use Rattle.charmlet_model.specs.declared.message.Message.{Message}
use Rattle.charmlet_model.specs.declared.message.Outgoing.{Outgoing}
use Rattle.charmlet_model.specs.declared.client.ClientRow.{ClientRow}
use Rattle.charmlet_model.specs.Names.{elem_cmp}
use Rattle.charmlet_model.specs.Packed.{IsWord}
use Rattle.charmlet_model.specs.Fit.{AreWords, AreDistinct, IsElem, IsOrigin, IsRecord, IsRow, IsKept}
use Rattle.charmlet_model.specs.World.{row_of, record_at}
use Rattle.charmlet_model.specs.declared.logged.CatchUpEntry.{CatchUpEntry}
use Rattle.charmlet_image.specs.Images.{Image}

-- a message whose fields are of their types
pub record IsPendingMessage (manifest : Kinds) (m : Message) : Type 0 where
  pub origin : IsOrigin manifest m.id.origin
  pub number : 0 < m.id.number
  pub small_number : IsWord m.id.number
  pub to : IsElem manifest m.to
  pub entry : m.entry < 2 ^ 16
  pub words : AreWords 512 m.words

-- a delivery of the catch-up list
pub record IsCatchUp (manifest : Kinds) (d : CatchUpEntry) : Type 0 where
  pub message : IsPendingMessage manifest d.message
  pub count : IsWord d.received

-- a send that is written
pub record IsSent (manifest : Kinds) (s : Outgoing) : Type 0 where
  pub to : IsElem manifest s.to
  pub entry : s.entry < 2 ^ 16
  pub words : AreWords 512 s.words

-- a delivery that is written
pub record IsDelivery (manifest : Kinds) (id : MsgId) (count : ℕ) (sends : List Outgoing) : Type 0 where
  pub origin : IsOrigin manifest id.origin
  pub number : 0 < id.number
  pub small_number : IsWord id.number
  pub small_count : IsWord count
  pub few : length sends ≤ 16
  pub each : AllByRecursion (IsSent manifest) sends

-- keys rise and are of their types, nothing is written of what was never there, ids are distinct,
-- and all is within its limit
pub record IsGoodImage (image : Image) : Type 0 where
  pub rising_arrays : IsStrictlySortedBy nat_cmp (keys_of image.manifest)
  pub small_arrays : All (λ array. array < 2 ^ 16) (keys_of image.manifest)
  pub some_arrays : 1 ≤ length image.manifest
  pub few_arrays : length image.manifest ≤ 64
  pub rising_clients : IsStrictlySortedBy nat_cmp (keys_of image.clients)
  pub small_clients : All (λ client. client < 2 ^ 32) (keys_of image.clients)
  pub few_clients : length image.clients ≤ 1024
  pub no_empty_row : All (λ (row : ClientRow). 0 < length row.window) (values_of image.clients)
  pub clients : (c : ℕ) → IsRow (row_of image.clients c)
  pub distinct : AreDistinct image.pending
  pub pending : AllByRecursion (IsPendingMessage image.manifest) image.pending
  pub rising_elements : IsStrictlySortedBy elem_cmp (keys_of image.records)
  pub known_elements : All (IsElem image.manifest) (keys_of image.records)
  pub no_empty_record : All IsKept (values_of image.records)
  pub elements : (x : Elem) → IsRecord (lookup (is_at (nat_cmp x.array)) image.manifest) (record_at image.records x)
  pub catch_up : AllByRecursion (IsCatchUp image.manifest) image.caught_up
