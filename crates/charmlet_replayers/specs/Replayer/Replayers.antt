-- A replayer, before and after its deliveries are made again.
use Rattle.std.specs.Prelude.{◌≡◌, ◌+◌, List, Some, None}
use Rattle.charmlet_model.specs.declared.names.Elem.{Elem}
use Rattle.charmlet_model.specs.declared.kind.Kind.{Kind}
use Rattle.charmlet_model.specs.declared.logged.CatchUpEntry.{CatchUpEntry}
use Rattle.charmlet_model.specs.declared.state.Record.{Record}
use Rattle.charmlet_record.specs.declared.positioned.Positioned.{Positioned}
use Rattle.charmlet_record.specs.declared.reader.Fault.{Fault}
use Rattle.charmlet_record.specs.declared.reader.ReadError.TheVariants.{Damaged}
use Rattle.charmlet_record.specs.Reading.{Kinds}
use Rattle.charmlet_image.specs.Positioned.{items_of}
use Rattle.charmlet_recovery.specs.Blanks.{made_by_catch_up}
use Rattle.charmlet_recovery.specs.Faults.{catch_up_tests}
use Rattle.charmlet_chare.specs.declared.chare.Chare.{Ghosts}
use Rattle.charmlet_stock.specs.Stock.{blanks_in, supplied_to}
use Rattle.charmlet_shard.specs.Places.{IsFirstFault}
use Rattle.charmlet_shard.specs.RestoredShard.{AreRedelivered, HasBlanksAgain, IsHeld, IsRestored, StayGood}
use Rattle.charmlet_replayers.specs.declared.replayer.replayer.Replayer.{Replayer}
use Rattle.charmlet_shard.specs.declared.restored_shard.RestoredShard.{RestoredShard}

-- the elements with these records came back, which stay good up to each delivery that is reached,
-- and there are blanks for what is constructed
pub record IsKnownBy {C : Type 0} {G : Ghosts C} (manifest : Kinds) (r : RestoredShard C G)
    (deliveries : List (Positioned CatchUpEntry)) (records : List (Elem × Record)) : Type 0 where
  pub restored : IsRestored records r
  pub good : StayGood manifest records (items_of deliveries)
  pub blanks : HasBlanksAgain (blanks_in r.stock) manifest records (items_of deliveries)

-- the deliveries of the replayer can be made again
pub record IsReadyReplayer {C : Type 0} {G : Ghosts C} (manifest : Kinds) (replayer : Replayer C G)
    : Type 0 where
  pub held : IsHeld replayer.restored
  pub records : List (Elem × Record)
  pub known : IsKnownBy manifest replayer.restored replayer.deliveries.items records

-- the replayer took the blanks of the constructions among its deliveries
abbrev pub HasTakenAgain : {C : Type 0} {G : Ghosts C} → Kinds → Replayer C G → Replayer C G →
    Type 0
HasTakenAgain manifest old new = (records : List (Elem × Record)) →
    IsKnownBy manifest old.restored old.deliveries.items records → (kind : Kind) →
    blanks_in new.restored.stock kind
    + made_by_catch_up manifest kind records (items_of old.deliveries.items)
    ≡ blanks_in old.restored.stock kind

-- they were made again, up to the first one that is at fault, unless memory was refused
pub record IsCaughtUpReplayer {C : Type 0} {G : Ghosts C} (manifest : Kinds)
    (old new : Replayer C G) : Type 0 where
  pub held : IsHeld new.restored
  pub done : new.stopped ≡ None → (records : List (Elem × Record)) →
      IsKnownBy manifest old.restored old.deliveries.items records →
      AreRedelivered manifest records (items_of old.deliveries.items) new.restored
  pub taken : new.stopped ≡ None → HasTakenAgain manifest old new
  pub fault : (fault : Fault) → new.stopped ≡ Some (Damaged fault) →
      (records : List (Elem × Record)) →
      IsKnownBy manifest old.restored old.deliveries.items records →
      IsFirstFault (catch_up_tests manifest records (items_of old.deliveries.items))
      old.deliveries.items fault.bytes_left
  pub tasks : new.tasks ≡ old.tasks
  pub processors : new.restored.processors ≡ old.restored.processors
  pub supplied : supplied_to new.restored.stock ≡ supplied_to old.restored.stock
