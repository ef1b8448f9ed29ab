use Rattle.charmlet_recovery.proofs.Writing.{standing_is_stored, stored_is_standing, batches_stand, flushes_are_stored, images_stand, checkpoints_are_stored, new_stores_stand, creations_are_stored}
use Rattle.charmlet_recovery.proofs.laws.written_worlds_are_stored.Goals as goal

pub returns : goal.returns
returns c = record {
  stands = standing_is_stored;
  stored = stored_is_standing;
  batch = batches_stand;
  flush = flushes_are_stored;
  image = images_stand;
  checkpoint = checkpoints_are_stored;
  new_store = new_stores_stand;
  creation = creations_are_stored;
}
