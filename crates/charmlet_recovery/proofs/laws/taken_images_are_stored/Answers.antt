use Rattle.charmlet_recovery.proofs.Writing.{newest_halves_go_on, next_halves_stand, next_halves_are_stored, taken_images_are_saved}
use Rattle.charmlet_recovery.proofs.laws.taken_images_are_stored.Goals as goal

pub returns : goal.returns
returns c = record {
  saved = taken_images_are_saved;
  newest = newest_halves_go_on;
  stands = next_halves_stand;
  stored = next_halves_are_stored;
}
