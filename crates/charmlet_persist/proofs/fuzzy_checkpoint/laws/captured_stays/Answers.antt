use Rattle.charmlet_persist.proofs.FuzzyCheckpointLemmas.Others.{deliveries_keep, images_keep, images_capture, processors_are_all}
use Rattle.charmlet_persist.proofs.fuzzy_checkpoint.laws.captured_stays.Goals as goal

pub returns : goal.returns
returns c = record {
  images = images_capture;
  kept = images_keep;
  deliveries = deliveries_keep;
  all = processors_are_all;
}
