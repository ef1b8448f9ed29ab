use Rattle.charmlet_persist.proofs.FuzzyCheckpointLemmas.Others.{assignments_keep, deliveries_keep_running, flushes_keep, halts_keep, releases_keep, requests_keep}
use Rattle.charmlet_persist.proofs.fuzzy_checkpoint.laws.others_keep_running.Goals as goal

pub returns : goal.returns
returns c = record {
  requests = requests_keep;
  flushes = flushes_keep;
  assignments = assignments_keep;
  releases = releases_keep;
  halts = halts_keep;
  deliveries = deliveries_keep_running;
}
