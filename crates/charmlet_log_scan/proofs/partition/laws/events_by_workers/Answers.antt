use Rattle.std.proofs.Common.{ap, ◌∙◌}
use Rattle.charmlet_image.specs.Positioned.{items_of}
use Rattle.charmlet_recovery.specs.Faults.{event_tests}
use Rattle.charmlet_recovery.specs.Replays.{replay_records, replay_tests}
use Rattle.charmlet_log_scan.specs.Partition.Parts.{Done, first_left, is_of_worker, part, tasks, worked}
use Rattle.charmlet_log_scan.proofs.PartitionLemmas.Events.{ends-alike, events-stop, first-left-is, scan-stops, sooner-stops}
use Rattle.charmlet_log_scan.proofs.PartitionLemmas.Stops.{earliest-first, none-left}
use Rattle.charmlet_log_scan.proofs.partition.laws.events_by_workers.Goals as goal

pub returns : goal.returns
returns c = record {
  workers = λ worker workers w before scan log falls within rising begin passing.
      let tests = replay_tests w.manifest scan w.records before (items_of log) in
      let stops = events-stop w.manifest scan w.records before log falls rising passing in
      let finds = first-left-is w before scan log begin in (
        earliest-first worker workers (first_left tests log) (λ mine. part mine (replay_records w.manifest scan w.records (items_of log)))
            (λ mine. worked w.manifest (part mine w.records) (tasks mine scan log)) within stops ∙ finds,
        (λ none.
            let ends = ends-alike w scan before (items_of log) begin none in (
              ends.0,
              (λ v. stops.whole (finds ∙ none-left (event_tests w before (items_of log)) log none) (is_of_worker worker v) ∙ ap (λ rs. Done (part (is_of_worker worker v) rs)) ends.1),
            )),
      );
  scan = λ w before scan sooner later l begin fails. (scan-stops w before scan sooner later l begin fails, sooner-stops w before sooner later l);
}
