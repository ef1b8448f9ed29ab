-- Several replayers do the tasks of a log.
use Rattle.std.proofs.Common.{◌≡◌, ℕ, suc, ◌+◌, ◌<◌, Bool, false, List, [], ◌∷◌, ◌++◌, length, refl, sym, ap, subst, ◌∙◌}
use Rattle.std.specs.Prelude.{Option, Some, None, slice_get, unwrap_or}
use Rattle.std.specs.List.{All, AllZip}
use Rattle.charmlet_model.specs.declared.names.Elem.{Elem}
use Rattle.charmlet_model.specs.declared.logged.Logged.{Logged}
use Rattle.charmlet_model.specs.declared.state.Record.{Record}
use Rattle.charmlet_model.specs.Logging.{event_of}
use Rattle.charmlet_model.specs.World.{World, after, world}
use Rattle.charmlet_record.specs.declared.positioned.Positioned.{Positioned}
use Rattle.charmlet_record.specs.declared.reader.Fault.{Fault}
use Rattle.charmlet_record.specs.declared.reader.ReadError.{ReadError}
use Rattle.charmlet_record.specs.declared.reader.ReadError.TheVariants.{Damaged, Memory}
use Rattle.charmlet_record.specs.Reading.{Kinds}
use Rattle.charmlet_image.specs.Positioned.{items_of}
use Rattle.charmlet_recovery.specs.Bases.{events_of}
use Rattle.charmlet_recovery.specs.Faults.{event_tests, first_failure}
use Rattle.charmlet_recovery.specs.Replays.{IsBeginning, LogScan, scan_after, replay_records, replay_tests}
use Rattle.charmlet_chare.specs.declared.chare.Chare.{Ghosts}
use Rattle.charmlet_log_scan.specs.Partition.Parts.{Worked, Stopped, Done, earliest_stop, first_left, is_of_worker, part, stop_of, tasks, worked}
use Rattle.charmlet_log_scan.proofs.PartitionLemmas.Events.{ends-alike, events-stop, first-left-is}
use Rattle.charmlet_log_scan.proofs.PartitionLemmas.Stops.{AreStopsOf, earliest-first}
use Rattle.charmlet_shard.specs.Places.{IsFirstFault}
use Rattle.charmlet_shard.specs.RestoredShard.{IsRestored}
use Rattle.charmlet_replayers.specs.Replies.Replies.{replies_of}
use Rattle.charmlet_replayers.specs.Replayer.Tasks.{AreDispatchedTasks, CanDo, HaveMoreReplies, IsDoneReplayer}
use Rattle.charmlet_replayers.specs.Replayer.Workers.{AreParts, IsSpared, is_refused, left_at, left_of}
use Rattle.charmlet_replayers.specs.declared.replayer.replayer.Replayer.{Replayer}
use Rattle.charmlet_replayers.proofs.ReplayerLemmas.ByWorkers.{first-fault, none-fails}
use Rattle.charmlet_replayers.proofs.ReplayerLemmas.ReplayerStops.{before, no-stop, same-stops, stops-are, zip-length}

many-tests : (w : World) (count : ℕ) (log : List (Positioned Logged)) → length (event_tests w count (items_of log)) ≡ length log
many-tests w count [] = refl
many-tests w count (p ∷ log) = ap suc (many-tests (after w (event_of p.item)) (count + 1) log)

records_in : Worked → List (Elem × Record)
records_in (Stopped left) = []
records_in (Done rs) = rs

module _ {C : Type 0} {G : Ghosts C} (manifest : Kinds) where
  -- a replayer's stop is what it comes to
  replayer-stops : (old new : Replayer C G) (records : List (Elem × Record)) → IsDoneReplayer manifest old new → CanDo manifest old.restored old.tasks.items records → is_refused new.stopped ≡ false →
      left_of new.stopped ≡ stop_of (worked manifest records old.tasks.items)
  replayer-stops old new records done can spared = by new.stopped refl spared
    where
      by : (o : Option ReadError) → new.stopped ≡ o → is_refused o ≡ false → left_of o ≡ stop_of (worked manifest records old.tasks.items)
      by None is h = sym (ap stop_of (done.done is records can).1)
      by (Some Memory) is h = absurd (let no : ⊥ = cc in no)
      by (Some (Damaged fault)) is h = sym (ap stop_of (done.fault fault is records can))

module _ {C : Type 0} {G : Ghosts C} (worker : Elem → ℕ) (w : World) (count : ℕ) (scan : LogScan) (log : List (Positioned Logged)) (olds news : List (Replayer C G)) (dispatched : AreDispatchedTasks worker w count scan log olds)
    (zip : AllZip (IsDoneReplayer w.manifest) olds news) (spared : All IsSpared news) where
  abbrev tests : List Bool
  tests = event_tests w count (items_of log)

  abbrev mine : ℕ → Elem → Bool
  mine = is_of_worker worker

  abbrev come : (Elem → Bool) → Worked
  come own = worked w.manifest (part own w.records) (tasks own scan log)

  abbrev ends : (Elem → Bool) → List (Elem × Record)
  ends own = part own (replay_records w.manifest scan w.records (items_of log))

  abbrev left_first : Option ℕ
  left_first = first_left (replay_tests w.manifest scan w.records count (items_of log)) log

  stops : AreStopsOf left_first ends come
  stops = events-stop w.manifest scan w.records count log dispatched.falls dispatched.rising dispatched.passing

  each-stop : (v : ℕ) (old new : Replayer C G) → slice_get olds v ≡ Some old → IsDoneReplayer w.manifest old new → is_refused new.stopped ≡ false → left_of new.stopped ≡ stop_of (come (mine v))
  each-stop v old new at done spares =
      replayer-stops w.manifest old new (part (mine v) w.records) done (dispatched.can v old at) spares
      ∙ ap (λ ts. stop_of (worked w.manifest (part (mine v) w.records) ts)) (dispatched.tasks v old at)

  first-of-scan : earliest_stop (length news) (left_at news) ≡ left_first
  first-of-scan =
      same-stops (length news) (left_at news) (λ v. stop_of (come (mine v))) (stops-are (IsDoneReplayer w.manifest) olds news (λ v. stop_of (come (mine v))) zip spared each-stop)
      ∙ earliest-first worker (length news) left_first ends come (λ x. subst (λ n. worker x < n) (sym (zip-length (IsDoneReplayer w.manifest) olds news zip)) (dispatched.within x)) stops

  first-is : earliest_stop (length news) (left_at news) ≡ first_left tests log
  first-is = first-of-scan ∙ first-left-is w count scan log dispatched.begin

  pub fault-is : (fault : Fault) → earliest_stop (length news) (left_at news) ≡ Some fault.bytes_left → IsFirstFault tests log fault.bytes_left
  fault-is fault is = first-fault tests log fault.bytes_left (sym first-is ∙ is)

  pub passes : earliest_stop (length news) (left_at news) ≡ None → first_failure tests ≡ None
  passes is = none-fails tests log (many-tests w count log) (sym first-is ∙ is)

  pub begins : earliest_stop (length news) (left_at news) ≡ None → IsBeginning (world w (events_of (items_of log))) (scan_after scan (items_of log))
  begins is = (ends-alike w scan count (items_of log) dispatched.begin (passes is)).0

  pub parts-are : earliest_stop (length news) (left_at news) ≡ None → AreParts worker (world w (events_of (items_of log))).records news
  unfolding records_in
  parts-are is v new at =
      let was = before (IsDoneReplayer w.manifest) olds news zip spared v new at in
      let old = was.old in
      let can = dispatched.can v old was.at in
      let whole = stops.whole (sym first-of-scan ∙ is) (mine v) in
      let ts : old.tasks.items ≡ tasks (mine v) scan log = dispatched.tasks v old was.at in
      let halts : left_of new.stopped ≡ None = each-stop v old new was.at was.related was.spared ∙ ap stop_of whole in
      let did = was.related.done (no-stop new.stopped halts was.spared) (part (mine v) w.records) can in
      let end : Done did.0 ≡ Done (ends (mine v)) = sym did.1 ∙ ap (worked w.manifest (part (mine v) w.records)) ts ∙ whole in
      let same : did.0 ≡ ends (mine v) = ap records_in end in
      let last : did.0 ≡ part (mine v) (world w (events_of (items_of log))).records = same ∙ ap (part (mine v)) (ends-alike w scan count (items_of log) dispatched.begin (passes is)).1 in
      subst (λ rs. IsRestored rs new.restored) last did.2

  pub replies-are : earliest_stop (length news) (left_at news) ≡ None → HaveMoreReplies worker w scan log olds news
  replies-are is v old new there at =
      let was = before (IsDoneReplayer w.manifest) olds news zip spared v new at in
      let same : Some was.old ≡ Some old = sym was.at ∙ there in
      let it : was.old ≡ old = ap (λ (o : Option (Replayer C G)). unwrap_or o old) same in
      let can = dispatched.can v was.old was.at in
      let whole = stops.whole (sym first-of-scan ∙ is) (mine v) in
      let halts : left_of new.stopped ≡ None = each-stop v was.old new was.at was.related was.spared ∙ ap stop_of whole in
      was.related.replies (no-stop new.stopped halts was.spared) (part (mine v) w.records) can
      ∙ (λ i. (it i).replies.items ++ replies_of w.manifest (part (mine v) w.records) (dispatched.tasks v was.old was.at i))
