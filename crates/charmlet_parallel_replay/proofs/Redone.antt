-- A half that several replayers brought back, round by round.
use Rattle.std.proofs.Common.{◌≡◌, ℕ, ◌+◌, ◌-◌, ◌<◌, ◌≤◌, ◌^◌, ◌%◌, suc, List, [], ◌∷◌, length, drop, get_or, refl, sym, ap, subst, ◌∙◌, arith, mod-lt}
use Rattle.std.specs.Prelude.{None, Some, IsOk, slice_get}
use Rattle.std.specs.List.{All, AllByRecursion, flat_map}
use Rattle.std.proofs.lemmas.List.{length-drop}
use Rattle.std.proofs.lemmas.Option.{slice_get-get_or, slice_get_within}
use Rattle.charmlet_model.specs.declared.kind.Kind.{Kind}
use Rattle.charmlet_model.specs.declared.logged.Logged.{Logged}
use Rattle.charmlet_model.specs.declared.names.Elem.{Elem}
use Rattle.charmlet_model.specs.Core.{Blanks, home}
use Rattle.charmlet_model.specs.Fit.{IsFit}
use Rattle.charmlet_model.specs.World.{IsEvent}
use Rattle.charmlet_record.specs.declared.positioned.Positioned.{Positioned}
use Rattle.charmlet_record.specs.Places.{log_places}
use Rattle.charmlet_record.specs.Reading.{Kinds, read_log}
use Rattle.charmlet_record.specs.Written.{IsLogged}
use Rattle.charmlet_record.proofs.Formats.{IsBytes-drop}
use Rattle.charmlet_model.specs.Spelling.{spell_log}
use Rattle.charmlet_image.specs.declared.half.OpenHalf.{OpenHalf}
use Rattle.charmlet_image.specs.Images.{Image, Saved, spell_image}
use Rattle.charmlet_image.proofs.LogViews.{log_ends}
use Rattle.charmlet_image.specs.Positioned.{items_of}
use Rattle.charmlet_image.specs.Views.{ArePacked, image_said}
use Rattle.charmlet_recovery.specs.Bases.{base, events_of, recovered_world}
use Rattle.charmlet_recovery.specs.Blanks.{made, wanted}
use Rattle.charmlet_recovery.specs.Faults.{InEvents, catch_up_tests, event_tests, first_failure, first_fault, pending_tests, place_in_catch_up, place_in_events, place_in_pending}
use Rattle.charmlet_recovery.specs.Recovered.{upgraded}
use Rattle.charmlet_recovery.proofs.FirstFaults.{places}
use Rattle.charmlet_recovery.specs.Replays.{IsBeginning, LogScan, scan_after}
use Rattle.charmlet_recovery.specs.RestartLaws.{IsEnough}
use Rattle.charmlet_recovery.specs.Restarts.{wanted_of}
use Rattle.charmlet_recovery.proofs.Good.{image-good, log-events}
use Rattle.charmlet_recovery.proofs.Sound.{log-legal}
use Rattle.charmlet_chare.specs.declared.chare.Chare.{Ghosts}
use Rattle.charmlet_world.specs.Seen.{Seen, present_rows}
use Rattle.charmlet_log_scan.specs.Partition.Parts.{Falls}
use Rattle.charmlet_log_scan.proofs.PartitionLemmas.Falling.{catch-ups-fall}
use Rattle.charmlet_replayers.specs.Replies.Filled.{AreButForReplies}
use Rattle.charmlet_replayers.proofs.RepliesLemmas.Kept.{keeps-others}
use Rattle.charmlet_log_scan.specs.Routing.Kept.{IsAsScan, IsSomeWorld}
use Rattle.charmlet_log_scan.proofs.RoutingLemmas.Following.{follows_begins, is_scan, scan_of}
use Rattle.charmlet_replay.specs.Places.{IsFirstFault, events_in, places_in}
use Rattle.charmlet_replay.specs.Lists.{HasBlanksFor}
use Rattle.charmlet_replay.specs.Replayed.{HasBlanksForImage, IsFaultAt, IsOpenIn}
use Rattle.charmlet_replay.proofs.Offsets.{event_at}
use Rattle.charmlet_replay.proofs.Faulty.{events_faulty, no_fault, offset_at}
use Rattle.charmlet_replay.proofs.OpenHalves.{few_before, good_events, image_good, log_is, means_are, read_is, saved}
use Rattle.charmlet_replay.proofs.Whole.{base_is_fit, log_has_blanks}
use Rattle.charmlet_parallel_replay.specs.replayer.Replayer.{Replayer}
use Rattle.charmlet_parallel_replay.specs.Tasks.{HasNoTask, HaveReplies}
use Rattle.charmlet_parallel_replay.specs.Workers.{AreParts}
use Rattle.charmlet_replayers.specs.Dispatch.Sharing.{worker_of}
use Rattle.charmlet_replayers.proofs.DispatchLemmas.One.{shows_follows}
use Rattle.charmlet_parallel_replay.specs.Log.LogRound.{HasRedone, IsReadyForLog}
use Rattle.charmlet_parallel_replay.proofs.LogLemmas.LogPlaces.{items_are}
use Rattle.charmlet_parallel_replay.specs.Image.ImageRestored.{IsImageRestored}
use Rattle.charmlet_parallel_replay.specs.Redone.{IsRedone}

empty_log : length (spell_log []) ≡ 0
unfolding spell_log
empty_log = refl

module _ (bytes : List ℕ) (s : Saved) (half : OpenHalf) (is : IsOpenIn bytes s half) where
  abbrev image : Image
  image = image_said half.image

  abbrev before : ℕ
  before = half.header.events

  abbrev log : List Logged
  log = events_in half.image.manifest half.log.rest.now

  abbrev placed : List (Positioned Logged)
  placed = places_in (read_log half.image.manifest half.log.rest.now)

  same_items : items_of placed ≡ log
  same_items = items_are half.image.manifest half.log.rest.now

  -- ---- what the first rounds want

  pub falls : Falls half.image.caught_up.items
  falls = subst Falls (sym is.view.caught_up) (catch-ups-fall _ s.image.caught_up)

  pub packed : ArePacked half.image.manifest half.image.entries.items
  packed = subst (λ (i : Image). ArePacked i.manifest half.image.entries.items) (sym is.view.image) is.view.packed

  pub for_image : (given : Blanks) → IsEnough given (wanted s.image []) → HasBlanksForImage image given
  for_image given enough = record {
    mark = s.header.mark;
    log = [];
    good = image_good bytes s half is;
    enough = λ kind. subst (λ i. wanted i [] kind ≤ given kind) (sym is.view.image) (enough kind);
  }

  enough_for : (given : Blanks) → ((kind : Kind) → wanted_of s kind ≤ given kind) → (kind : Kind) → wanted image log kind ≤ given kind
  enough_for given enough kind = subst (λ i. wanted i log kind ≤ given kind) (sym is.view.image) (subst (λ ls. wanted s.image ls kind ≤ given kind) (sym (log_is bytes s half is)) (enough kind))

  typed : AllByRecursion IsEvent (events_of log)
  typed = log-events half.image.manifest log (good_events bytes s half is)

  module _ {C : Type 0} {G : Ghosts C} (processors : ℕ) (given left : Blanks) (olds replayers : List (Replayer C G)) (some : 0 < length olds) (count : length replayers ≡ length olds) (k : Seen) (back : IsImageRestored (worker_of processors (length olds)) image processors given left k replayers) where
    abbrev worker : Elem → ℕ
    worker = worker_of processors (length olds)

    fit : IsFit (base image)
    fit = base_is_fit image (image-good s.header.mark image (image_good bytes s half is)) back.caught_up.pass back.was_sent

    pub some_world : IsSomeWorld k
    some_world = (base image, fit, back.shows)

    worker_is : worker_of k.processors (length replayers) ≡ worker
    worker_is = λ i. worker_of (back.on i) (count i)

    -- ---- what the third round wants

    pub idle : All HasNoTask replayers
    idle v d less = (back.caught_up.rest v (get_or replayers v d) (slice_get-get_or replayers v d less)).tasks

    pub ready : IsReadyForLog (base image) k replayers
    ready = record {
      fit = fit;
      follows = shows_follows k (base image) back.shows;
      parts = subst (λ (w : Elem → ℕ). AreParts w (base image).records replayers) (sym worker_is) back.caught_up.parts;
    }

    -- where there are enough blanks for the half, there are for its log
    has_blanks : IsEnough given (wanted_of s) → HasBlanksFor left (base image) before log
    has_blanks enough =
        log_has_blanks image before log given left (image-good s.header.mark image (image_good bytes s half is)) typed back.caught_up.pass back.was_sent back.caught_up.taken (enough_for given enough)

    -- the same with the arrays of what is kept
    module _ (kinds : Kinds) (same : kinds ≡ half.image.manifest) where
      abbrev rest : List ℕ
      rest = half.log.rest.now

      pub good_kept : IsOk (read_log kinds rest)
      good_kept = subst (λ ks. IsOk (read_log ks rest)) (sym same) (subst IsOk (sym (read_is bytes s half is)) refl)

      pub logged_kept : AllByRecursion (IsLogged kinds) (events_in kinds rest)
      logged_kept = subst (λ ks. AllByRecursion (IsLogged ks) (events_in ks rest)) (sym same) (good_events bytes s half is)

      pub blanks_kept : IsEnough given (wanted_of s) → HasBlanksFor left (base image) before (events_in kinds rest)
      blanks_kept enough = subst (λ ks. HasBlanksFor left (base image) before (events_in ks rest)) (sym same) (has_blanks enough)

      pub fault_kept : (n : ℕ) → IsFirstFault (event_tests (base image) before (events_in kinds rest)) (places_in (read_log kinds rest)) n → IsFirstFault (event_tests (base image) before log) placed n
      fault_kept n h = subst (λ ks. IsFirstFault (event_tests (base image) before (events_in ks rest)) (places_in (read_log ks rest)) n) same h

      pub redone_kept : (next : Seen) (after : Blanks) (news : List (Replayer C G)) → HasRedone (base image) before (events_in kinds rest) k next left after replayers news → HasRedone (base image) before log k next left after replayers news
      redone_kept next after news h = subst (λ ks. HasRedone (base image) before (events_in ks rest) k next left after replayers news) same h

      pub replies_kept : (worker : Elem → ℕ) (news : List (Replayer C G)) (scan : LogScan) → HaveReplies worker (base image) scan (places_in (read_log kinds rest)) news → HaveReplies worker (base image) scan placed news
      replies_kept worker news scan h = subst (λ ks. HaveReplies worker (base image) scan (places_in (read_log ks rest)) news) same h

    -- ---- and what comes of it

    module _ (next : Seen) (after : Blanks) (news : List (Replayer C G)) (many : length news ≡ length replayers) (on : next.processors ≡ k.processors) (done : HasRedone (base image) before log k next left after replayers news)
        (replies : (scan : LogScan) → IsAsScan k scan → HaveReplies (worker_of k.processors (length replayers)) (base image) scan placed news) where
      abbrev scan : LogScan
      scan = scan_of k

      begin : IsBeginning (base image) scan
      begin = follows_begins k (base image) (shows_follows k (base image) back.shows)

      news_count : length news ≡ length olds
      news_count = many ∙ count

      worker_then : worker_of next.processors (length news) ≡ worker_of k.processors (length replayers)
      worker_then = λ i. worker_of (on i) (many i)

      rows : present_rows next.clients ≡ (scan_after (record scan { clients = (base image).clients }) log).clients
      rows = (done.rows (record scan { clients = (base image).clients }) (record { pending = (is_scan k).pending; sent = (is_scan k).sent; clients = back.shows.clients })).clients

      others : AreButForReplies (base image) (events_of log) (present_rows next.clients)
      others = subst (AreButForReplies (base image) (events_of log)) (sym rows) (keeps-others (base image) before scan log fit typed begin done.happen)

      pub is_redone : IsRedone image before placed processors given after next news
      is_redone = record {
        faultless = ap (first_fault image before) same_items ∙ no_fault image before log back.caught_up.pass back.was_sent done.happen;
        scan = scan;
        done = record {
          fill = record {
            fit = fit;
            typed = subst (λ ls. AllByRecursion IsEvent (events_of ls)) (sym same_items) typed;
            few = few_before bytes s half is;
            begin = begin;
            happen = ap (λ ls. first_failure (event_tests (base image) before ls)) same_items ∙ done.happen;
            within = λ x. subst (λ n. home x next.processors % n < n) (sym news_count) (mod-lt (home x next.processors) some);
            replies = subst (λ (w : Elem → ℕ). HaveReplies w (base image) scan placed news) (sym worker_then) (replies scan (is_scan k));
            others = subst (λ ls. AreButForReplies (base image) (events_of ls) (present_rows next.clients)) (sym same_items) others;
          };
          last = refl;
          pending = done.follows.pending ∙ ap (λ ls. (recovered_world image ls).pending) (sym same_items);
        };
        on = on ∙ back.on;
        parts = subst (λ ls. AreParts (worker_of processors (length news)) (recovered_world image ls).records news) (sym same_items)
            (subst (λ (w : Elem → ℕ). AreParts w (recovered_world image log).records news) (λ i. worker_of (back.on i) (sym many i)) done.parts);
        there = λ v replayer at. let old = was v replayer at in done.on v old.0 replayer old.1 at ∙ (back.caught_up.rest v old.0 old.1).on;
        spare = λ v replayer at kind. let old = was v replayer at in done.spare v old.0 replayer old.1 at kind ∙ (back.caught_up.rest v old.0 old.1).spare kind;
        taken = λ kind.
            let one = done.blanks kind in
            let all = back.caught_up.taken kind in
            let sum : after kind + made image log kind ≡ given kind = omega (arith, one, all) in
            subst (λ ls. after kind + made image ls kind ≡ given kind) (sym same_items) sum;
      }
        where
          was : (v : ℕ) (replayer : Replayer C G) → slice_get news v ≡ Some replayer → (old : Replayer C G) × (slice_get replayers v ≡ Some old)
          was v replayer at = (get_or replayers v replayer, slice_get-get_or replayers v replayer (let less = slice_get_within news v replayer at in omega (arith, less, many)))

  -- ---- faults

  -- the first event that is at fault
  pub event_at_fault : first_failure (catch_up_tests image.manifest image.records image.caught_up) ≡ None → first_failure (pending_tests (base image) image.pending) ≡ None → (left : ℕ) → IsFirstFault (event_tests (base image) before log) placed left →
      IsFaultAt s (length bytes - left)
  event_at_fault caught_up was_sent left (i, p, first, found, same) =
      let after = is.view.log.read.0 in
      let begins = 25 + s.header.size in
      let ends = log_ends s.image.manifest (drop begins bytes) s.batches after (IsBytes-drop begins bytes is.bytes_are) is.view.log.read.1 in
      let size = length bytes in
      let its = saved bytes s half is in
      let all : (((25 + length (spell_image s.header.mark s.image)) + length (spell_log [])) + length (spell_log s.batches)) + (length after + 1) ≡ size =
      omega (arith, empty_log, ends.size, its.size, length-drop begins bytes) in
      let fault : first_fault image before log ≡ Some (InEvents i) =
      λ j. place_in_catch_up (caught_up j) (place_in_pending (was_sent j) (place_in_events (first j))) in
      let within : i < length (flat_map (λ (batch : List Logged). batch) s.batches) = subst (λ (ls : List Logged). i < length ls) (log_is bytes s half is) (((places image before log i).2 fault).0) in
      let at : slice_get (log_places (length after + 1) s.batches) i ≡ Some p = ap (λ r. slice_get (places_in r) i) (sym (read_is bytes s half is)) ∙ found in (
        InEvents i,
        means_are bytes s half is ∙ ap upgraded (events_faulty image before log i caught_up was_sent first),
        ap (λ n. size - n) same ∙ sym (offset_at size (log_places (length after + 1) s.batches) i p at) ∙ event_at s size (length after + 1) [] s.batches i within all,
      )

  -- ---- how many events there are

  count_events : (ls : List Logged) → length (events_of ls) ≡ length ls
  count_events [] = refl
  count_events (l ∷ ls) = ap suc (count_events ls)

  pub events_are : half.log.events ≡ length log
  events_are = is.view.log.events ∙ ap length (sym (log_is bytes s half is))

  -- no more than there may be
  pub few_events : first_fault image before (items_of placed) ≡ None → before + half.log.events ≤ 2 ^ 40
  few_events none =
      let legal = (log-legal image before log (few_before bytes s half is) typed (ap (first_fault image before) (sym same_items) ∙ none)).0.in_limit in
      let same = count_events log in
      let many = events_are in
      omega (arith, legal, same, many)
