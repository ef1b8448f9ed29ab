-- Record by record: the next one scans, or is the first fault.
use Rattle.charmlet_record.specs.Reading.{Kinds}
use Rattle.std.proofs.Common.{◌≡◌, ℕ, suc, ◌+◌, Bool, true, false, List, [], ◌∷◌, ◌++◌, length, refl, ap, ◌∙◌}
use Rattle.std.specs.Prelude.{Some, None, option_map}
use Rattle.charmlet_model.specs.declared.names.Elem.{Elem}
use Rattle.charmlet_model.specs.declared.message.Message.{Message}
use Rattle.charmlet_model.specs.declared.state.Record.{Record}
use Rattle.charmlet_model.specs.World.{World, after, record_at}
use Rattle.charmlet_recovery.proofs.Faultless.{AllPass, none-failed, tests-append}
use Rattle.charmlet_recovery.proofs.Sound.{all-pass, passed-all}
use Rattle.charmlet_recovery.proofs.Values.{tests-grow}
use Rattle.charmlet_model.specs.declared.logged.CatchUpEntry.{CatchUpEntry}
use Rattle.charmlet_model.specs.declared.logged.Logged.{Logged}
use Rattle.charmlet_image.specs.Images.{Image}
use Rattle.charmlet_recovery.specs.Bases.{base, redelivered, redelivered_all, recovered_world}
use Rattle.charmlet_model.specs.Logging.{event_of}
use Rattle.charmlet_recovery.specs.Faults.{Place, InCatchUp, InPending, InEvents, is_caught_up, catch_up_tests, was_sent, pending_tests, happens, event_tests, first_failure, first_fault, place_in_catch_up, place_in_pending, place_in_events}
use Rattle.charmlet_recovery.specs.Meanings.{Faulty, unless_faulty, meaning}

-- ---- a list of tests

one-passes : (tests : List Bool) (b : Bool) → first_failure tests ≡ None → b ≡ true → first_failure (tests ++ b ∷ []) ≡ None
one-passes tests b none is = none-failed (tests ++ b ∷ []) (more tests (all-pass tests none))
  where
    more : (ts : List Bool) → AllPass ts → AllPass (ts ++ b ∷ [])
    more [] h = (is, tt)
    more (t ∷ ts) h = (h.0, more ts h.1)

one-fails : (tests : List Bool) (b : Bool) (later : List Bool) → AllPass tests → b ≡ false → first_failure (tests ++ b ∷ later) ≡ Some (length tests)
one-fails [] b later h is = ap (λ t. first_failure (t ∷ later)) is
one-fails (t ∷ tests) b later h is = ap (λ s. first_failure (s ∷ (tests ++ b ∷ later))) h.0 ∙ ap (option_map suc) (one-fails tests b later h.1 is)

faulty-from : (image : Image) (before : ℕ) (log : List Logged) (fault : Place) → first_fault image before log ≡ Some fault → meaning image before log ≡ Faulty fault
faulty-from image before log fault is = ap (λ o. unless_faulty o (recovered_world image log) (before + length log)) is

catch-up-length : (manifest : Kinds) (entries : List (Elem × Record)) (ds : List CatchUpEntry) → length (catch_up_tests manifest entries ds) ≡ length ds
catch-up-length manifest entries [] = refl
catch-up-length manifest entries (d ∷ ds) = ap suc (catch-up-length manifest (redelivered manifest entries d) ds)

pending-length : (w : World) (ms : List Message) → length (pending_tests w ms) ≡ length ms
pending-length w [] = refl
pending-length w (m ∷ ms) = ap suc (pending-length w ms)

events-length : (w : World) (before : ℕ) (log : List Logged) → length (event_tests w before log) ≡ length log
events-length w before [] = refl
events-length w before (l ∷ log) = ap suc (events-length (after w (event_of l)) (before + 1) log)

-- ---- the catch-up list

pub catch-up-on : (image : Image) (before : ℕ) (log : List Logged) (earlier later : List CatchUpEntry) (d : CatchUpEntry) → image.caught_up ≡ earlier ++ d ∷ later →
    first_failure (catch_up_tests image.manifest image.records earlier) ≡ None →
    (is_caught_up image.manifest (record_at (redelivered_all image.manifest image.records earlier) d.message.to) d ≡ true →
    first_failure (catch_up_tests image.manifest image.records (earlier ++ d ∷ [])) ≡ None)
    × (is_caught_up image.manifest (record_at (redelivered_all image.manifest image.records earlier) d.message.to) d ≡ false →
    meaning image before log ≡ Faulty (InCatchUp (length earlier)))
catch-up-on image before log earlier later d is none =
    let tests = catch_up_tests image.manifest image.records earlier in
    let here = is_caught_up image.manifest (record_at (redelivered_all image.manifest image.records earlier) d.message.to) d in
    let second = first_failure (pending_tests (base image) image.pending) in
    let third = first_failure (event_tests (base image) before log) in (
      λ scans. ap first_failure (tests-append image.manifest image.records earlier (d ∷ [])) ∙ one-passes tests here none scans,
      λ fails.
          let first : first_failure (catch_up_tests image.manifest image.records image.caught_up) ≡ Some (length earlier) =
          ap (λ ds. first_failure (catch_up_tests image.manifest image.records ds)) is
          ∙ ap first_failure (tests-append image.manifest image.records earlier (d ∷ later))
          ∙ one-fails tests here (catch_up_tests image.manifest (redelivered image.manifest (redelivered_all image.manifest image.records earlier) d) later) (all-pass tests none) fails
          ∙ ap Some (catch-up-length image.manifest image.records earlier) in
          faulty-from image before log (InCatchUp (length earlier)) (ap (λ o. place_in_catch_up o (place_in_pending second (place_in_events third))) first),
    )

-- ---- the pending messages

pending-append : (w : World) (ms more : List Message) → pending_tests w (ms ++ more) ≡ pending_tests w ms ++ pending_tests w more
pending-append w [] more = refl
pending-append w (m ∷ ms) more = ap (λ ts. was_sent w m.id.origin m.id.number ∷ ts) (pending-append w ms more)

pub pending-on : (image : Image) (before : ℕ) (log : List Logged) (earlier later : List Message) (m : Message) → image.pending ≡ earlier ++ m ∷ later →
    first_failure (catch_up_tests image.manifest image.records image.caught_up) ≡ None → first_failure (pending_tests (base image) earlier) ≡ None →
    (was_sent (base image) m.id.origin m.id.number ≡ true → first_failure (pending_tests (base image) (earlier ++ m ∷ [])) ≡ None)
    × (was_sent (base image) m.id.origin m.id.number ≡ false → meaning image before log ≡ Faulty (InPending (length earlier)))
pending-on image before log earlier later m is caught none =
    let w : World = base image in
    let tests = pending_tests w earlier in
    let here = was_sent w m.id.origin m.id.number in
    let third = first_failure (event_tests w before log) in (
      λ scans. ap first_failure (pending-append w earlier (m ∷ [])) ∙ one-passes tests here none scans,
      λ fails.
          let second : first_failure (pending_tests w image.pending) ≡ Some (length earlier) =
          ap (λ ms. first_failure (pending_tests w ms)) is
          ∙ ap first_failure (pending-append w earlier (m ∷ later))
          ∙ one-fails tests here (pending_tests w later) (all-pass tests none) fails
          ∙ ap Some (pending-length w earlier) in
          faulty-from image before log (InPending (length earlier)) (λ i. place_in_catch_up (caught i) (place_in_pending (second i) (place_in_events third))),
    )

-- ---- the events

pub events-on : (image : Image) (before : ℕ) (earlier later : List Logged) (l : Logged) → first_fault image before earlier ≡ None →
    (happens (recovered_world image earlier) (before + length earlier) l ≡ true → first_fault image before (earlier ++ l ∷ []) ≡ None)
    × (happens (recovered_world image earlier) (before + length earlier) l ≡ false → meaning image before (earlier ++ l ∷ later) ≡ Faulty (InEvents (length earlier)))
events-on image before earlier later l none =
    let w : World = base image in
    let scan = passed-all image before earlier none in
    let caught = none-failed (catch_up_tests image.manifest image.records image.caught_up) scan.catch_up in
    let sent = none-failed (pending_tests w image.pending) scan.pending in
    let tests = event_tests w before earlier in
    let v : World = recovered_world image earlier in
    let n = before + length earlier in (
      λ scans.
          let third : first_failure (event_tests w before (earlier ++ l ∷ [])) ≡ None =
          ap first_failure (tests-grow w before earlier (l ∷ [])) ∙ one-passes tests (happens v n l) (none-failed tests scan.events) scans in
          λ i. place_in_catch_up (caught i) (place_in_pending (sent i) (place_in_events (third i))),
      λ fails.
          let third : first_failure (event_tests w before (earlier ++ l ∷ later)) ≡ Some (length earlier) =
          ap first_failure (tests-grow w before earlier (l ∷ later))
          ∙ one-fails tests (happens v n l) (event_tests (after v (event_of l)) (n + 1) later) scan.events fails
          ∙ ap Some (events-length w before earlier) in
          faulty-from image before (earlier ++ l ∷ later) (InEvents (length earlier)) (λ i. place_in_catch_up (caught i) (place_in_pending (sent i) (place_in_events (third i)))),
    )

pub rounds-end : (image : Image) (before : ℕ) → first_failure (catch_up_tests image.manifest image.records image.caught_up) ≡ None →
    first_failure (pending_tests (base image) image.pending) ≡ None → first_fault image before [] ≡ None
rounds-end image before caught sent = λ i. place_in_catch_up (caught i) (place_in_pending (sent i) None)
