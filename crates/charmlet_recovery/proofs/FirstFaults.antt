-- A fault is the place of a record, and nothing before it is one.
use Rattle.charmlet_record.specs.Reading.{Kinds}
use Rattle.std.proofs.Common.{◌≡◌, ℕ, zero, suc, ◌+◌, ◌<◌, Bool, true, false, List, [], ◌∷◌, ◌++◌, take, length, refl, sym, ap, subst, ◌∙◌, arith}
use Rattle.std.specs.Prelude.{Option, Some, None, option_map}
use Rattle.charmlet_model.specs.declared.names.Elem.{Elem}
use Rattle.charmlet_model.specs.declared.message.Message.{Message}
use Rattle.charmlet_model.specs.declared.state.Record.{Record}
use Rattle.charmlet_model.specs.World.{World, world, after, record_at}
use Rattle.charmlet_recovery.proofs.Values.{tests-grow}
use Rattle.charmlet_model.specs.declared.logged.CatchUpEntry.{CatchUpEntry}
use Rattle.charmlet_model.specs.declared.logged.Logged.{Logged}
use Rattle.charmlet_image.specs.Images.{Image}
use Rattle.charmlet_recovery.specs.Bases.{base, redelivered, events_of, recovered_world}
use Rattle.charmlet_model.specs.Logging.{event_of}
use Rattle.charmlet_recovery.specs.Faults.{Place, InCatchUp, InPending, InEvents, is_caught_up, catch_up_tests, was_sent, pending_tests, happens, event_tests, first_failure, first_fault, place_in_catch_up, place_in_pending, place_in_events}
use Rattle.charmlet_recovery.specs.Meanings.{Faulty, unless_faulty, meaning}

-- ---- the first failure of a list of tests

one-more : (o : Option ℕ) (i : ℕ) → option_map suc o ≡ Some i → (j : ℕ) × (o ≡ Some j) × (i ≡ suc j)
one-more None i h = absurd (let no : ⊥ = cc in no)
one-more (Some j) i h = (j, refl, let same : i ≡ suc j = cc in same)

failure-below : (tests : List Bool) (i : ℕ) → first_failure tests ≡ Some i → i < length tests
failure-below [] i h = absurd (let no : ⊥ = cc in no)
failure-below (true ∷ tests) i h =
    let more = one-more (first_failure tests) i h in
    let below = failure-below tests more.0 more.1 in
    let same = more.2 in
    omega arith
failure-below (false ∷ tests) i h = let same : i ≡ 0 = cc in omega arith

none-before : (tests : List Bool) (i : ℕ) → first_failure tests ≡ Some i → first_failure (take i tests) ≡ None
none-before [] i h = absurd (let no : ⊥ = cc in no)
none-before (true ∷ tests) i h =
    let more = one-more (first_failure tests) i h in
    subst (λ k. first_failure (take k (true ∷ tests)) ≡ None) (sym more.2) (ap (option_map suc) (none-before tests more.0 more.1))
none-before (false ∷ tests) i h = let same : 0 ≡ i = cc in subst (λ k. first_failure (take k (false ∷ tests)) ≡ None) same refl

failure-stays : (tests more : List Bool) (i : ℕ) → first_failure tests ≡ Some i → first_failure (tests ++ more) ≡ Some i
failure-stays [] more i h = absurd (let no : ⊥ = cc in no)
failure-stays (true ∷ tests) more i h =
    let rest = one-more (first_failure tests) i h in
    ap (option_map suc) (failure-stays tests more rest.0 rest.1) ∙ ap Some (sym rest.2)
failure-stays (false ∷ tests) more i h = h

-- ---- the tests of the first records are the first tests

catch-up-take : (manifest : Kinds) (entries : List (Elem × Record)) (i : ℕ) (ds : List CatchUpEntry) → catch_up_tests manifest entries (take i ds) ≡ take i (catch_up_tests manifest entries ds)
catch-up-take manifest entries zero ds = refl
catch-up-take manifest entries (suc i) [] = refl
catch-up-take manifest entries (suc i) (d ∷ ds) = ap (λ ts. is_caught_up manifest (record_at entries d.message.to) d ∷ ts) (catch-up-take manifest (redelivered manifest entries d) i ds)

pending-take : (w : World) (i : ℕ) (ms : List Message) → pending_tests w (take i ms) ≡ take i (pending_tests w ms)
pending-take w zero ms = refl
pending-take w (suc i) [] = refl
pending-take w (suc i) (m ∷ ms) = ap (λ ts. was_sent w m.id.origin m.id.number ∷ ts) (pending-take w i ms)

events-take : (w : World) (before i : ℕ) (log : List Logged) → event_tests w before (take i log) ≡ take i (event_tests w before log)
events-take w before zero log = refl
events-take w before (suc i) [] = refl
events-take w before (suc i) (l ∷ log) = ap (λ ts. happens w before l ∷ ts) (events-take (after w (event_of l)) (before + 1) i log)

catch-up-length : (manifest : Kinds) (entries : List (Elem × Record)) (ds : List CatchUpEntry) → length (catch_up_tests manifest entries ds) ≡ length ds
catch-up-length manifest entries [] = refl
catch-up-length manifest entries (d ∷ ds) = ap suc (catch-up-length manifest (redelivered manifest entries d) ds)

pending-length : (w : World) (ms : List Message) → length (pending_tests w ms) ≡ length ms
pending-length w [] = refl
pending-length w (m ∷ ms) = ap suc (pending-length w ms)

events-length : (w : World) (before : ℕ) (log : List Logged) → length (event_tests w before log) ≡ length log
events-length w before [] = refl
events-length w before (l ∷ log) = ap suc (events-length (after w (event_of l)) (before + 1) log)

-- ---- the rounds

in-catch-up : (a b c : Option ℕ) (i : ℕ) → place_in_catch_up a (place_in_pending b (place_in_events c)) ≡ Some (InCatchUp i) → a ≡ Some i
in-catch-up (Some j) b c i h = let same : j ≡ i = cc in ap Some same
in-catch-up None (Some j) c i h = absurd (let no : ⊥ = cc in no)
in-catch-up None None (Some j) i h = absurd (let no : ⊥ = cc in no)
in-catch-up None None None i h = absurd (let no : ⊥ = cc in no)

in-pending : (a b c : Option ℕ) (i : ℕ) → place_in_catch_up a (place_in_pending b (place_in_events c)) ≡ Some (InPending i) → (a ≡ None) × (b ≡ Some i)
in-pending (Some j) b c i h = absurd (let no : ⊥ = cc in no)
in-pending None (Some j) c i h = (refl, let same : j ≡ i = cc in ap Some same)
in-pending None None (Some j) i h = absurd (let no : ⊥ = cc in no)
in-pending None None None i h = absurd (let no : ⊥ = cc in no)

in-events : (a b c : Option ℕ) (i : ℕ) → place_in_catch_up a (place_in_pending b (place_in_events c)) ≡ Some (InEvents i) → (a ≡ None) × (b ≡ None) × (c ≡ Some i)
in-events (Some j) b c i h = absurd (let no : ⊥ = cc in no)
in-events None (Some j) c i h = absurd (let no : ⊥ = cc in no)
in-events None None (Some j) i h = (refl, refl, let same : j ≡ i = cc in ap Some same)
in-events None None None i h = absurd (let no : ⊥ = cc in no)

module _ (image : Image) (before : ℕ) (log : List Logged) where
  abbrev first : List Bool
  first = catch_up_tests image.manifest image.records image.caught_up

  abbrev second : List Bool
  second = pending_tests (base image) image.pending

  abbrev third : List Bool
  third = event_tests (base image) before log

  catch-up-places : (i : ℕ) → first_fault image before log ≡ Some (InCatchUp i) →
      (i < length image.caught_up) × (first_failure (catch_up_tests image.manifest image.records (take i image.caught_up)) ≡ None)
  catch-up-places i h =
      let is = in-catch-up (first_failure first) (first_failure second) (first_failure third) i h in (
        subst (λ n. i < n) (catch-up-length image.manifest image.records image.caught_up) (failure-below first i is),
        ap first_failure (catch-up-take image.manifest image.records i image.caught_up) ∙ none-before first i is,
      )

  pending-places : (i : ℕ) → first_fault image before log ≡ Some (InPending i) →
      (i < length image.pending) × (first_failure first ≡ None) × (first_failure (pending_tests (base image) (take i image.pending)) ≡ None)
  pending-places i h =
      let is = in-pending (first_failure first) (first_failure second) (first_failure third) i h in (
        subst (λ n. i < n) (pending-length (base image) image.pending) (failure-below second i is.1),
        is.0,
        ap first_failure (pending-take (base image) i image.pending) ∙ none-before second i is.1,
      )

  event-places : (i : ℕ) → first_fault image before log ≡ Some (InEvents i) → (i < length log) × (first_fault image before (take i log) ≡ None)
  event-places i h =
      let is = in-events (first_failure first) (first_failure second) (first_failure third) i h in
      let none : first_failure (event_tests (base image) before (take i log)) ≡ None = ap first_failure (events-take (base image) before i log) ∙ none-before third i is.2 in
      let a = is.0 in
      let b = is.1 in (
        subst (λ n. i < n) (events-length (base image) before log) (failure-below third i is.2),
        (λ j. place_in_catch_up (a j) (place_in_pending (b j) (place_in_events (none j)))),
      )

pub places : (image : Image) (before : ℕ) (log : List Logged) (i : ℕ) →
    (first_fault image before log ≡ Some (InCatchUp i) →
    (i < length image.caught_up) × (first_failure (catch_up_tests image.manifest image.records (take i image.caught_up)) ≡ None))
    × (first_fault image before log ≡ Some (InPending i) →
    (i < length image.pending) × (first_failure (catch_up_tests image.manifest image.records image.caught_up) ≡ None)
    × (first_failure (pending_tests (base image) (take i image.pending)) ≡ None))
    × (first_fault image before log ≡ Some (InEvents i) → (i < length log) × (first_fault image before (take i log) ≡ None))
places image before log i = (catch-up-places image before log i, pending-places image before log i, event-places image before log i)

-- ---- a longer log

pub faulty-parts : (o : Option Place) (w : World) (n : ℕ) (fault : Place) → unless_faulty o w n ≡ Faulty fault → o ≡ Some fault
faulty-parts None w n fault h = absurd (let no : ⊥ = cc in no)
faulty-parts (Some f) w n fault h = let same : f ≡ fault = cc in ap Some same

rounds-stay : (a b c d : Option ℕ) (fault : Place) → ((i : ℕ) → c ≡ Some i → d ≡ Some i) → place_in_catch_up a (place_in_pending b (place_in_events c)) ≡ Some fault →
    place_in_catch_up a (place_in_pending b (place_in_events d)) ≡ Some fault
rounds-stay (Some j) b c d fault on h = h
rounds-stay None (Some j) c d fault on h = h
rounds-stay None None (Some i) d fault on h = ap place_in_events (on i refl) ∙ h
rounds-stay None None None d fault on h = absurd (let no : ⊥ = cc in no)

pub faults-stay : (image : Image) (before : ℕ) (log more : List Logged) (fault : Place) →
    meaning image before log ≡ Faulty fault → meaning image before (log ++ more) ≡ Faulty fault
faults-stay image before log more fault h =
    let was = faulty-parts (first_fault image before log) (recovered_world image log) (before + length log) fault h in
    let is : first_fault image before (log ++ more) ≡ Some fault =
    rounds-stay (first_failure (catch_up_tests image.manifest image.records image.caught_up)) (first_failure (pending_tests (base image) image.pending))
    (first_failure (event_tests (base image) before log)) (first_failure (event_tests (base image) before (log ++ more))) fault
    (λ i at. ap first_failure (tests-grow (base image) before log more) ∙ failure-stays (event_tests (base image) before log) (event_tests (world (base image) (events_of log)) (before + length log) more) i at)
    was in
    ap (λ o. unless_faulty o (recovered_world image (log ++ more)) (before + length (log ++ more))) is
