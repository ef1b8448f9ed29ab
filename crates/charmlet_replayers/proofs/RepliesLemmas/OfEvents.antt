-- The replies of all replayers are those of the events.
use Rattle.std.proofs.Common.{◌≡◌, ℕ, zero, suc, ◌+◌, ◌<◌, ◌==◌, Bool, true, false, cond, ◌&&◌, List, [], ◌∷◌, ◌++◌, length, refl, sym, ap, subst, ◌∙◌, arith, if◌then◌else◌, Some, None}
use Rattle.std.specs.Prelude.{Option, flat_map, is_some, option_map, slice_get}
use Rattle.std.specs.List.{AllByRecursion}
use Rattle.std.specs.List.Sorted.{IsStrictlySortedBy}
use Rattle.std.specs.Map.{keys_of}
use Rattle.std.proofs.lemmas.Bool.{eq-eqb}
use Rattle.charmlet_model.specs.declared.event.Event.{Event}
use Rattle.charmlet_model.specs.declared.event.Event.TheVariants as events
use Rattle.charmlet_model.specs.declared.logged.Effect.{Effect}
use Rattle.charmlet_model.specs.declared.logged.Logged.{Logged}
use Rattle.charmlet_model.specs.declared.logged.Logged.TheVariants.{Accept, Deliver}
use Rattle.charmlet_model.specs.declared.message.Message.{Message}
use Rattle.charmlet_model.specs.declared.message.Outgoing.{Outgoing}
use Rattle.charmlet_model.specs.declared.names.Elem.{Elem}
use Rattle.charmlet_model.specs.declared.names.MsgId.{MsgId}
use Rattle.charmlet_model.specs.declared.names.Origin.{Origin}
use Rattle.charmlet_model.specs.declared.names.Origin.TheVariants.{Client, Element}
use Rattle.charmlet_model.specs.declared.reaction.Reaction.{Reaction}
use Rattle.charmlet_model.specs.declared.state.Record.{Record}
use Rattle.charmlet_model.specs.Fit.{IsFit}
use Rattle.charmlet_model.specs.Logging.{event_of}
use Rattle.charmlet_model.specs.Names.{elem_cmp, same_id, same_origin}
use Rattle.charmlet_model.specs.World.{IsEvent, World, after, can, can_all, message_among, reaction_of, record_of}
use Rattle.charmlet_model.proofs.Fits.{AllByRecursion-map, fit-after, same_id-is}
use Rattle.charmlet_model.proofs.Histories.{manifest-after}
use Rattle.charmlet_model.proofs.Maps.{both_parts}
use Rattle.charmlet_model.proofs.Reactions.{AllByRecursion-append}
use Rattle.charmlet_record.specs.declared.positioned.Positioned.{Positioned}
use Rattle.charmlet_record.specs.Reading.{Kinds}
use Rattle.charmlet_image.specs.Positioned.{items_of}
use Rattle.charmlet_recovery.specs.Bases.{events_of, reaction, records_after}
use Rattle.charmlet_recovery.specs.Faults.{event_tests, first_failure, happens}
use Rattle.charmlet_recovery.specs.Replays.{IsBeginning, LogScan, advanced_records, last_reply, message_of, or_else, scanned, reply_by}
use Rattle.charmlet_recovery.proofs.Steps.{happening}
use Rattle.charmlet_log_scan.specs.declared.partition.task.Task.{Task}
use Rattle.charmlet_log_scan.specs.Partition.Parts.{done, is_of_worker, part, task_at, task_if, tasks}
use Rattle.charmlet_log_scan.proofs.PartitionLemmas.CatchUps.{part-after, part-stays}
use Rattle.charmlet_log_scan.proofs.PartitionLemmas.Events.{ends-alike}
use Rattle.charmlet_log_scan.proofs.PartitionLemmas.Parts.{record-part}
use Rattle.charmlet_replayers.specs.declared.replies.reply.Reply.{Reply}
use Rattle.charmlet_replayers.specs.Replies.Replies.{AreRepliesOf, given, kept_of, kept_reply, replies_of}
use Rattle.charmlet_replayers.proofs.RepliesLemmas.Once.{never-again, now-answered, replied}

-- ---- tests that all pass

pub none-first : (p : Bool) (tests : List Bool) → first_failure (p ∷ tests) ≡ None → (p ≡ true) × (first_failure tests ≡ None)
none-first true tests h = (refl, none_more (first_failure tests) h)
  where
    none_more : (o : Option ℕ) → option_map suc o ≡ None → o ≡ None
    none_more None h = refl
    none_more (Some j) h = absurd (let never : ⊥ = cc in never)
none-first false tests h = absurd (let never : ⊥ = cc in never)

pub all-can : (w : World) (before : ℕ) (log : List Logged) → first_failure (event_tests w before log) ≡ None → can_all w (events_of log) ≡ true
all-can w before [] h = refl
all-can w before (l ∷ log) h =
    let parts = none-first (happens w before l) (event_tests (after w (event_of l)) (before + 1) log) h in
    let here = (both_parts _ _ (both_parts _ _ parts.0).0).0 in
    let rest = all-can (after w (event_of l)) (before + 1) log parts.1 in
    λ i. here i && rest i

-- the world and the scan go on alike
pub record GoOn (w : World) (scan : LogScan) (l : Logged) : Type 0 where
  pub begin : IsBeginning (after w (event_of l)) (scanned scan l)
  pub records : advanced_records w.manifest w.records (message_of scan l) ≡ (after w (event_of l)).records

pub go-on : (w : World) (scan : LogScan) (before : ℕ) (l : Logged) → IsBeginning w scan → happens w before l ≡ true → GoOn w scan l
go-on w scan before l begin h =
    let one = ends-alike w scan before (l ∷ []) begin (ap (λ b. first_failure (b ∷ [])) h) in
    record { begin = one.0; records = one.1 }

-- ---- the replies of one record of the log

-- what a replayer keeps of the reply to a message
abbrev pub head : (Elem → Bool) → World → Option Message → List Reply
head mine w None = []
head mine w (Some m) = if mine m.to then kept_of m.id (reaction_of w m) else []

abbrev pub heads : (Elem → Bool) → World → Logged → List Reply
heads mine w (Accept client number to entry words) = []
heads mine w (Deliver id received effect sends) = head mine w (message_among id w.pending)

module _ (mine : Elem → Bool) (w : World) (left : ℕ) (rising : IsStrictlySortedBy elem_cmp (keys_of w.records)) (ts : List Task) (kinds : Kinds) (next : List (Elem × Record)) (same : kinds ≡ w.manifest) where
  one-task : (m : Message) (received : ℕ) (effect : Effect) (sends : List Outgoing) → advanced_records w.manifest w.records (Some m) ≡ next →
      replies_of w.manifest (part mine w.records) (task_if mine left (Some m) received effect sends ++ ts) ≡ head mine w (Some m) ++ replies_of kinds (part mine next) ts
  one-task m received effect sends is =
      let t : Task = record { bytes_left = left; message = m; received = received; effect = effect; sends = sends } in
      let o = reaction w.manifest (record_of w m.to) m in
      elim (mine m.to) as (λ b. mine m.to ≡ b → replies_of w.manifest (part mine w.records) (cond b (t ∷ []) [] ++ ts) ≡ cond b (kept_of m.id o) [] ++ replies_of kinds (part mine next) ts) [
        | true ↦ λ own.
            let found = record-part mine w.records m.to own in
            let did : done w.manifest (part mine w.records) t ≡ part mine next =
            ap (λ r. records_after (part mine w.records) m.to r (reaction w.manifest r m)) found
            ∙ part-after mine w.records m.to (record_of w m.to) o rising own
            ∙ ap (part mine) is in
            λ i. kept_of m.id (reaction w.manifest (found i) m) ++ replies_of (sym same i) (did i) ts
        | false ↦ λ apart.
            let stays : part mine w.records ≡ part mine next = sym (part-stays mine w.records m.to (record_of w m.to) o apart) ∙ ap (part mine) is in
            λ i. replies_of (sym same i) (stays i) ts
      ] refl

  no-task : (received : ℕ) (effect : Effect) (sends : List Outgoing) → w.records ≡ next →
      replies_of w.manifest (part mine w.records) (task_if mine left None received effect sends ++ ts) ≡ head mine w None ++ replies_of kinds (part mine next) ts
  no-task received effect sends is = λ i. replies_of (sym same i) (part mine (is i)) ts

  for-message : (o : Option Message) (received : ℕ) (effect : Effect) (sends : List Outgoing) → advanced_records w.manifest w.records o ≡ next →
      replies_of w.manifest (part mine w.records) (task_if mine left o received effect sends ++ ts) ≡ head mine w o ++ replies_of kinds (part mine next) ts
  for-message None received effect sends is = no-task received effect sends is
  for-message (Some m) received effect sends is = one-task m received effect sends is

-- what a replayer keeps is that of the first record, and then that of the others
replies-step : (mine : Elem → Bool) (w : World) (scan : LogScan) (left : ℕ) (l : Logged) (ts : List Task) → IsStrictlySortedBy elem_cmp (keys_of w.records) → IsBeginning w scan → GoOn w scan l →
    replies_of w.manifest (part mine w.records) (task_at mine left scan l ++ ts) ≡ heads mine w l ++ replies_of (after w (event_of l)).manifest (part mine (after w (event_of l)).records) ts
replies-step mine w scan left (Accept client number to entry words) ts rising begin on = refl
replies-step mine w scan left (Deliver id received effect sends) ts rising begin on =
    let v = after w (events.Deliver id) in
    for-message mine w left rising ts v.manifest v.records (manifest-after w (events.Deliver id)) (message_among id scan.pending) received effect sends on.records
    ∙ ap (λ ms. head mine w (message_among id ms) ++ replies_of v.manifest (part mine v.records) ts) begin.pending

-- ---- each of them is the event's

abbrev IsLast : World → List Event → Reply → Type 0
IsLast w history r = last_reply r.client r.number w history ≡ Some r.words

same-client : (c : ℕ) (origin : Origin) → origin ≡ Client c → same_origin (Client c) origin ≡ true
same-client c origin is = ap (same_origin (Client c)) is ∙ eq-eqb c c refl

kept-last : (w : World) (history : List Event) (origin : Origin) (number : ℕ) (words : List ℕ) → ((c : ℕ) → origin ≡ Client c → last_reply c number w history ≡ Some words) → AllByRecursion (IsLast w history) (kept_reply origin number words)
kept-last w history (Element x) number words each = tt
kept-last w history (Client c) number words each = (each c refl, tt)

module _ (mine : Elem → Bool) (w : World) (fit : IsFit w) (e : Event) (es : List Event) (typed : AllByRecursion IsEvent (e ∷ es)) (able : can w e ≡ true) (later : can_all (after w e) es ≡ true) where
  -- what the event replies is the last reply
  last-here : (c n : ℕ) (words : List ℕ) → reply_by c n w e ≡ Some words → last_reply c n w (e ∷ es) ≡ Some words
  last-here c n words is =
      let never = never-again (after w e) es c n (fit-after w e fit typed.0 able) typed.1 later (now-answered w c n e words fit able is) in
      λ i. or_else (never i) (is i)

heads-last : (mine : Elem → Bool) (w : World) (l : Logged) (es : List Event) → IsFit w → AllByRecursion IsEvent (event_of l ∷ es) → can w (event_of l) ≡ true → can_all (after w (event_of l)) es ≡ true →
    AllByRecursion (IsLast w (event_of l ∷ es)) (heads mine w l)
heads-last mine w (Accept client number to entry words) es fit typed able later = tt
heads-last mine w (Deliver id received effect sends) es fit typed able later =
    let e = events.Deliver id in
    let h = happening w id fit able in
    let m = h.message in
    let o = h.outcome in
    let kept : AllByRecursion (IsLast w (e ∷ es)) (kept_reply m.id.origin m.id.number o.reply) =
    kept-last w (e ∷ es) m.id.origin m.id.number o.reply (λ c is.
    let same : same_id (record { origin = Client c; number = m.id.number }) m.id ≡ true = (let one = same-client c m.id.origin is in let two = eq-eqb m.id.number m.id.number refl in λ i. one i && two i) in
    last-here mine w fit e es typed able later c m.id.number o.reply
    (replied w c m.id.number id h ∙ ap (λ b. if b then Some o.reply else None) same)) in
    subst (λ k. AllByRecursion (IsLast w (e ∷ es)) (head mine w k)) (sym h.is_message)
    (subst (λ k. AllByRecursion (IsLast w (e ∷ es)) (if mine m.to then kept_of m.id k else [])) (sym h.is_outcome)
    (elim (mine m.to) as (λ b. AllByRecursion (IsLast w (e ∷ es)) (if b then kept_reply m.id.origin m.id.number o.reply else [])) [ true ↦ kept | false ↦ tt ]))

pub each-last : (mine : Elem → Bool) (w : World) (before : ℕ) (scan : LogScan) (log : List (Positioned Logged)) → IsFit w → AllByRecursion IsEvent (events_of (items_of log)) → IsBeginning w scan →
    first_failure (event_tests w before (items_of log)) ≡ None → AllByRecursion (IsLast w (events_of (items_of log))) (replies_of w.manifest (part mine w.records) (tasks mine scan log))
each-last mine w before scan [] fit typed begin none = tt
each-last mine w before scan (p ∷ log) fit typed begin none =
    let l = p.item in
    let e = event_of l in
    let v = after w e in
    let es = events_of (items_of log) in
    let parts = none-first (happens w before l) (event_tests v (before + 1) (items_of log)) none in
    let able = (both_parts _ _ (both_parts _ _ parts.0).0).0 in
    let on = go-on w scan before l begin parts.0 in
    let rest = each-last mine v (before + 1) (scanned scan l) log (fit-after w e fit typed.0 able) typed.1 on.begin parts.1 in
    let more = replies_of v.manifest (part mine v.records) (tasks mine (scanned scan l) log) in
    subst (AllByRecursion (IsLast w (e ∷ es))) (sym (replies-step mine w scan p.bytes_left l (tasks mine (scanned scan l) log) fit.rising_records begin on))
    (AllByRecursion-append (IsLast w (e ∷ es)) (heads mine w l) more
    (heads-last mine w l es fit typed able (all-can v (before + 1) (items_of log) parts.1))
    (AllByRecursion-map (IsLast v es) (IsLast w (e ∷ es)) more (λ r is. ap (λ k. or_else k (reply_by r.client r.number w e)) is) rest))

-- ---- and there is one for each request

pub given-right : (c n : ℕ) (hs rs : List Reply) → is_some (given c n rs) ≡ true → is_some (given c n (hs ++ rs)) ≡ true
given-right c n [] rs h = h
given-right c n (r ∷ hs) rs h =
    elim ((r.client == c) && (r.number == n)) as (λ b. is_some (if b then Some r.words else given c n (hs ++ rs)) ≡ true) [ true ↦ refl | false ↦ given-right c n hs rs h ]

pub given-left : (c n : ℕ) (hs rs : List Reply) → is_some (given c n hs) ≡ true → is_some (given c n (hs ++ rs)) ≡ true
given-left c n [] rs h = absurd (let never : ⊥ = cc in never)
given-left c n (r ∷ hs) rs h =
    elim ((r.client == c) && (r.number == n)) as (λ b. is_some (if b then Some r.words else given c n hs) ≡ true → is_some (if b then Some r.words else given c n (hs ++ rs)) ≡ true) [
      | true ↦ λ _. refl
      | false ↦ λ g. given-left c n hs rs g
    ] h

-- the replayer of this element keeps a reply to the request
pub record IsKept (c n : ℕ) (w : World) (scan : LogScan) (log : List (Positioned Logged)) : Type 0 where
  pub receiver : Elem
  pub is_given : (mine : Elem → Bool) → mine receiver ≡ true → is_some (given c n (replies_of w.manifest (part mine w.records) (tasks mine scan log))) ≡ true

kept-given : (c n : ℕ) (id : MsgId) (o : Reaction) → same_id (record { origin = Client c; number = n }) id ≡ true → is_some (given c n (kept_of id (Some o))) ≡ true
kept-given c n id o same =
    let one : record { origin = Client c; number = n } ≡ id = same_id-is (record { origin = Client c; number = n }) id same in
    let test : ((c == c) && (n == n)) ≡ true = (let a = eq-eqb c c refl in let b = eq-eqb n n refl in λ i. a i && b i) in
    subst (λ (k : MsgId). is_some (given c n (kept_of k (Some o))) ≡ true) one
    (ap (λ b. is_some (if b then Some o.reply else None)) test)

pub one-for-each : (c n : ℕ) (words : List ℕ) (w : World) (before : ℕ) (scan : LogScan) (log : List (Positioned Logged)) → IsFit w → AllByRecursion IsEvent (events_of (items_of log)) → IsBeginning w scan →
    first_failure (event_tests w before (items_of log)) ≡ None → last_reply c n w (events_of (items_of log)) ≡ Some words → IsKept c n w scan log
one-for-each c n words w before scan [] fit typed begin none last = absurd (let never : ⊥ = cc in never)
one-for-each c n words w before scan (p ∷ log) fit typed begin none last =
    let l = p.item in
    let e = event_of l in
    let v = after w e in
    let es = events_of (items_of log) in
    let parts = none-first (happens w before l) (event_tests v (before + 1) (items_of log)) none in
    let able = (both_parts _ _ (both_parts _ _ parts.0).0).0 in
    let on = go-on w scan before l begin parts.0 in
    let ts = λ (mine : Elem → Bool). tasks mine (scanned scan l) log in
    let step = λ (mine : Elem → Bool). replies-step mine w scan p.bytes_left l (ts mine) fit.rising_records begin on in
    elim (last_reply c n v es) as (λ k. last_reply c n v es ≡ k → or_else k (reply_by c n w e) ≡ Some words → IsKept c n w scan (p ∷ log)) [
      | Some others ↦ λ later _.
          let kept = one-for-each c n others v (before + 1) (scanned scan l) log (fit-after w e fit typed.0 able) typed.1 on.begin parts.1 later in
          record {
            receiver = kept.receiver;
            is_given = λ mine its.
                subst (λ rs. is_some (given c n rs) ≡ true) (sym (step mine))
                (given-right c n (heads mine w l) (replies_of v.manifest (part mine v.records) (ts mine)) (kept.is_given mine its));
          }
      | None ↦ λ _ now.
          let first = first_of l able now in
          record {
            receiver = first.0;
            is_given = λ mine its.
                subst (λ rs. is_some (given c n rs) ≡ true) (sym (step mine))
                (given-left c n (heads mine w l) (replies_of v.manifest (part mine v.records) (ts mine)) (first.1 mine its));
          }
    ] refl last
  where
    first_of : (l : Logged) → can w (event_of l) ≡ true → reply_by c n w (event_of l) ≡ Some words → (x : Elem) × ((mine : Elem → Bool) → mine x ≡ true → is_some (given c n (heads mine w l)) ≡ true)
    first_of (Accept client number to entry others) able now = absurd (let never : ⊥ = cc in never)
    first_of (Deliver id received effect sends) able now =
        let h = happening w id fit able in
        let m = h.message in
        let o = h.outcome in (
          m.to,
          λ mine its.
              subst (λ k. is_some (given c n (head mine w k)) ≡ true) (sym h.is_message)
              (subst (λ k. is_some (given c n (if mine m.to then kept_of m.id k else [])) ≡ true) (sym h.is_outcome)
              (subst (λ b. is_some (given c n (if b then kept_of m.id (Some o) else [])) ≡ true) (sym its)
              (elim (same_id (record { origin = Client c; number = n }) m.id) as (λ b. same_id (record { origin = Client c; number = n }) m.id ≡ b → (if b then Some o.reply else None) ≡ Some words → is_some (given c n (kept_of m.id (Some o))) ≡ true) [
                | true ↦ λ same _. kept-given c n m.id o same
                | false ↦ λ _ not. absurd (let never : ⊥ = cc in never)
              ] refl (sym (replied w c n id h) ∙ now)))),
        )

-- ---- the lists of all replayers

all-lists : (P : Reply → Type 0) (lists : List (List Reply)) → ((v : ℕ) (rs : List Reply) → slice_get lists v ≡ Some rs → AllByRecursion P rs) → AllByRecursion P (flat_map (λ rs. rs) lists)
all-lists P [] each = tt
all-lists P (rs ∷ lists) each = AllByRecursion-append P rs (flat_map (λ rs. rs) lists) (each 0 rs refl) (all-lists P lists (λ v more is. each (suc v) more is))

there-is : (lists : List (List Reply)) (v : ℕ) → v < length lists → (rs : List Reply) × (slice_get lists v ≡ Some rs)
there-is [] v within = absurd (omega (arith, within))
there-is (rs ∷ lists) zero within = (rs, refl)
there-is (rs ∷ lists) (suc v) within = there-is lists v (omega (arith, within))

given-in : (c n : ℕ) (lists : List (List Reply)) (v : ℕ) (rs : List Reply) → slice_get lists v ≡ Some rs → is_some (given c n rs) ≡ true → is_some (given c n (flat_map (λ rs. rs) lists)) ≡ true
given-in c n [] v rs is h = absurd (let never : ⊥ = cc in never)
given-in c n (first ∷ lists) zero rs is h = given-left c n first (flat_map (λ rs. rs) lists) (let same : first ≡ rs = cc in subst (λ k. is_some (given c n k) ≡ true) (sym same) h)
given-in c n (first ∷ lists) (suc v) rs is h = given-right c n first (flat_map (λ rs. rs) lists) (given-in c n lists v rs is h)

pub are-of-events : (worker : Elem → ℕ) (w : World) (before : ℕ) (scan : LogScan) (log : List (Positioned Logged)) (lists : List (List Reply)) → IsFit w → AllByRecursion IsEvent (events_of (items_of log)) → IsBeginning w scan →
    first_failure (event_tests w before (items_of log)) ≡ None → ((x : Elem) → worker x < length lists) →
    ((v : ℕ) (rs : List Reply) → slice_get lists v ≡ Some rs → rs ≡ replies_of w.manifest (part (is_of_worker worker v) w.records) (tasks (is_of_worker worker v) scan log)) →
    AreRepliesOf w (events_of (items_of log)) (flat_map (λ rs. rs) lists)
are-of-events worker w before scan log lists fit typed begin none within are =
    let es = events_of (items_of log) in
    record {
      each = all-lists (IsLast w es) lists (λ v rs is. subst (AllByRecursion (IsLast w es)) (sym (are v rs is)) (each-last (is_of_worker worker v) w before scan log fit typed begin none));
      all = λ c n missing.
          elim (last_reply c n w es) as (λ k. last_reply c n w es ≡ k → k ≡ None) [
            | None ↦ λ _. refl
            | Some words ↦ λ last.
                let kept = one-for-each c n words w before scan log fit typed begin none last in
                let v = worker kept.receiver in
                let its = there-is lists v (within kept.receiver) in
                let there : is_some (given c n its.0) ≡ true = subst (λ rs. is_some (given c n rs) ≡ true) (sym (are v its.0 its.1)) (kept.is_given (is_of_worker worker v) (eq-eqb v v refl)) in
                let in_all = given-in c n lists v its.0 its.1 there in
                let contra : true ≡ false = sym in_all ∙ ap is_some missing in
                absurd (let never : ⊥ = cc in never)
          ] refl;
    }
