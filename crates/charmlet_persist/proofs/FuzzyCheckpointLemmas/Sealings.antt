-- The image of a running checkpoint, and its bytes.
use Rattle.std.proofs.Common.{◌≡◌, inr, ⊎_elim, ℕ, ◌+◌, ◌-◌, ◌<◌, ◌≤◌, ◌^◌, true, false, cond, List, [], ◌∷◌, ◌++◌, length, take, drop, refl, sym, ap, subst, ◌∙◌, append_assoc, length-append, arith}
use Rattle.std.proofs.lemmas.List.{append-nil, take-append-drop, length-take-le, length-drop, drop_at}
use Rattle.std.proofs.lemmas.List.Elements.{All-from_recursion}
use Rattle.std.proofs.lemmas.Map.Keys.{IsDistinct-from_sorted, IsDistinct-head}
use Rattle.std.proofs.lemmas.Map.Views.{tells_apart}
use Rattle.std.proofs.lemmas.Cmp.{eq_by_cmp_equiv}
use Rattle.std.specs.Prelude.{All, Option, Some, None, IfSome, is_some, option_map, unwrap_or}
use Rattle.std.specs.BTreeMap.{is_at}
use Rattle.std.specs.List.{AllByRecursion, flat_map}
use Rattle.std.specs.List.Sorted.{IsStrictlySortedBy}
use Rattle.std.specs.Map.{keys_of, lookup, values_of}
use Rattle.std.specs.Ordering.{eq_by_cmp}
use Rattle.std.specs.declared.cmp.Ordering.TheVariants.{Less}
use Rattle.charmlet_pup.specs.Fields.{number_bytes, byte_list}
use Rattle.charmlet_model.specs.declared.names.Elem.{Elem}
use Rattle.charmlet_model.specs.declared.event.Event.{Event}
use Rattle.charmlet_model.specs.declared.state.State.{State}
use Rattle.charmlet_model.specs.declared.state.Record.{Record}
use Rattle.charmlet_model.specs.declared.logged.CatchUpEntry.{CatchUpEntry}
use Rattle.charmlet_model.specs.declared.message.Message.{Message}
use Rattle.charmlet_model.specs.declared.client.ClientRow.{ClientRow}
use Rattle.charmlet_record.specs.Reading.{Kinds}
use Rattle.charmlet_model.specs.Core.{Core, present}
use Rattle.charmlet_model.specs.Fit.{IsFit, IsKept}
use Rattle.charmlet_model.specs.Names.{elem_cmp}
use Rattle.charmlet_model.specs.Packed.{pupped}
use Rattle.charmlet_model.specs.Sound.{IsSound}
use Rattle.charmlet_model.specs.Spelling.{effect_number, spell_caught_up, spell_elem, spell_list, spell_log, spell_message}
use Rattle.charmlet_model.specs.World.{World, world, IsLegal, no_record, record_at, record_of}
use Rattle.charmlet_model.proofs.Fits.{fit-world}
use Rattle.charmlet_model.proofs.Maps.{absent, elem_exact, elem_total}
use Rattle.charmlet_image.specs.declared.header.Mark.TheVariants.{Third}
use Rattle.charmlet_image.specs.Halves.{IsSaved}
use Rattle.charmlet_image.specs.Images.{Image, Saved, spell_array, spell_client, spell_entry, spell_half, spell_header, spell_image, spell_option, spell_state}
use Rattle.charmlet_image.proofs.FitImageLemmas.{few_in, message_long, no_more}
use Rattle.charmlet_image.proofs.HalfViews.{length-spell_header}
use Rattle.charmlet_recovery.specs.Meanings.{Whole, meaning}
use Rattle.charmlet_recovery.specs.Moments.{IsTakenDuring, deliveries}
use Rattle.charmlet_recovery.specs.Stores.{half_with}
use Rattle.charmlet_recovery.proofs.Recovered.{manifest-world}
use Rattle.charmlet_recovery.proofs.Writing.{legal_histories_part, taken_images_are_saved}
use Rattle.charmlet_persist.specs.Writes.Rest.{IsSealing}
use Rattle.charmlet_persist.specs.declared.fuzzy_checkpoint.captured_element.CapturedElement.{CapturedElement}
use Rattle.charmlet_persist.specs.FuzzyCheckpoint.Checkpoint.{AreAllCaptured, IsEntry, IsRunning, IsSettled, Run, events_since, captured_of, world_before}
use Rattle.charmlet_persist.specs.FuzzyCheckpoint.Sealing.{IsShort, IsWithinLimits, PassesLimit, count_kept, counted_if, header_of, sealing_bytes, spell_entries, spell_kept, spell_kept_if, spell_running, spell_captured}
use Rattle.charmlet_persist.proofs.FuzzyCheckpointLemmas.Steps.{Rises, few, now_is}

-- ---- entries at their elements

-- an entry that is found at its own element
abbrev pub IsOwn : List (Elem × Option CapturedElement) → Elem × Option CapturedElement → Type 0
IsOwn es e = captured_of es e.0 ≡ Some e.1

module _ (e : Elem × Option CapturedElement) (es : List (Elem × Option CapturedElement)) where
  apart_own : (fs : List (Elem × Option CapturedElement)) → AllByRecursion (λ y. eq_by_cmp elem_cmp e.0 y ≡ false) (keys_of fs) → AllByRecursion (IsOwn es) fs → AllByRecursion (IsOwn (e ∷ es)) fs
  apart_own [] apart own = tt
  apart_own (f ∷ fs) apart own =
      let away : eq_by_cmp elem_cmp f.0 e.0 ≡ false = (eq_by_cmp_equiv elem_total).symm f.0 e.0 ∙ apart.0 in (
        ap (λ b. cond b (Some e.1) (captured_of es f.0)) away ∙ own.0,
        apart_own fs apart.1 own.1,
      )

rest_rises : (e : Elem × Option CapturedElement) (es : List (Elem × Option CapturedElement)) → Rises (e ∷ es) → Rises es
unfolding IsStrictlySortedBy
rest_rises e es h = h.1

pub all_own : (es : List (Elem × Option CapturedElement)) → Rises es → AllByRecursion (IsOwn es) es
all_own [] rises = tt
all_own (e ∷ es) rises =
    let others = IsDistinct-head (eq_by_cmp elem_cmp) e.0 (keys_of es) (IsDistinct-from_sorted elem_cmp (keys_of (e ∷ es)) rises) in
    let itself : eq_by_cmp elem_cmp e.0 e.0 ≡ true = (eq_by_cmp_equiv elem_total).refl e.0 in (
      ap (λ b. cond b (Some e.1) (captured_of es e.0)) itself,
      apart_own e es es others (all_own es (rest_rises e es rises)),
    )

-- what is known of each element is known of each entry
pub by_entries : (P : Elem → Option (Option CapturedElement) → Type 0) (captured : List (Elem × Option CapturedElement)) → ((x : Elem) → P x (captured_of captured x)) → (es : List (Elem × Option CapturedElement)) → AllByRecursion (IsOwn captured) es →
    AllByRecursion (λ e. P e.0 (Some e.1)) es
by_entries P captured known [] own = tt
by_entries P captured known (e ∷ es) own = (subst (P e.0) own.0 (known e.0), by_entries P captured known es own.1)

-- ---- the records of entries

-- the record of an entry, if it is one
abbrev kept_record : Elem → Record → Option CapturedElement → List (Elem × Record) → List (Elem × Record)
kept_record x r None records = records
kept_record x r (Some s) records = (x, r) ∷ records

-- the records of the entries, each as it is said to be
abbrev pub records_of : (Elem → Record) → List (Elem × Option CapturedElement) → List (Elem × Record)
records_of rec [] = []
records_of rec (e ∷ es) = kept_record e.0 (rec e.0) e.1 (records_of rec es)

-- each entry has its record
abbrev pub IsOf : (Elem → Record) → Elem × Option CapturedElement → Type 0
IsOf rec e = IfSome e.1 (λ s. IsEntry s (rec e.0))

-- the record that is said, of an element that has an entry
abbrev found_record : Record → Option (Option CapturedElement) → Record
found_record r None = no_record
found_record r (Some None) = no_record
found_record r (Some (Some s)) = r

module _ (rec : Elem → Record) where
  all_from : (P : Elem → Type 0) (es : List (Elem × Option CapturedElement)) → AllByRecursion P (keys_of es) → AllByRecursion P (keys_of (records_of rec es))
  all_from P [] h = tt
  all_from P (e ∷ es) h =
      elim e.1 as (λ o. AllByRecursion P (keys_of (kept_record e.0 (rec e.0) o (records_of rec es)))) [
        | None ↦ all_from P es h.1
        | Some s ↦ (h.0, all_from P es h.1)
      ]

  pub records_rise : (es : List (Elem × Option CapturedElement)) → Rises es → IsStrictlySortedBy elem_cmp (keys_of (records_of rec es))
  unfolding IsStrictlySortedBy
  records_rise [] h = tt
  records_rise (e ∷ es) h =
      elim e.1 as (λ o. IsStrictlySortedBy elem_cmp (keys_of (kept_record e.0 (rec e.0) o (records_of rec es)))) [
        | None ↦ records_rise es h.1
        | Some s ↦ (all_from (λ y. elem_cmp e.0 y ≡ Less) es h.0, records_rise es h.1)
      ]

  pub records_kept : (es : List (Elem × Option CapturedElement)) → AllByRecursion (IsOf rec) es → AllByRecursion IsKept (values_of (records_of rec es))
  records_kept [] h = tt
  records_kept (e ∷ es) h =
      elim e.1 as (λ o. IfSome o (λ s. IsEntry s (rec e.0)) → AllByRecursion IsKept (values_of (kept_record e.0 (rec e.0) o (records_of rec es)))) [
        | None ↦ λ is. records_kept es h.1
        | Some s ↦ λ is. (is.kept, records_kept es h.1)
      ] h.0

  -- what is found among the records
  pub record_found : (x : Elem) (es : List (Elem × Option CapturedElement)) → Rises es → record_at (records_of rec es) x ≡ found_record (rec x) (captured_of es x)
  record_found x [] rises = refl
  record_found x (e ∷ es) rises =
      let more = records_of rec es in
      let rest = record_found x es (rest_rises e es rises) in
      elim (eq_by_cmp elem_cmp x e.0) as (λ b. eq_by_cmp elem_cmp x e.0 ≡ b → record_at (kept_record e.0 (rec e.0) e.1 more) x ≡ found_record (rec x) (cond b (Some e.1) (captured_of es x))) [
        | true ↦ λ same.
            let is : x ≡ e.0 = tells_apart elem_exact x e.0 same in
            let others = IsDistinct-head (eq_by_cmp elem_cmp) e.0 (keys_of es) (IsDistinct-from_sorted elem_cmp (keys_of (e ∷ es)) rises) in
            elim e.1 as (λ o. record_at (kept_record e.0 (rec e.0) o more) x ≡ found_record (rec x) (Some o)) [
              | None ↦ subst (λ y. record_at more y ≡ no_record) (sym is) (ap (λ (o : Option Record). unwrap_or o no_record) (absent (is_at (elem_cmp e.0)) more (all_from (λ y. eq_by_cmp elem_cmp e.0 y ≡ false) es others)))
              | Some s ↦ ap (λ b. unwrap_or (cond b (Some (rec e.0)) (lookup (is_at (elem_cmp x)) more)) no_record) same ∙ ap rec (sym is)
            ]
        | false ↦ λ apart.
            elim e.1 as (λ o. record_at (kept_record e.0 (rec e.0) o more) x ≡ found_record (rec x) (captured_of es x)) [
              | None ↦ rest
              | Some s ↦ ap (λ b. unwrap_or (cond b (Some (rec e.0)) (lookup (is_at (elem_cmp x)) more)) no_record) apart ∙ rest
            ]
      ] refl

  -- ---- their bytes

  packed_is : (state : Option State) → spell_option byte_list (option_map pupped state) ≡ spell_option spell_state state
  unfolding spell_state
  packed_is None = refl
  packed_is (Some s) = refl

  entry_spelled : (x : Elem) (s : CapturedElement) (r : Record) → IsEntry s r → spell_entry (x, r) ≡ spell_kept x s
  unfolding spell_entry spell_kept
  entry_spelled x s r is =
      ap (λ (l : List ℕ). spell_elem x ++ (number_bytes 8 r.sent ++ (number_bytes 8 r.received ++ l))) (sym (packed_is r.state))
      ∙ (λ i. spell_elem x ++ (number_bytes 8 (sym is.sent i) ++ (number_bytes 8 (sym is.received i) ++ spell_option byte_list (sym is.packed i))))

  pub records_spelled : (es : List (Elem × Option CapturedElement)) → AllByRecursion (IsOf rec) es → flat_map spell_entry (records_of rec es) ≡ flat_map spell_captured es
  records_spelled [] h = refl
  records_spelled (e ∷ es) h =
      let rest = records_spelled es h.1 in
      elim e.1 as (λ o. IfSome o (λ s. IsEntry s (rec e.0)) → flat_map spell_entry (kept_record e.0 (rec e.0) o (records_of rec es)) ≡ spell_kept_if e.0 o ++ flat_map spell_captured es) [
        | None ↦ λ is. rest
        | Some s ↦ λ is. (λ i. entry_spelled e.0 s (rec e.0) is i ++ rest i)
      ] h.0

  pub records_counted : (es : List (Elem × Option CapturedElement)) → length (records_of rec es) ≡ count_kept es
  records_counted [] = refl
  records_counted (e ∷ es) =
      let rest = records_counted es in
      elim e.1 as (λ o. length (kept_record e.0 (rec e.0) o (records_of rec es)) ≡ counted_if o (count_kept es)) [
        | None ↦ rest
        | Some s ↦ omega arith
      ]

-- ---- the image

module _ (core : Core) (run : Run) (is : IsRunning core run) (all : AreAllCaptured core run) (sound : IsSound core) where
  abbrev w : World
  w = world_before core run

  abbrev es : List Event
  es = events_since core run

  abbrev v : World
  v = present core

  abbrev at : ℕ
  at = run.begun - core.before

  -- the record that each element is captured by
  abbrev rec : Elem → Record
  rec x = record_of (world w (take (is.from.captured x).0 es)) x

  abbrev pub image_taken : Image
  image_taken = record {
    manifest = v.manifest;
    clients = v.clients;
    pending = v.pending;
    records = records_of rec run.captured;
    caught_up = deliveries w es;
  }

  is_of : (x : Elem) (o : Option (Option CapturedElement)) (k : ℕ) → IsSettled w es k x o → IfSome o (λ q. IfSome q (λ s. IsEntry s (record_of (world w (take k es)) x)))
  is_of x None k h = tt
  is_of x (Some None) k h = tt
  is_of x (Some (Some s)) k h = h.1

  pub all_of : AllByRecursion (IsOf rec) run.captured
  all_of =
      by_entries (λ x o. IfSome o (λ q. IfSome q (λ s. IsEntry s (rec x)))) run.captured (λ x. is_of x (captured_of run.captured x) (is.from.captured x).0 (is.from.captured x).1) run.captured (all_own run.captured is.from.rising)

  its_moment : (x : Elem) (o : Option (Option CapturedElement)) (k : ℕ) → IsSettled w es k x o → (is_some (record_of v x).state ≡ true → is_some o ≡ true) →
      (j : ℕ) × (found_record (record_of (world w (take k es)) x) o ≡ record_of (world w (take j es)) x)
  its_moment x None k h captured =
      ⊎_elim (λ there. absurd (let none : false ≡ true = captured (ap (λ (u : World). is_some (record_of u x).state) (sym (now_is core run is)) ∙ there) in let never : ⊥ = cc in never))
      (λ none. (0, sym none.0)) h
  its_moment x (Some None) k h captured = (0, sym h)
  its_moment x (Some (Some s)) k h captured = (k, refl)

  pub is_taken : IsTakenDuring w es image_taken
  is_taken = record {
    manifest = ap (λ (u : World). u.manifest) (sym (now_is core run is)) ∙ manifest-world w es;
    clients = ap (λ (u : World). u.clients) (sym (now_is core run is));
    pending = ap (λ (u : World). u.pending) (sym (now_is core run is));
    rising = records_rise rec run.captured is.from.rising;
    no_empty = All-from_recursion IsKept (values_of (records_of rec run.captured)) (records_kept rec run.captured all_of);
    records = λ x.
        let found = its_moment x (captured_of run.captured x) (is.from.captured x).0 (is.from.captured x).1 (all x) in
        (found.0, record_found rec x run.captured is.from.rising ∙ found.1);
    caught_up = refl;
  }

  pub image_spelled : spell_image Third image_taken ≡ spell_running core run
  unfolding spell_image
  image_spelled =
      λ i. spell_list (spell_array Third) v.manifest
      ++ (spell_list (spell_client Third) v.clients
      ++ (spell_list spell_message v.pending ++ ((number_bytes 4 (records_counted rec run.captured i) ++ records_spelled rec run.captured all_of i)
      ++ (number_bytes 4 (sym is.from.count i) ++ sym is.from.caught_up i))))

  -- ---- what it is written into

  parts : IsLegal w (core.before + at) es × IsFit w
  parts =
      let within = few core run is in
      let front = length-take-le at core.history within in
      let halves = legal_histories_part core.opening core.before (take at core.history) es (subst (IsLegal core.opening core.before) (sym (take-append-drop at core.history)) sound.legal) in (
        subst (λ (n : ℕ). IsLegal w (core.before + n) es) front halves.later_is,
        fit-world core.opening (take at core.history) sound.opening halves.earlier_is.events halves.earlier_is.each_can,
      )

  all_count : core.before + at + length es ≡ core.before + length core.history
  all_count = let within = few core run is in omega (arith, length-drop at core.history)

  abbrev saved : Saved
  saved = half_with image_taken (core.before + length core.history) (core.generation + 1)

  text_is : 1 ∷ sealing_bytes core run ≡ spell_half saved ++ 0 ∷ []
  unfolding spell_half spell_log
  text_is =
      let text = spell_running core run in
      let header = spell_header (header_of core run) in
      let flat : 1 ∷ (header ++ (text ++ 0 ∷ [])) ≡ (1 ∷ (header ++ (text ++ []))) ++ 0 ∷ [] = ap (λ (t : List ℕ). 1 ∷ t) (simp (append_assoc, append-nil)) in
      flat ∙ (λ i. (1 ∷ (spell_header (record { mark = Third; generation = core.generation + 1; events = core.before + length core.history; size = length (sym image_spelled i) }) ++ (sym image_spelled i ++ []))) ++ 0 ∷ [])

  pub is_sealing : IsWithinLimits core run → IsSealing core (sealing_bytes core run)
  is_sealing within =
      let size = ap (length {A = ℕ}) image_spelled in
      let less = within.size in
      let low = within.generation in
      let long = length-append (spell_header (header_of core run)) (spell_running core run ++ 0 ∷ []) in
      let longer = length-append (spell_running core run) (0 ∷ []) in
      let done = taken_images_are_saved w (core.before + at) (core.generation + 1) es image_taken parts.1 parts.0 is_taken (record { above = omega arith; below = omega arith }) (omega (arith, size, less, long, longer)) in
      record {
        saved = saved;
        text = text_is;
        no_batch = refl;
        good = subst (λ (n : ℕ). IsSaved (half_with image_taken n (core.generation + 1))) all_count done.0;
        means = subst (λ (n : ℕ). meaning image_taken n [] ≡ Whole v n) all_count (done.1 ∙ (λ i. Whole (now_is core run is i) (core.before + at + length es)));
        has_generation = refl;
      }

  -- ---- what a list that is too long for its count means

  -- the bytes that are written are more than those of the image
  longer : length (spell_running core run) < length (sealing_bytes core run)
  longer = omega (arith, length-append (spell_header (header_of core run)) (spell_running core run ++ 0 ∷ []), length-append (spell_running core run) (0 ∷ []))

  pub pending_pass_limit : 2 ^ 32 ≤ length v.pending → PassesLimit core run
  pending_pass_limit many =
      let few = few_in Third image_taken in
      let size = ap (length {A = ℕ}) image_spelled in
      inr (omega (arith, few.0, size, many, longer))

  pub entries_pass_limit : 2 ^ 32 ≤ count_kept run.captured → PassesLimit core run
  entries_pass_limit many =
      let few = few_in Third image_taken in
      let size = ap (length {A = ℕ}) image_spelled in
      inr (omega (arith, few.1, size, many, records_counted rec run.captured, longer))

  caught_long : (c : CatchUpEntry) → 1 ≤ length (spell_caught_up c)
  unfolding spell_caught_up
  caught_long c = omega (arith, message_long c.message, length-append (spell_message c.message) (number_bytes 8 c.received ++ number_bytes 1 (effect_number c.effect)))

  pub deliveries_pass_limit : 2 ^ 32 ≤ run.count → PassesLimit core run
  deliveries_pass_limit many =
      let count = no_more spell_caught_up caught_long (deliveries w es) in
      let bytes = ap (length {A = ℕ}) is.from.caught_up in
      let a = spell_list (spell_array Third) v.manifest in
      let c = spell_list (spell_client Third) v.clients in
      let p = spell_list spell_message v.pending in
      let e = spell_entries run.captured in
      let u = number_bytes 4 run.count ++ run.caught_up in
      inr (omega (arith, many, is.from.count, count, bytes, longer, length-append a (c ++ (p ++ (e ++ u))), length-append c (p ++ (e ++ u)), length-append p (e ++ u), length-append e u, length-append (number_bytes 4 run.count) run.caught_up))

  -- ---- the lists, one after the other

  pub lists_are : (b b1 b2 b3 b4 b5 : List ℕ) (kinds : Kinds) (clients : List (ℕ × ClientRow)) (pending : List Message) → kinds ≡ v.manifest → clients ≡ v.clients → pending ≡ v.pending →
      b1 ≡ b ++ spell_list (spell_array Third) kinds → b2 ≡ b1 ++ spell_list (spell_client Third) clients → b3 ≡ b2 ++ spell_list spell_message pending → b4 ≡ b3 ++ spell_entries run.captured →
      b5 ≡ b4 ++ (number_bytes 4 run.count ++ run.caught_up) → b5 ≡ b ++ spell_running core run
  lists_are b b1 b2 b3 b4 b5 kinds clients pending is_k is_c is_p e1 e2 e3 e4 e5 =
      let m = spell_list (spell_array Third) v.manifest in
      let c = spell_list (spell_client Third) v.clients in
      let p = spell_list spell_message v.pending in
      let r = spell_entries run.captured in
      let u = number_bytes 4 run.count ++ run.caught_up in
      let f1 : b1 ≡ b ++ m = e1 ∙ ap (λ (k : Kinds). b ++ spell_list (spell_array Third) k) is_k in
      let f2 : b2 ≡ (b ++ m) ++ c = e2 ∙ (λ i. f1 i ++ spell_list (spell_client Third) (is_c i)) in
      let f3 : b3 ≡ ((b ++ m) ++ c) ++ p = e3 ∙ (λ i. f2 i ++ spell_list spell_message (is_p i)) in
      let f4 : b4 ≡ (((b ++ m) ++ c) ++ p) ++ r = e4 ∙ ap (λ (t : List ℕ). t ++ r) f3 in
      e5 ∙ ap (λ (t : List ℕ). t ++ u) f4 ∙ grouped b m c p r u
    where
      grouped : (b m c p r u : List ℕ) → ((((b ++ m) ++ c) ++ p) ++ r) ++ u ≡ b ++ (m ++ (c ++ (p ++ (r ++ u))))
      grouped b m c p r u = simp append_assoc

  -- each entry is short
  short_if : (x : Elem) (o : Option (Option CapturedElement)) (k : ℕ) → IsSettled w es k x o → IfSome o (λ q. IfSome q IsShort)
  short_if x None k h = tt
  short_if x (Some None) k h = tt
  short_if x (Some (Some s)) k h = h.1.short

  pub all_short : All (λ (e : Elem × Option CapturedElement). IfSome e.1 IsShort) run.captured
  all_short =
      All-from_recursion (λ (e : Elem × Option CapturedElement). IfSome e.1 IsShort) run.captured
      (by_entries (λ x o. IfSome o (λ q. IfSome q IsShort)) run.captured (λ x. short_if x (captured_of run.captured x) (is.from.captured x).0 (is.from.captured x).1) run.captured (all_own run.captured is.from.rising))

  -- ---- the header's room filled, and the gate after the lists

  module _ (zeros lists pushed : List ℕ) (room : length zeros ≡ 24) (lists_after : lists ≡ zeros ++ spell_running core run) (gate_after : pushed ≡ lists ++ 0 ∷ []) where
    pub lists_long : length lists ≡ 24 + length (spell_running core run)
    lists_long = let same : length lists ≡ length (zeros ++ spell_running core run) = ap (length {A = ℕ}) lists_after in omega (arith, same, room, length-append zeros (spell_running core run))

    pub whole_long : length pushed ≡ length (sealing_bytes core run)
    whole_long =
        let same : length pushed ≡ length (lists ++ 0 ∷ []) = ap (length {A = ℕ}) gate_after in
        omega (arith, same, lists_long, length-append lists (0 ∷ []), length-append (spell_header (header_of core run)) (spell_running core run ++ 0 ∷ []), length-append (spell_running core run) (0 ∷ []), length-spell_header (header_of core run))

  pub bytes_are : (zeros pushed bytes : List ℕ) (generation events size : ℕ) → length zeros ≡ 24 → pushed ≡ (zeros ++ spell_running core run) ++ 0 ∷ [] →
      bytes ≡ spell_header (record { mark = Third; generation = generation; events = events; size = size }) ++ drop 24 pushed →
      generation ≡ core.generation + 1 → events ≡ core.before + length core.history → size ≡ length (spell_running core run) → bytes ≡ sealing_bytes core run
  bytes_are zeros pushed bytes generation events size room gate is_bytes is_g is_e is_s =
      let text = spell_running core run in
      let others : drop 24 pushed ≡ text ++ 0 ∷ [] = ap (drop 24) (gate ∙ append_assoc zeros text (0 ∷ [])) ∙ drop_at zeros (text ++ 0 ∷ []) 24 room in
      is_bytes ∙ (λ i. spell_header (record { mark = Third; generation = is_g i; events = is_e i; size = is_s i }) ++ others i)
