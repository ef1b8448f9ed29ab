-- The parts of an open half.
use Rattle.std.proofs.Common.{◌≡◌, ℕ, ◌+◌, ◌≤◌, ◌^◌, List, [], ◌∷◌, ◌++◌, length, drop, map, slice_index, Result, Ok, Err, IsOk, refl, sym, ap, subst, ◌∙◌, arith}
use Rattle.std.proofs.lemmas.List.{length-append, length-drop, map-append}
use Rattle.std.specs.List.{flat_map}
use Rattle.std.specs.List.Sorted.{IsStrictlySortedBy}
use Rattle.std.specs.Map.{keys_of}
use Rattle.std.specs.Ordering.{nat_cmp}
use Rattle.std.specs.Prelude.{Some}
use Rattle.charmlet_model.specs.declared.half.Half.{Half}
use Rattle.charmlet_model.specs.declared.logged.Logged.{Logged}
use Rattle.charmlet_record.specs.declared.positioned.Positioned.{Positioned}
use Rattle.charmlet_record.specs.Lawful.{IsBytes}
use Rattle.charmlet_record.specs.Places.{log_places, placed_log, with_places}
use Rattle.charmlet_record.specs.Reading.{Kinds, read_log, read_events}
use Rattle.charmlet_record.proofs.Formats.{ok_parts}
use Rattle.charmlet_record.proofs.PlaceLemmas.{log_places_are_known}
use Rattle.charmlet_pup.specs.Fields.{number_bytes}
use Rattle.charmlet_model.specs.declared.names.Elem.{Elem}
use Rattle.charmlet_model.specs.declared.state.Record.{Record}
use Rattle.charmlet_model.specs.declared.client.ClientRow.{ClientRow}
use Rattle.charmlet_model.specs.Names.{elem_cmp}
use Rattle.charmlet_model.specs.Spelling.{spell_event, spell_log}
use Rattle.charmlet_record.proofs.Formats.{IsBytes-drop}
use Rattle.charmlet_image.specs.declared.header.Header.{Header}
use Rattle.charmlet_image.specs.declared.half.OpenHalf.{OpenHalf}
use Rattle.charmlet_image.specs.Halves.{Open, found, IsSaved}
use Rattle.charmlet_image.specs.Images.{Image, Saved, spell_header, spell_image, spell_half}
use Rattle.charmlet_image.specs.Positioned.{items_of}
use Rattle.charmlet_image.specs.Views.{IsView, entry_said}
use Rattle.charmlet_image.proofs.HalfLemmas.{read_halves_were_spelled}
use Rattle.charmlet_image.proofs.HalfViews.{length-spell_header}
use Rattle.charmlet_image.proofs.LogViews.{items_with_places, log_ends}
use Rattle.charmlet_recovery.specs.Bases.{recovered_world}
use Rattle.charmlet_recovery.specs.Faults.{first_fault}
use Rattle.charmlet_recovery.specs.Meanings as meanings
use Rattle.charmlet_recovery.specs.Meanings.{meaning}
use Rattle.charmlet_recovery.specs.Recovered as definitions
use Rattle.charmlet_recovery.specs.Recovered.{log_of, offset_of, recovered_by}
use Rattle.charmlet_recovery.proofs.FirstFaults.{places, faulty-parts}
use Rattle.charmlet_reference.specs.declared.recovery.parts.Parts.{Parts}
use Rattle.charmlet_reference.specs.declared.recovery.replayed.Place.{Place}
use Rattle.charmlet_reference.specs.declared.recovery.replayed.Place.TheVariants.{InCatchUp, InPending, InEvents}
use Rattle.charmlet_reference.specs.Recovery.Views.{image_of, place_seen}
use Rattle.charmlet_reference.specs.Recovery.Parts.{AreParts, HasParts, offset_at, places_in}
use Rattle.charmlet_reference.specs.Recovery.Written.{meaning_as_written}
use Rattle.charmlet_reference.proofs.RecoveryLemmas.OffsetLemmas.{offsets_in, pending_at, caught_up_at, event_at}

-- the events of a log that is read
pub events_read : (kinds : Kinds) (bytes : List ℕ) (events : List (Positioned Logged)) (after : List ℕ) → IsBytes bytes → read_events kinds bytes ≡ Ok (events, after) → events ≡ places_in (read_log kinds bytes)
events_read kinds bytes events after fits e = by (read_log kinds bytes) (sym (log_places_are_known kinds bytes fits) ∙ e)
  where
    by : (r : Result (List (List Logged) × List ℕ) ℕ) → placed_log r ≡ Ok (events, after) → events ≡ places_in r
    by (Ok x) h = sym (ok_parts (log_places (length x.1 + 1) x.0) x.1 (events, after) h).0
    by (Err left) h = absurd cc

-- a good log has no fault
pub no_fault : (kinds : Kinds) (bytes : List ℕ) (left : ℕ) → IsBytes bytes → IsOk (read_log kinds bytes) → read_events kinds bytes ≡ Err left → ⊥
no_fault kinds bytes left fits good e = by (read_log kinds bytes) good (sym (log_places_are_known kinds bytes fits) ∙ e)
  where
    by : (r : Result (List (List Logged) × List ℕ) ℕ) → IsOk r → placed_log r ≡ Err left → ⊥
    by (Ok x) good h = cc
    by (Err other) good h = cc

-- the record at fault stands at the offset that its place has
pub fault_offset : (half : Half) (s : Saved) (p : Parts) (place : Place) (offset : ℕ) → AreParts s p → meanings.Faulty (place_seen place) ≡ meaning (image_of p.image p.caught_up.items) p.before p.log.items →
    offset ≡ offset_at p.offsets place → definitions.Damaged half offset ≡ recovered_by half s (meaning_as_written s)
fault_offset half s p place offset parts is at =
    let means : meaning_as_written s ≡ meanings.Faulty (place_seen place) = sym (is ∙ (λ i. meaning (parts.image i) (parts.before i) (parts.log i))) in
    let found : first_fault s.image s.header.events (log_of s) ≡ Some (place_seen place) = faulty-parts (first_fault s.image s.header.events (log_of s)) (recovered_world s.image (log_of s)) (s.header.events + length (log_of s)) (place_seen place) means in
    ap (λ n. definitions.Damaged half n) (at ∙ by place found) ∙ ap (recovered_by half s) (sym means)
  where
    by : (place : Place) → first_fault s.image s.header.events (log_of s) ≡ Some (place_seen place) → offset_at p.offsets place ≡ offset_of s (place_seen place)
    by (InCatchUp i) found = parts.caught_up i (((places s.image s.header.events (log_of s) i).0 found).0)
    by (InPending i) found = parts.pending i (((places s.image s.header.events (log_of s) i).1 found).0)
    by (InEvents i) found = parts.events i (((places s.image s.header.events (log_of s) i).2 found).0)

-- ---- the parts of a half that is read

-- what an open half's bytes are
record IsRead (bytes : List ℕ) (s : Saved) : Type 0 where
  pub saved : IsSaved s
  pub room : 25 + length (spell_image s.header.mark s.image) ≤ length bytes

is_read : (bytes : List ℕ) (s : Saved) → IsBytes bytes → found bytes ≡ Open s → IsRead bytes s
unfolding spell_half
is_read bytes s fits opened =
    let is = read_halves_were_spelled bytes s fits opened in
    let header = spell_header s.header in
    let image = spell_image s.header.mark s.image in
    let log = spell_log s.batches in
    record {
      saved = is.5;
      room = omega (arith, ap (length {A = ℕ}) is.4, length-append (1 ∷ (header ++ (image ++ log))) (number_bytes 1 is.0 ++ is.3), length-append header (image ++ log), length-spell_header s.header, length-append image log);
    }

-- the records of a half rise, and so do its clients
pub records_rise : (bytes : List ℕ) (s : Saved) (o : OpenHalf) → IsBytes bytes → found bytes ≡ Open s → IsView bytes s o →
    IsStrictlySortedBy elem_cmp (keys_of (map (entry_said o.image.manifest) o.image.entries.items))
records_rise bytes s o fits opened view =
    subst (λ (rs : List (Elem × Record)). IsStrictlySortedBy elem_cmp (keys_of rs)) (sym (ap (λ (i : Image). i.records) view.image)) (is_read bytes s fits opened).saved.image.records.rising

pub clients_rise : (bytes : List ℕ) (s : Saved) (o : OpenHalf) → IsBytes bytes → found bytes ≡ Open s → IsView bytes s o → IsStrictlySortedBy nat_cmp (keys_of o.image.clients.items)
clients_rise bytes s o fits opened view =
    subst (λ (rows : List (ℕ × ClientRow)). IsStrictlySortedBy nat_cmp (keys_of rows)) (sym (ap (λ (i : Image). i.clients) view.image)) (is_read bytes s fits opened).saved.image.clients.rising

items_of_log : (following : ℕ) (batches : List (List Logged)) → items_of (log_places following batches) ≡ flat_map (λ (b : List Logged). b) batches
items_of_log following [] = refl
items_of_log following (batch ∷ batches) =
    let after = length (spell_log batches) + following in
    map-append (λ (p : Positioned Logged). p.item) (with_places spell_event after batch) (log_places following batches)
    ∙ (λ i. items_with_places spell_event after batch i ++ items_of_log following batches i)

nothing : length (spell_log []) ≡ 0
unfolding spell_log
nothing = refl

-- How the parts are made of what is read.
pub record IsMadeFrom (size : ℕ) (o : OpenHalf) (p : Parts) : Type 0 where
  pub generation : p.generation ≡ o.header.generation
  pub before : p.before ≡ o.header.events
  pub image : p.image ≡ record { manifest = o.image.manifest; records = map (entry_said o.image.manifest) o.image.entries.items; pending = items_of o.image.pending.items; clients = o.image.clients.items }
  pub deliveries : p.caught_up.items ≡ items_of o.image.caught_up.items
  pub log : p.log.items ≡ items_of (places_in (read_log o.image.manifest o.log.rest.now))
  pub caught_up : p.offsets.caught_up.items ≡ offsets_in size o.image.caught_up.items
  pub pending : p.offsets.pending.items ≡ offsets_in size o.image.pending.items
  pub events : p.offsets.events.items ≡ offsets_in size (places_in (read_log o.image.manifest o.log.rest.now))

pub parts_are : (bytes : List ℕ) (s : Saved) (o : OpenHalf) (p : Parts) → IsBytes bytes → found bytes ≡ Open s → IsView bytes s o → IsMadeFrom (length bytes) o p → HasParts bytes p
parts_are bytes s o p fits opened view made =
    let read = is_read bytes s fits opened in
    let size = length bytes in
    let begins = 25 + s.header.size in
    let after = view.log.read.0 in
    let ends = log_ends s.image.manifest (drop begins bytes) s.batches after (IsBytes-drop begins bytes fits) view.log.read.1 in
    let logged : read_log o.image.manifest o.log.rest.now ≡ Ok (s.batches, after) = (λ i. read_log (view.image i).manifest (view.log.rest_is i)) ∙ view.log.read.1 in
    let placed : places_in (read_log o.image.manifest o.log.rest.now) ≡ log_places (length after + 1) s.batches = ap places_in logged in
    let header = read.saved.header in
    let all : (((25 + length (spell_image s.header.mark s.image)) + length (spell_log [])) + length (spell_log s.batches)) + (length after + 1) ≡ size =
    omega (arith, nothing, ends.size, read.saved.size, length-drop begins bytes) in (
      s,
      opened,
      record {
        generation = made.generation ∙ ap (λ (h : Header). h.generation) view.header;
        before = made.before ∙ ap (λ (h : Header). h.events) view.header;
        image = (λ i. image_of (made.image i) (made.deliveries i)) ∙ view.image;
        log = made.log ∙ ap items_of placed ∙ items_of_log (length after + 1) s.batches;
        caught_up = λ i lt. ap (λ (ns : List ℕ). slice_index ns i) (made.caught_up ∙ ap (offsets_in size) view.caught_up) ∙ caught_up_at s size i lt read.room;
        pending = λ i lt. ap (λ (ns : List ℕ). slice_index ns i) (made.pending ∙ ap (offsets_in size) view.pending) ∙ pending_at s size i lt read.room;
        events = λ i lt. ap (λ (ns : List ℕ). slice_index ns i) (made.events ∙ ap (offsets_in size) placed) ∙ event_at s size (length after + 1) [] s.batches i lt all;
      },
      subst (λ n. n ≤ 2 ^ 40) (sym (made.before ∙ ap (λ (h : Header). h.events) view.header)) header.events.below,
    )
