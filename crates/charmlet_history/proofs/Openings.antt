-- What a history keeps of the world with which it opens.
use Rattle.std.proofs.Common.{arith, drop, length, ◌+◌, ◌≡◌, ℕ, ◌≤◌, ◌^◌, true, false, cond, List, [], ◌∷◌, refl, sym, ap, subst, ◌∙◌, if◌then◌else◌}
use Rattle.std.specs.Prelude.{Some, None, is_some, map, unwrap_or}
use Rattle.std.specs.Ordering.{nat_cmp}
use Rattle.std.specs.Cmp.{nat_cmp_total}
use Rattle.std.specs.List.Sorted.{IsStrictlySortedBy}
use Rattle.std.specs.BTreeMap.{is_at}
use Rattle.std.specs.Map.{lookup}
use Rattle.charmlet_model.specs.declared.names.Elem.{Elem}
use Rattle.charmlet_model.specs.declared.state.Record.{Record}
use Rattle.charmlet_model.specs.declared.client.ClientRow.{ClientRow}
use Rattle.charmlet_model.specs.Names.{elem_cmp}
use Rattle.charmlet_model.specs.Row.{no_client}
use Rattle.charmlet_model.specs.World.{World, no_record, record_at, row_of}
use Rattle.charmlet_model.specs.Fit.{IsFit}
use Rattle.charmlet_model.specs.Core.{assigned_to, home, present}
use Rattle.charmlet_model.proofs.Fits.{IfSome-map}
use Rattle.charmlet_model.specs.Sound.{IsAssigned, IsSound, homes, opened}
use Rattle.charmlet_model.proofs.Maps.{elem_total}
use Rattle.charmlet_world.proofs.Made.{all_made, keys_of-made}
use Rattle.charmlet_model.proofs.OpenedLemmas.{opened_sound}
use Rattle.charmlet_model.proofs.SoundLemmas.{sound_fit}
use Rattle.charmlet_world.specs.declared.element.Element.{Element}
use Rattle.charmlet_world.specs.Client.Client.{Rows, same_rows}
use Rattle.charmlet_record.specs.WalBuffer.{Batched, IsWalBuffer}
use Rattle.charmlet_history.specs.Kept.{Kept, IsConsistent, core_in}
use Rattle.charmlet_world.specs.Seen.{IsCountedBy, client_at, element_at, new_client, no_element, present_rows}
use Rattle.charmlet_world.specs.Standing.{places_of, with_place}
use Rattle.charmlet_history.specs.Flushed.{all_durable}
use Rattle.charmlet_history.specs.Opened.{opened_client, opened_clients, opened_element, opened_elements, with_clients, with_elements}
use Rattle.charmlet_history.proofs.Flushes.{present-all, rows_durable}

-- ---- elements and clients

module _ (processors : ℕ) where
  abbrev elements : List (Elem × Record) → List (Elem × Element)
  elements = map (λ e. (e.0, opened_element processors e.0 e.1))

  counts_are : (x : Elem) (rs : List (Elem × Record)) → IsCountedBy (record_at rs x) (element_at (elements rs) x)
  counts_are x [] = record { sent = refl; received = refl }
  counts_are x (e ∷ es) = elim (is_at (elem_cmp x) e.0) as
      (λ b. IsCountedBy (unwrap_or (cond b (Some e.1) (lookup (is_at (elem_cmp x)) es)) no_record)
      (unwrap_or (cond b (Some (opened_element processors e.0 e.1)) (lookup (is_at (elem_cmp x)) (elements es))) no_element)) [
        | true ↦ record { sent = refl; received = refl }
        | false ↦ counts_are x es
      ]

  places_are_homes : (rs : List (Elem × Record)) → places_of (elements rs) ≡ homes processors rs
  places_are_homes [] = refl
  places_are_homes (e ∷ es) = elim (is_some e.1.state) as
      (λ b. with_place e.0 (if b then Some (home e.0 processors) else None) (places_of (elements es)) ≡ (if b then (e.0, home e.0 processors) ∷ homes processors es else homes processors es)) [
        | true ↦ ap (λ ps. (e.0, home e.0 processors) ∷ ps) (places_are_homes es)
        | false ↦ places_are_homes es
      ]

abbrev clients : List (ℕ × ClientRow) → List (ℕ × Rows)
clients = map (λ e. (e.0, opened_client e.0 e.1))

present_are : (rows : List (ℕ × ClientRow)) → present_rows (clients rows) ≡ rows
present_are [] = refl
present_are (e ∷ es) = ap (λ fs. e ∷ fs) (present_are es)

durable_are : (c : ℕ) (rows : List (ℕ × ClientRow)) → (client_at (clients rows) c).durable ≡ row_of rows c
durable_are c [] = refl
durable_are c (e ∷ es) = elim (is_at (nat_cmp c) e.0) as
    (λ b. (unwrap_or (cond b (Some (same_rows e.1)) (lookup (is_at (nat_cmp c)) (clients es))) new_client).durable ≡ unwrap_or (cond b (Some e.1) (lookup (is_at (nat_cmp c)) es)) no_client) [
      | true ↦ refl
      | false ↦ durable_are c es
    ]

-- ---- what is kept of an opening world

-- the entries that were inserted are those of the world
pub elements_given : (processors : ℕ) (w : World) → IsFit w → with_elements processors [] w.records ≡ opened_elements processors w.records
elements_given processors w fit = all_made elem_cmp elem_total (opened_element processors) w.records fit.rising_records

pub clients_given : (w : World) → IsFit w → with_clients [] w.clients ≡ opened_clients w.clients
clients_given w fit = all_made nat_cmp nat_cmp_total opened_client w.clients fit.rising_clients

module _ (processors : ℕ) (w : World) (before generation log_end : ℕ) (wal_buffer : Batched) where
  abbrev pub opened_kept : Kept
  opened_kept = record {
    opening = w;
    before = before;
    generation = generation;
    log_end = log_end;
    halted = false;
    processors = processors;
    elements = opened_elements processors w.records;
    pending = w.pending;
    clients = opened_clients w.clients;
    events = [];
    durable = 0;
    wal_buffer = wal_buffer;
    assigned = [];
    promised = 0;
  }

  -- it is the core of a store that opens so
  pub opened_core : core_in opened_kept ≡ opened processors w before generation log_end
  opened_core = λ i. record (opened processors w before generation log_end) { places = places_are_homes processors w.records i }

  pub opened_consistent : IsFit w → 1 ≤ processors → processors ≤ 64 → before ≤ 2 ^ 40 → 1 ≤ generation → generation ≤ 2 ^ 40 → IsWalBuffer wal_buffer [] → IsConsistent opened_kept
  opened_consistent fit some few small_before some_generation few_generations empty = record {
    sound = subst IsSound (sym opened_core) (opened_sound processors w before generation log_end some few fit small_before some_generation few_generations);
    rising = subst (IsStrictlySortedBy elem_cmp) (sym (keys_of-made elem_cmp elem_total (opened_element processors) w.records)) fit.rising_records;
    counts = λ x. counts_are processors x w.records;
    pending = refl;
    clients = present_are w.clients;
    durable_rows = λ c. durable_are c w.clients;
    wal_buffer = empty;
    promised = refl;
  }

-- ---- a present world that becomes the opening one

-- what is kept once all events count as before the opening world
abbrev pub renewed_kept : Kept → Batched → Kept
renewed_kept k wal_buffer = record (all_durable k k.log_end wal_buffer) { opening = present (core_in k); before = k.before + length k.events; events = []; durable = 0 }

pub renewed_consistent : (k : Kept) (wal_buffer : Batched) → IsConsistent k → IsWalBuffer wal_buffer [] → IsConsistent (renewed_kept k wal_buffer)
renewed_consistent k wal_buffer consistent empty =
    let core = core_in k in
    let w = present core in
    let sound = consistent.sound in
    let new = drop k.durable k.events in
    record {
      sound = record {
        some_processors = sound.some_processors;
        few_processors = sound.few_processors;
        opening = sound_fit core sound;
        legal = record { events = tt; each_can = refl; in_limit = let r = sound.room in omega arith };
        room = let r = sound.room in omega arith;
        durable = omega arith;
        some_generation = sound.some_generation;
        few_generations = sound.few_generations;
        rising_places = sound.rising_places;
        rising_assigned = sound.rising_assigned;
        placed = λ x. let p = sound.placed x in record { there = p.there; on_processor = p.on_processor };
        assigned = λ processor. IfSome-map (IsAssigned core processor) (IsAssigned (core_in (renewed_kept k wal_buffer)) processor) (assigned_to core processor)
            (λ id a. record { on_processor = a.on_processor; can_be = a.can_be; receiver = a.receiver }) (sound.assigned processor);
      };
      rising = consistent.rising;
      counts = consistent.counts;
      pending = consistent.pending;
      clients = present-all k.clients new ∙ consistent.clients;
      durable_rows = rows_durable k consistent;
      wal_buffer = empty;
      promised = consistent.promised;
    }
