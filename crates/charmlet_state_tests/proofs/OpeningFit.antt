-- The small world is fit.
use Rattle.std.proofs.Common.{◌≡◌, ℕ, ◌<◌, ◌^◌, true, false, cond, List, [], ◌∷◌, length, refl, sym, subst, arith, inl, inr}
use Rattle.std.specs.Prelude.{Option, Some, unwrap_or}
use Rattle.std.specs.Ordering.{eq_by_cmp, nat_cmp}
use Rattle.std.specs.List.{AllByRecursion}
use Rattle.std.specs.List.Sorted.{IsStrictlySortedBy}
use Rattle.std.specs.BTreeMap.{is_at}
use Rattle.std.specs.Map.{lookup, keys_of, values_of}
use Rattle.std.proofs.lemmas.List.Elements.{All-from_recursion}
use Rattle.std.proofs.lemmas.Map.Views.{tells_apart}
use Rattle.charmlet_model.specs.declared.names.Elem.{Elem}
use Rattle.charmlet_model.specs.declared.kind_version.KindVersion.{KindVersion}
use Rattle.charmlet_model.specs.declared.state.Record.{Record}
use Rattle.charmlet_model.specs.declared.client.ClientRow.{ClientRow}
use Rattle.charmlet_model.specs.Names.{elem_cmp}
use Rattle.charmlet_model.specs.World.{no_record, record_at, row_of}
use Rattle.charmlet_model.specs.Row.{no_client}
use Rattle.charmlet_model.specs.Fit.{IsElem, IsRecord, IsKept, IsRow, IsFit}
use Rattle.charmlet_model.proofs.Maps.{elem_exact}
use Rattle.charmlet_state_tests.specs.Opening.{array_versions, records, clients, opening_world}

abbrev kind_version_in : List (ℕ × KindVersion) → ℕ → Option KindVersion
kind_version_in arrays array = lookup (is_at (nat_cmp array)) arrays

-- what is true of each record that is kept is true of each element's
any_record : (arrays : List (ℕ × KindVersion)) (es : List (Elem × Record)) → AllByRecursion (λ (e : Elem × Record). IsRecord (kind_version_in arrays e.0.array) e.1) es →
    (x : Elem) → IsRecord (kind_version_in arrays x.array) (record_at es x)
any_record arrays [] h x = record { state = tt; sent = omega arith; received = omega arith }
any_record arrays (e ∷ es) h x =
    elim (eq_by_cmp elem_cmp x e.0) as (λ b. eq_by_cmp elem_cmp x e.0 ≡ b → IsRecord (kind_version_in arrays x.array) (unwrap_or (cond b (Some e.1) (lookup (is_at (elem_cmp x)) es)) no_record)) [
      | true ↦ λ same. subst (λ (y : Elem). IsRecord (kind_version_in arrays y.array) e.1) (sym (tells_apart elem_exact x e.0 same)) h.0
      | false ↦ λ _. any_record arrays es h.1 x
    ] refl

-- and so it is with rows and clients
any_row : (es : List (ℕ × ClientRow)) → AllByRecursion (λ (e : ℕ × ClientRow). IsRow e.1) es → (c : ℕ) → IsRow (row_of es c)
any_row [] h c = record { last = omega arith; few = omega arith; numbered = omega arith; replies = tt }
any_row (e ∷ es) h c =
    elim (eq_by_cmp nat_cmp c e.0) as (λ b. IsRow (unwrap_or (cond b (Some e.1) (lookup (is_at (nat_cmp c)) es)) no_client)) [
      | true ↦ h.0
      | false ↦ any_row es h.1 c
    ]

arrays_rise : IsStrictlySortedBy nat_cmp (keys_of array_versions)
unfolding IsStrictlySortedBy
arrays_rise = ((refl, tt), (tt, tt))

records_rise : IsStrictlySortedBy elem_cmp (keys_of records)
unfolding IsStrictlySortedBy
records_rise = ((refl, (refl, tt)), ((refl, tt), (tt, tt)))

clients_rise : IsStrictlySortedBy nat_cmp (keys_of clients)
unfolding IsStrictlySortedBy
clients_rise = ((refl, tt), (tt, tt))

known : (index : ℕ) → index < 2 ^ 64 → IsElem array_versions (record { array = 0; index = index })
known index small = record { array = refl; index = small }

pub opening_fit : IsFit opening_world
opening_fit = record {
  rising_arrays = arrays_rise;
  rising_records = records_rise;
  rising_clients = clients_rise;
  small_arrays = All-from_recursion (λ (array : ℕ). array < 2 ^ 16) (keys_of array_versions) (omega arith, (omega arith, tt));
  small_clients = All-from_recursion (λ (client : ℕ). client < 2 ^ 32) (keys_of clients) (omega arith, (omega arith, tt));
  known_records = All-from_recursion (IsElem array_versions) (keys_of records) (known 0 (omega arith), (known 1 (omega arith), (known 5 (omega arith), tt)));
  some_arrays = omega arith;
  few_arrays = omega arith;
  few_clients = omega arith;
  no_empty_record = All-from_recursion IsKept (values_of records) (inl refl, (inr (omega arith), (inl refl, tt)));
  no_empty_row = All-from_recursion (λ (row : ClientRow). 0 < length row.window) (values_of clients) (omega arith, (omega arith, tt));
  distinct = ((refl, (refl, tt)), ((refl, tt), (tt, tt)));
  messages = (
    record { origin = omega arith; sent = refl; to = known 0 (omega arith); entry = omega arith; words = (omega arith, (omega arith, tt)) },
    (
      record { origin = known 5 (omega arith); sent = (omega arith, omega arith); to = known 1 (omega arith); entry = omega arith; words = (omega arith, tt) },
      (record { origin = omega arith; sent = refl; to = known 5 (omega arith); entry = omega arith; words = (omega arith, tt) }, tt),
    ),
  );
  records = any_record array_versions records (
    record { state = (refl, (omega arith, omega arith)); sent = omega arith; received = omega arith },
    (
      record { state = tt; sent = omega arith; received = omega arith },
      (record { state = (refl, (omega arith, omega arith)); sent = omega arith; received = omega arith }, tt),
    ),
  );
  clients = any_row clients (
    record { last = omega arith; few = omega arith; numbered = omega arith; replies = ((omega arith, (omega arith, tt)), (tt, tt)) },
    (record { last = omega arith; few = omega arith; numbered = omega arith; replies = (tt, ((omega arith, (omega arith, tt)), ((omega arith, tt), ((omega arith, tt), ((omega arith, tt), ((omega arith, tt), ((omega arith, tt), ((omega arith, (omega arith, tt)), tt)))))))) }, tt),
  );
}
