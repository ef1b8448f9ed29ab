-- An authority of values, and fragments that each know one of them.
use Rattle.std.specs.Prelude.{◌≡◌, ℕ, ◌++◌, List, [], ◌∷◌, length, true, false, Option, Some, None, slice_get, slice_set}
use mathlib.Core.Option.{some, none}
use lib.ListN.{get_elem?}
use Rattle.atomic_table.specs.Table.{Step, Me}
use Rattle.atomic_table.specs.Seated.{TableId}
use Rattle.charmlet_locks.specs.declared.ghost_auth.rule.View.{View}

-- the name of no table
abbrev pub no_table : TableId
no_table = record {
  words = 0;
  slots = 0;
  views_name = 0;
  atom = 0;
  block = 0;
  offset = 0;
  slot_names = [];
}

module _ {D : Type 0} where
  -- the seat of the authority
  abbrev pub keeper : List (Option D) → View D
  keeper values = record { keeps = true; values = values; holds = false; number = 0; value = None }

  -- the seat of a fragment
  abbrev pub holder : ℕ → Option D → View D
  holder number value = record {
    keeps = false;
    values = [];
    holds = true;
    number = number;
    value = value;
  }

  -- the authority with a fragment taken in
  abbrev pub with_fragment : List (Option D) → ℕ → Option D → View D
  with_fragment values number value = record {
    keeps = true;
    values = values;
    holds = true;
    number = number;
    value = value;
  }

  abbrev pub met : View D → View D → View D
  met v w = with_fragment v.values w.number w.value

  -- a seat that knows nothing
  abbrev pub nobody : View D
  nobody = record { keeps = false; values = []; holds = false; number = 0; value = None }

  -- the authority's seat knows the values, and a fragment's seat the value at its number, which it
  -- alone has
  abbrev pub Fits : ℕ → List (Option D) → (ℕ → ℕ) → ℕ → View D → Type 0
  Fits seat values owner by v =
      (v.keeps ≡ true → (by ≡ seat) × (v.values ≡ values))
      × (v.holds ≡ true → (owner v.number ≡ by) × (slice_get values v.number ≡ Some v.value))

  -- all seats fit one list of values
  abbrev pub Agrees : List (View D) → Type 0
  Agrees views =
      (seat : ℕ) × (values : List (Option D)) × (owner : ℕ → ℕ)
      × ((by : ℕ) (v : View D) → get_elem? views by ≡ some v → Fits seat values owner by v)

  -- the authority with a fragment of the value that is said, behind the others
  abbrev pub added : mathlib.Core.Option.Option D → View D → View D
  added none v = with_fragment v.values v.number v.value
  added (some x) v = with_fragment (v.values ++ Some x ∷ []) (length v.values) (Some x)

  -- the value that is said is the authority's and the fragment's
  abbrev pub updated : mathlib.Core.Option.Option D → View D → View D
  updated none v = with_fragment v.values v.number v.value
  updated (some x) v = with_fragment (slice_set v.values v.number (Some x)) v.number (Some x)

  abbrev pub Adds : Step D → Me D (View D) → ℕ → Me D (View D) → Type 0
  Adds s v found w = w ≡ (added s.said v.0, v.1)

  abbrev pub Updates : Step D → Me D (View D) → ℕ → Me D (View D) → Type 0
  Updates s v found w = (w ≡ (updated s.said v.0, v.1))
      × (slice_get v.0.values v.0.number ≡ Some v.0.value)

  -- the same, with a value that no code holds
  abbrev pub UpdatesTo : D → Step D → Me D (View D) → ℕ → Me D (View D) → Type 0
  UpdatesTo x s v found w = (w ≡ (updated (some x) v.0, v.1))
      × (slice_get v.0.values v.0.number ≡ Some v.0.value)

  abbrev pub Ends : Step D → Me D (View D) → ℕ → Me D (View D) → Type 0
  Ends s v found w = (w ≡ (keeper (slice_set v.0.values v.0.number None), v.1))
      × (slice_get v.0.values v.0.number ≡ Some v.0.value)

  -- a fragment's number and its value, by what its seat knows
  abbrev pub number_in : List (View D) → ℕ
  number_in [] = 0
  number_in (v ∷ vs) = v.number

  abbrev pub value_in : List (View D) → Option D
  value_in [] = None
  value_in (v ∷ vs) = v.value

  -- there is one seat, and it is a fragment's
  abbrev pub IsFragment : List (View D) → Type 0
  IsFragment views = (v : View D) × (views ≡ v ∷ []) × (v.holds ≡ true)
