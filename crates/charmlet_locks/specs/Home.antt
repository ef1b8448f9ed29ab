-- The rule of the table under the locks, and what each step tells.
-- Word 0 says whether all places are still vacant. Each lock has a word of its own, on cache lines
-- of its own: 0 where the value is at home, 1 where it is out, and 2 where it is out and somebody
-- may wait for it.
use Rattle.std.specs.Prelude.{◌≡◌, ◌≢◌, ℕ, zero, suc, ◌+◌, ◌*◌, ◌<◌, List, [], ◌∷◌, length, replicate, Option, Some, None, slice_index}
use mathlib.Core.Option.{some}
use mathlib.Core.Option as maybe
use lib.ListN.{get_elem?}
use Rattle.atomic_table.specs.Table.{State, Step, Me, rest}
use Rattle.charmlet_locks.specs.declared.rule.GhostPlaces.{GhostPlaces}
use Rattle.charmlet_locks.specs.declared.rule.GhostPlaces.TheVariants.{Nothing, Vacant, Begun}

-- the word of a place's lock; at the number of places, how many words there are
abbrev pub word_of : ℕ → ℕ
word_of place = 16 * place + 16

-- the words at the start
abbrev pub first_words : ℕ → List ℕ
first_words count = 0 ∷ replicate (16 * count + 15) 1

-- what a seat with this number and this view has seen of word 0
abbrev pub Fits : List ℕ → ℕ → GhostPlaces → Type 0
Fits words by Nothing = Unit {0}
Fits words by Vacant = (by ≡ 0) × (slice_index words 0 ≡ 0)
Fits words by Begun = slice_index words 0 ≢ 0

-- vacant places from this one on, so many of them, as a seat holds them
abbrev pub vacancies : {T : Type 0} → (first count : ℕ) → List (ℕ × Option T)
vacancies first zero = []
vacancies first (suc count) = (first, None) ∷ vacancies (suc first) count

module _ {T : Type 0} (number : T → ℕ) where
  -- a value with the number of its place is at home there
  abbrev pub IsHome : List (maybe.Option (Option T)) → ℕ → Type 0
  IsHome homes place = (value : T) × (get_elem? homes place ≡ some (some (Some value)))
      × (number value ≡ place)

  -- a seat has taken a place, whose value has its number, after these
  abbrev pub HoldsPlace : ℕ → List (ℕ × Option T) → Me (Option T) GhostPlaces → Type 0
  HoldsPlace place more m = (value : T) × (m ≡ (Begun, (place, Some value) ∷ more))
      × (number value ≡ place)

  -- a seat has taken so many places from this one on, whose values have their numbers
  abbrev pub HoldsFrom : (first count : ℕ) → List (ℕ × Option T) → Type 0
  HoldsFrom first zero taken = taken ≡ []
  HoldsFrom first (suc count) [] = ⊥
  HoldsFrom first (suc count) (x ∷ taken) = (value : T) × (x ≡ (first, Some value))
      × (number value ≡ first) × HoldsFrom (suc first) count taken

  pub record IsKept (s : State (Option T) GhostPlaces) : Type 0 where
    pub sized : length s.words ≡ word_of (length s.homes)
    pub free : (place : ℕ) → place < length s.homes →
        slice_index s.words (word_of place) ≡ 0 → IsHome s.homes place
    pub vacant : slice_index s.words 0 ≡ 0 → (place : ℕ) → place < length s.homes →
        get_elem? s.homes place ≡ some (some None)
    pub seen : (by : ℕ) (v : GhostPlaces) → get_elem? s.views by ≡ some v → Fits s.words by v

  -- the lock is taken where its word was 0; else nothing changes
  abbrev pub Takes : Step (Option T) → Me (Option T) GhostPlaces → ℕ → Me (Option T) GhostPlaces →
      Type 0
  Takes s v found w = (found ≡ 0 → (place : ℕ) → s.word ≡ word_of place → HoldsPlace place v.1 w)
      × (found ≢ 0 → w ≡ v)

module _ {T : Type 0} where
  -- a new seat
  abbrev pub Sits : Step (Option T) → Me (Option T) GhostPlaces → ℕ → Me (Option T) GhostPlaces →
      Type 0
  Sits s v found w = w ≡ (Nothing, [])

  -- all places are taken, to be filled
  abbrev pub Begins : Step (Option T) → Me (Option T) GhostPlaces → ℕ → Me (Option T) GhostPlaces →
      Type 0
  Begins s v found w = w ≡ (Begun, vacancies 0 s.slots)

  -- nothing changes
  abbrev pub Stays : Step (Option T) → Me (Option T) GhostPlaces → ℕ → Me (Option T) GhostPlaces →
      Type 0
  Stays s v found w = w ≡ v

  -- the place that was taken last is given back
  abbrev pub Gives : Step (Option T) → Me (Option T) GhostPlaces → ℕ → Me (Option T) GhostPlaces →
      Type 0
  Gives s v found w = w ≡ (Begun, rest v.1)

-- the value of the place that was taken last
abbrev pub value_in : {T : Type 0} → List (ℕ × Option T) → Option T
value_in [] = None
value_in (x ∷ xs) = x.1

-- a seat holds this place alone, with a value
abbrev pub HasPlace : {T : Type 0} → ℕ → Me (Option T) GhostPlaces → Type 0
HasPlace {T} place m = (value : T) × (m ≡ (Begun, (place, Some value) ∷ []))
