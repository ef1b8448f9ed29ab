-- Replayers, and where they stop.
use Rattle.std.proofs.Common.{◌≡◌, ℕ, zero, suc, ◌<◌, true, false, List, [], ◌∷◌, length, refl, ap, subst, arith, lt-suc_self}
use Rattle.std.specs.Prelude.{Option, Some, None, nat_lt, slice_get, unwrap_or}
use Rattle.std.specs.List.{All, AllZip}
use Rattle.std.proofs.lemmas.Bool.{ltb-true, ltb-false}
use Rattle.std.proofs.lemmas.List.Elements.{All-cons, All-head, All-nil, All-tail}
use Rattle.charmlet_record.specs.declared.reader.ReadError.{ReadError}
use Rattle.charmlet_record.specs.declared.reader.ReadError.TheVariants.{Damaged, Memory}
use Rattle.charmlet_chare.specs.declared.chare.Chare.{Ghosts}
use Rattle.charmlet_log_scan.specs.Partition.Parts.{earlier, earliest_stop}
use Rattle.charmlet_replayers.specs.Replayer.Workers.{IsSpared, is_refused, left_at, left_of}
use Rattle.charmlet_replayers.specs.declared.replayer.replayer.Replayer.{Replayer}

pub same-stops : (n : ℕ) (f g : ℕ → Option ℕ) → ((i : ℕ) → i < n → f i ≡ g i) → earliest_stop n f ≡ earliest_stop n g
same-stops zero f g same = refl
same-stops (suc n) f g same =
    let one = same-stops n f g (λ i less. same i (omega (arith, less))) in
    let two = same n (lt-suc_self n) in
    λ i. earlier (one i) (two i)

-- a replayer that didn't stop and wasn't refused memory did all
pub no-stop : (o : Option ReadError) → left_of o ≡ None → is_refused o ≡ false → o ≡ None
no-stop None halts spares = refl
no-stop (Some Memory) halts spares = absurd (let no : ⊥ = cc in no)
no-stop (Some (Damaged fault)) halts spares = absurd (let no : ⊥ = cc in no)

module _ {C : Type 0} {G : Ghosts C} (R : Replayer C G → Replayer C G → Type 0) where
  -- each replayer stops as its tests do
  pub stops-are : (olds news : List (Replayer C G)) (want : ℕ → Option ℕ) → AllZip R olds news → All IsSpared news →
      ((w : ℕ) (old new : Replayer C G) → slice_get olds w ≡ Some old → R old new → is_refused new.stopped ≡ false → left_of new.stopped ≡ want w) →
      (w : ℕ) → w < length news → left_at news w ≡ want w
  stops-are [] [] want zip spared each w less = absurd (let no : ⊥ = omega (arith, less) in no)
  stops-are [] (new ∷ news) want zip spared each w less = absurd zip
  stops-are (old ∷ olds) [] want zip spared each w less = absurd zip
  stops-are (old ∷ olds) (new ∷ news) want zip spared each zero less = each 0 old new refl zip.0 (All-head IsSpared new news spared)
  stops-are (old ∷ olds) (new ∷ news) want zip spared each (suc w) less =
      stops-are olds news (λ v. want (suc v)) zip.1 (All-tail IsSpared new news spared) (λ v o n at. each (suc v) o n at) w (omega (arith, less))

  pub zip-length : (olds news : List (Replayer C G)) → AllZip R olds news → length news ≡ length olds
  zip-length [] [] zip = refl
  zip-length [] (new ∷ news) zip = absurd zip
  zip-length (old ∷ olds) [] zip = absurd zip
  zip-length (old ∷ olds) (new ∷ news) zip = ap suc (zip-length olds news zip.1)

  -- the replayer with a number was the one with it before
  pub record Was (olds : List (Replayer C G)) (w : ℕ) (new : Replayer C G) : Type 0 where
    pub old : Replayer C G
    pub at : slice_get olds w ≡ Some old
    pub related : R old new
    pub spared : is_refused new.stopped ≡ false

  one_of : (n new : Replayer C G) → Some n ≡ Some new → n ≡ new
  one_of n new at = ap (λ o. unwrap_or o n) at

  first-was : (o n : Replayer C G) (olds news : List (Replayer C G)) (new : Replayer C G) → n ≡ new → R o n → is_refused n.stopped ≡ false → Was (o ∷ olds) zero new
  first-was o n olds news new same related spares = record { old = o; at = refl; related = subst (R o) same related; spared = subst IsSpared same spares }

  later-was : (o : Replayer C G) (olds : List (Replayer C G)) (w : ℕ) (new : Replayer C G) → Was olds w new → Was (o ∷ olds) (suc w) new
  later-was o olds w new was = record { old = was.old; at = was.at; related = was.related; spared = was.spared }

  pub before : (olds news : List (Replayer C G)) → AllZip R olds news → All IsSpared news → (w : ℕ) (new : Replayer C G) → slice_get news w ≡ Some new → Was olds w new
  before [] [] zip spared w new at = absurd (let no : ⊥ = cc in no)
  before [] (n ∷ news) zip spared w new at = absurd zip
  before (o ∷ olds) [] zip spared w new at = absurd zip
  before (o ∷ olds) (n ∷ news) zip spared zero new at = first-was o n olds news new (one_of n new at) zip.0 (All-head IsSpared n news spared)
  before (o ∷ olds) (n ∷ news) zip spared (suc w) new at = later-was o olds w new (before olds news zip.1 (All-tail IsSpared n news spared) w new at)

-- ---- where none stopped, each went on to its end

none-below : (n : ℕ) (f : ℕ → Option ℕ) → earliest_stop n f ≡ None → (i : ℕ) → i < n → f i ≡ None
none-below zero f none i less = absurd (let no : ⊥ = omega (arith, less) in no)
none-below (suc n) f none i less =
    let both = neither (earliest_stop n f) (f n) none in
    elim (nat_lt i n) as (λ b. nat_lt i n ≡ b → f i ≡ None) [
      | true ↦ λ below. none-below n f both.0 i (ltb-true i n below)
      | false ↦ λ not. let over = ltb-false i n not in let same : n ≡ i = omega (arith, less, over) in subst (λ j. f j ≡ None) same both.1
    ] refl
  where
    neither : (a b : Option ℕ) → earlier a b ≡ None → (a ≡ None) × (b ≡ None)
    neither None b h = (refl, h)
    neither (Some i) None h = absurd (let no : ⊥ = cc in no)
    neither (Some i) (Some j) h = absurd (let no : ⊥ = cc in no)

module _ {C : Type 0} {G : Ghosts C} (R S : Replayer C G → Replayer C G → Type 0) where
  all-go-on : (olds news : List (Replayer C G)) → AllZip R olds news → All IsSpared news → ((i : ℕ) → i < length news → left_at news i ≡ None) → ((old new : Replayer C G) → R old new → new.stopped ≡ None → S old new) → AllZip S olds news
  all-go-on [] [] zip spared none each = tt
  all-go-on [] (new ∷ news) zip spared none each = absurd zip
  all-go-on (old ∷ olds) [] zip spared none each = absurd zip
  all-go-on (old ∷ olds) (new ∷ news) zip spared none each = (
    each old new zip.0 (no-stop new.stopped (none 0 (omega arith)) (All-head IsSpared new news spared)),
    all-go-on olds news zip.1 (All-tail IsSpared new news spared) (λ i less. none (suc i) (omega (arith, less))) each,
  )

  pub go-on : (olds news : List (Replayer C G)) → AllZip R olds news → All IsSpared news → earliest_stop (length news) (left_at news) ≡ None → ((old new : Replayer C G) → R old new → new.stopped ≡ None → S old new) → AllZip S olds news
  go-on olds news zip spared none each = all-go-on olds news zip spared (none-below (length news) (left_at news) none) each

  pub zip-map : (olds news : List (Replayer C G)) → AllZip R olds news → ((old new : Replayer C G) → R old new → S old new) → AllZip S olds news
  zip-map [] [] zip each = tt
  zip-map [] (new ∷ news) zip each = absurd zip
  zip-map (old ∷ olds) [] zip each = absurd zip
  zip-map (old ∷ olds) (new ∷ news) zip each = (each old new zip.0, zip-map olds news zip.1 each)

module _ {C : Type 0} {G : Ghosts C} (R : Replayer C G → Replayer C G → Type 0) (P : Replayer C G → Type 0) where
  pub zip-all : (olds news : List (Replayer C G)) → AllZip R olds news → ((old new : Replayer C G) → R old new → P new) → All P news
  zip-all [] [] zip each = All-nil P
  zip-all [] (new ∷ news) zip each = absurd zip
  zip-all (old ∷ olds) [] zip each = absurd zip
  zip-all (old ∷ olds) (new ∷ news) zip each = All-cons P new news (each old new zip.0) (zip-all olds news zip.1 each)
