-- What is captured when a checkpoint begins.
use Rattle.std.proofs.Common.{◌≡◌, inl, inr, ℕ, ◌-◌, ◌<◌, Bool, true, false, cond, not, ◌&&◌, List, [], ◌∷◌, length, take, drop, refl, sym, ap, subst, ◌∙◌, arith, if◌then◌else◌}
use Rattle.std.proofs.lemmas.Bool.{ltb-true}
use Rattle.std.proofs.lemmas.Bool.Decides.{nat_tests}
use Rattle.std.proofs.lemmas.List.{take_all, drop_all}
use Rattle.std.proofs.lemmas.Map.Keys.{IsDistinct-from_sorted, IsDistinct-head}
use Rattle.std.proofs.lemmas.Map.Views.{tells_apart, IfSome-lookup_from_All}
use Rattle.std.specs.Prelude.{Option, Some, None, IfSome, is_some, nat_lt, unwrap_or, option_map}
use Rattle.std.specs.BTreeMap.{insert_entry, is_at}
use Rattle.std.specs.List.Sorted.{IsStrictlySortedBy}
use Rattle.std.specs.Map.{keys_of, lookup}
use Rattle.std.specs.Ordering.{eq_by_cmp}
use Rattle.charmlet_model.specs.declared.names.Elem.{Elem}
use Rattle.charmlet_model.specs.declared.event.Event.{Event}
use Rattle.charmlet_model.specs.declared.state.State.{State}
use Rattle.charmlet_model.specs.declared.state.Record.{Record}
use Rattle.charmlet_model.specs.Core.{present}
use Rattle.charmlet_model.specs.Fit.{IsFit, IsKept}
use Rattle.charmlet_model.specs.Names.{elem_cmp}
use Rattle.charmlet_model.specs.Packed.{pupped}
use Rattle.charmlet_model.specs.World.{World, world, no_record, record_of}
use Rattle.charmlet_model.proofs.Maps.{absent, elem_exact, elem_total, lookup-insert_entry}
use Rattle.charmlet_model.proofs.SoundLemmas.{sound_fit}
use Rattle.charmlet_shelf.proofs.Risen.{none_from_test}
use Rattle.charmlet_world.specs.declared.element.Element.{Element}
use Rattle.charmlet_world.specs.Seen.{IsCountedBy, element_at, no_element}
use Rattle.charmlet_world.specs.Standing.{is_left, left_of}
use Rattle.charmlet_history.specs.Kept.{IsConsistent, Kept, core_in}
use Rattle.charmlet_history.proofs.Assigning.{there_is}
use Rattle.charmlet_persist.specs.declared.fuzzy_checkpoint.captured_element.CapturedElement.{CapturedElement}
use Rattle.charmlet_persist.specs.FuzzyCheckpoint.Checkpoint.{IsRunning, IsRunningFrom, Run, begun_in, left, captured_of, with_all_left, with_left}
use Rattle.charmlet_persist.proofs.FuzzyCheckpointLemmas.Steps.{Rises, Captures, put_rises}

-- ---- maps

-- what an element leaves, if it has only left a record
abbrev pub left_if : Element → Option (Option CapturedElement)
left_if e = if is_left e then Some (Some (left e)) else None

-- that, where there is such an element, or what was captured
abbrev over : Option Element → Option (Option CapturedElement) → Option (Option CapturedElement)
over None o = o
over (Some e) o = if is_left e then Some (Some (left e)) else o

-- with what the element left, if it has
abbrev with_left_if : List (Elem × Option CapturedElement) → Elem × Element → List (Elem × Option CapturedElement)
with_left_if captured e = if is_left e.1 then insert_entry elem_cmp captured e.0 (Some (left e.1)) else captured

first_left : (captured : List (Elem × Option CapturedElement)) (e : Elem × Element) (es : List (Elem × Element)) → with_all_left captured (left_of (e ∷ es)) ≡ with_all_left (with_left_if captured e) (left_of es)
first_left captured e es =
    elim (is_left e.1) as (λ b. with_all_left captured (if b then e ∷ left_of es else left_of es) ≡ with_all_left (if b then insert_entry elem_cmp captured e.0 (Some (left e.1)) else captured) (left_of es)) [ true ↦ refl | false ↦ refl ]

one_left : (captured : List (Elem × Option CapturedElement)) (e : Elem × Element) (x : Elem) → captured_of (with_left_if captured e) x ≡ cond (eq_by_cmp elem_cmp x e.0) (over (Some e.1) (captured_of captured x)) (captured_of captured x)
one_left captured e x =
    elim (is_left e.1) as (λ b. captured_of (if b then insert_entry elem_cmp captured e.0 (Some (left e.1)) else captured) x ≡ cond (eq_by_cmp elem_cmp x e.0) (if b then Some (Some (left e.1)) else captured_of captured x) (captured_of captured x)) [
      | true ↦ lookup-insert_entry elem_cmp elem_total x e.0 (Some (left e.1)) captured
      | false ↦ elim (eq_by_cmp elem_cmp x e.0) as (λ b. captured_of captured x ≡ cond b (captured_of captured x) (captured_of captured x)) [ true ↦ refl | false ↦ refl ]
    ]

rest_rises : (e : Elem × Element) (es : List (Elem × Element)) → IsStrictlySortedBy elem_cmp (keys_of (e ∷ es)) → IsStrictlySortedBy elem_cmp (keys_of es)
unfolding IsStrictlySortedBy
rest_rises e es h = h.1

all_left : (es : List (Elem × Element)) → IsStrictlySortedBy elem_cmp (keys_of es) → (captured : List (Elem × Option CapturedElement)) (x : Elem) → captured_of (with_all_left captured (left_of es)) x ≡ over (lookup (is_at (elem_cmp x)) es) (captured_of captured x)
all_left [] rising captured x = refl
all_left (e ∷ es) rising captured x =
    let rest = all_left es (rest_rises e es rising) (with_left_if captured e) x in
    ap (λ (s : List (Elem × Option CapturedElement)). captured_of s x) (first_left captured e es)
    ∙ elim (eq_by_cmp elem_cmp x e.0) as (λ b. eq_by_cmp elem_cmp x e.0 ≡ b → captured_of (with_all_left (with_left_if captured e) (left_of es)) x ≡ over (cond b (Some e.1) (lookup (is_at (elem_cmp x)) es)) (captured_of captured x)) [
      | true ↦ λ same.
          let others = IsDistinct-head (eq_by_cmp elem_cmp) e.0 (keys_of es) (IsDistinct-from_sorted elem_cmp (keys_of (e ∷ es)) rising) in
          let none : lookup (is_at (elem_cmp x)) es ≡ None = subst (λ y. lookup (is_at (elem_cmp y)) es ≡ None) (sym (tells_apart elem_exact x e.0 same)) (absent (is_at (elem_cmp e.0)) es others) in
          rest ∙ ap (λ o. over o (captured_of (with_left_if captured e) x)) none ∙ one_left captured e x ∙ ap (λ b. cond b (over (Some e.1) (captured_of captured x)) (captured_of captured x)) same
      | false ↦ λ apart.
          rest ∙ ap (over (lookup (is_at (elem_cmp x)) es)) (one_left captured e x ∙ ap (λ b. cond b (over (Some e.1) (captured_of captured x)) (captured_of captured x)) apart)
    ] refl

none_captured : (o : Option Element) → over o None ≡ left_if (unwrap_or o no_element)
none_captured None = refl
none_captured (Some e) = refl

-- an element is captured by what it has left alone
pub captured_first : (es : List (Elem × Element)) → IsStrictlySortedBy elem_cmp (keys_of es) → (x : Elem) → captured_of (with_all_left [] (left_of es)) x ≡ left_if (element_at es x)
captured_first es rising x = all_left es rising [] x ∙ none_captured (lookup (is_at (elem_cmp x)) es)

pub all_left_rises : (es : List (Elem × Element)) (captured : List (Elem × Option CapturedElement)) → Rises captured → Rises (with_all_left captured es)
all_left_rises [] captured rises = rises
all_left_rises (e ∷ es) captured rises =
    all_left_rises es (with_left captured e) (put_rises captured e.0 (Some (left e.1)) rises)

-- ---- records

-- an element that isn't there and has received nothing has no record
no_record_is : (o : Option Record) → IfSome o IsKept → is_some (unwrap_or o no_record).state ≡ false → (unwrap_or o no_record).received ≡ 0 → unwrap_or o no_record ≡ no_record
no_record_is None kept gone none = refl
no_record_is (Some r) (inl some) gone none = absurd (let no : false ≡ true = sym gone ∙ some in let never : ⊥ = cc in never)
no_record_is (Some r) (inr some) gone none = absurd (omega arith)

module _ (w : World) (fit : IsFit w) (x : Elem) (e : Element) (there : is_some (record_of w x).state ≡ is_some e.place) (counts : IsCountedBy (record_of w x) e) where
  abbrev r : Record
  r = record_of w x

  by_cases : (p some : Bool) → is_some e.place ≡ p → nat_lt 0 e.received ≡ some → Captures w [] x (if not p && some then Some (Some (left e)) else None)
  by_cases true some is_there received = (0, inl (there ∙ is_there))
  by_cases false true gone received =
      let more : 0 < e.received = ltb-true 0 e.received received in
      let none : r.state ≡ None = none_from_test r.state (there ∙ gone) in (
        0,
        (
          omega arith,
          record {
            sent = counts.sent;
            received = counts.received;
            packed = ap (λ (s : Option State). option_map pupped s) (sym none);
            short = tt;
            kept = inr (omega (arith, more, counts.received));
          },
        ),
      )
  by_cases false false gone received =
      let least : e.received ≡ 0 = grind (arith, nat_tests) in
      let none : r ≡ no_record = no_record_is (lookup (is_at (elem_cmp x)) w.records) (IfSome-lookup_from_All IsKept (is_at (elem_cmp x)) w.records fit.no_empty_record) (there ∙ gone) (omega (arith, counts.received)) in
      (0, inr (none, none))

  pub left_captures : Captures w [] x (left_if e)
  left_captures = by_cases (is_some e.place) (nat_lt 0 e.received) refl refl

-- ---- the beginning

none_rises : Rises []
unfolding IsStrictlySortedBy
none_rises = tt

pub begun_running : (k : Kept) (room : ℕ) → IsConsistent k → IsRunning (core_in k) (begun_in k room)
begun_running k room consistent =
    let core = core_in k in
    let w : World = present core in
    let run : Run = begun_in k room in
    let fit = sound_fit core consistent.sound in
    let all : run.begun - k.before ≡ length k.events = omega arith in
    let before : world k.opening (take (run.begun - k.before) k.events) ≡ w = ap (world k.opening) (take_all (run.begun - k.before) k.events (omega arith)) in
    let since : drop (run.begun - k.before) k.events ≡ [] = drop_all (run.begun - k.before) k.events (omega arith) in
    let from : IsRunningFrom w [] run = record {
      rising = all_left_rises (left_of k.elements) [] none_rises;
      captured = λ x. subst (Captures w [] x) (sym (captured_first k.elements consistent.rising x))
          (left_captures w fit x (element_at k.elements x) (there_is k consistent x) (consistent.counts x));
      caught_up = refl;
      count = refl;
    } in
    record {
      after = omega arith;
      within = omega arith;
      from = subst (λ (v : World). IsRunningFrom v (drop (run.begun - k.before) k.events) run) (sym before)
          (subst (λ (es : List Event). IsRunningFrom w es run) (sym since) from);
    }
