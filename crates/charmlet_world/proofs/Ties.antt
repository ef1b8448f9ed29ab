-- How sequence numbers and their places are tied to what is seen of a present world.
use Rattle.std.proofs.Common.{◌≡◌, ◌≢◌, ℕ, ◌+◌, ◌<◌, suc, Bool, true, false, cond, not, ◌&&◌, ◌||◌, List, [], ◌∷◌, ◌++◌, length, ◌≤◌, refl, sym, ap, subst, ◌∙◌, arith, if◌then◌else◌}
use Rattle.std.specs.Prelude.{Option, Some, None, IfSome, ◌==◌, nat_le, is_some, is_none, option_and_then, option_map}
use Rattle.std.specs.BTreeMap.{insert_entry}
use Rattle.std.specs.List.{AllByRecursion}
use Rattle.charmlet_model.specs.declared.names.Elem.{Elem}
use Rattle.charmlet_model.specs.declared.names.MsgId.{MsgId}
use Rattle.charmlet_model.specs.declared.message.Message.{Message}
use Rattle.charmlet_model.specs.declared.TheConstants.{CONSTRUCT}
use Rattle.charmlet_model.specs.Fit.{AreDistinct}
use Rattle.charmlet_model.specs.Names.{elem_cmp, same_elem, same_id}
use Rattle.charmlet_model.specs.Reaction.{greatest}
use Rattle.charmlet_model.specs.World.{without}
use Rattle.charmlet_model.proofs.Fits.{same_id-is}
use Rattle.charmlet_model.proofs.Maps.{same_elem-is, same_from_test}
use Rattle.charmlet_world.specs.declared.element.Element.{Element}
use Rattle.charmlet_world.specs.Seen.{Seen, element_at, is_deliverable, next_due, oldest, oldest_on, place_or_home_in}
use Rattle.charmlet_world.specs.Standing.{risen}
use Rattle.charmlet_world.proofs.Indices.{same_id-itself}
use Rattle.charmlet_world.proofs.Places.{element_at-insert}
use Rattle.charmlet_ready_queue.specs.SeqNos.SeqNos.{AllAfter, AllBefore, Climbs, without_number}
use Rattle.charmlet_ready_queue.proofs.SeqNosLemmas.Rising.{all_append, all_left}
use Rattle.charmlet_ready_queue.specs.declared.index.chain.Call.{Call}
use Rattle.charmlet_ready_queue.specs.declared.index.place.QueuePlace.{QueuePlace}
use Rattle.charmlet_ready_queue.specs.declared.index.place.Readiness.{Readiness}
use Rattle.charmlet_ready_queue.specs.Index.Index.{AreApart, ArePositioned, IsPlaced, first_of, holds, is_ready_on, moved, place_by, stood}
use Rattle.charmlet_ready_queue.proofs.IndexLemmas.Firsts.{first_after}
use Rattle.charmlet_ready_queue.proofs.IndexLemmas.Standing.{stood_other}
use Rattle.charmlet_world.specs.Tied.{ArePlacedBy, DiffersAt, seq_as, calls_down, readiness_by, readiness_of}

abbrev readiness_in : Seen → Elem → Readiness
readiness_in k x = readiness_of k.processors x (element_at k.elements x)

like : (n : ℕ) → (n == n) ≡ true
like n = grind arith

unlike : (a b : ℕ) → a < b → (a == b) ≡ false
unlike a b h = grind arith

unlike_too : (a b : ℕ) → a < b → (b == a) ≡ false
unlike_too a b h = grind arith

-- ---- one message

ready_same : (k : Seen) (place : ℕ → QueuePlace) (b : ℕ) (m : Message) → place b ≡ place_by (readiness_in k m.to) (m.entry == CONSTRUCT) → (place b).is_ready ≡ is_deliverable k m
ready_same k place b m is =
    let e = element_at k.elements m.to in
    ap (λ (a : QueuePlace). a.is_ready) is ∙ grouped (is_some e.place || (m.entry == CONSTRUCT)) (nat_le (e.received + 1) greatest) (nat_le (e.sent + 16) greatest)
  where
    grouped : (r s t : Bool) → (r && (s && t)) ≡ (r && s && t)
    grouped true true true = refl
    grouped true true false = refl
    grouped true false true = refl
    grouped true false false = refl
    grouped false s t = refl

on_same : (k : Seen) (place : ℕ → QueuePlace) (b : ℕ) (m : Message) → place b ≡ place_by (readiness_in k m.to) (m.entry == CONSTRUCT) → (place b).on ≡ place_or_home_in k m.to
on_same k place b m is = ap (λ (a : QueuePlace). a.on) is

ready_on_same : (k : Seen) (place : ℕ → QueuePlace) (p b : ℕ) (m : Message) → place b ≡ place_by (readiness_in k m.to) (m.entry == CONSTRUCT) → is_ready_on (place b) p ≡ ((place_or_home_in k m.to == p) && is_deliverable k m)
ready_on_same k place p b m is = ap (λ q. (q == p) && (place b).is_ready) (on_same k place b m is) ∙ ap (λ t. (place_or_home_in k m.to == p) && t) (ready_same k place b m is)

-- ---- the oldest

-- what is after the first sequence number is among the others
later_seq : (b : ℕ) (m : Message) (bs : List ℕ) (ms : List Message) (n : ℕ) → b < n → seq_as n (b ∷ bs) (m ∷ ms) ≡ seq_as n bs ms
later_seq b m bs ms n h = rw (unlike b n h) refl

skip_first : (b : ℕ) (m : Message) (bs : List ℕ) (ms : List Message) (o : Option ℕ) → IfSome o (λ n. b < n) → option_and_then (λ n. option_map (λ (l : Message). l.id) (seq_as n (b ∷ bs) (m ∷ ms))) o ≡ option_and_then (λ n. option_map (λ (l : Message). l.id) (seq_as n bs ms)) o
skip_first b m bs ms None h = refl
skip_first b m bs ms (Some n) h = ap (option_map (λ (l : Message). l.id)) (later_seq b m bs ms n h)

pub oldest_named : (k : Seen) (place : ℕ → QueuePlace) (p : ℕ) (bs : List ℕ) (ms : List Message) → ArePlacedBy (readiness_in k) place bs ms → Climbs bs → option_and_then (λ n. option_map (λ (m : Message). m.id) (seq_as n bs ms)) (first_of (λ n. is_ready_on (place n) p) bs) ≡ oldest_on k p ms
oldest_named k place p [] [] h c = refl
oldest_named k place p [] (m ∷ ms) h c = absurd h
oldest_named k place p (b ∷ bs) [] h c = absurd h
oldest_named k place p (b ∷ bs) (m ∷ ms) h c =
    let more = oldest_named k place p bs ms h.1 c.1 in
    let after = first_after b (λ n. is_ready_on (place n) p) bs c.0 in
    rw (ready_on_same k place p b m h.0) (elim ((place_or_home_in k m.to == p) && is_deliverable k m) as (λ t. option_and_then (λ n. option_map (λ (l : Message). l.id) (seq_as n (b ∷ bs) (m ∷ ms))) (if t then Some b else first_of (λ n. is_ready_on (place n) p) bs) ≡ (if t then Some m.id else oldest_on k p ms)) [
      | true ↦ rw (like b) refl
      | false ↦ skip_first b m bs ms (first_of (λ n. is_ready_on (place n) p) bs) after ∙ more
    ])

skip_placed : (b : ℕ) (m : Message) (bs : List ℕ) (ms : List Message) (r : Option (ℕ × ℕ)) → IfSome (option_map (λ (e : ℕ × ℕ). e.1) r) (λ n. b < n) → option_and_then {U = ℕ × MsgId} (λ (e : ℕ × ℕ). option_map {U = ℕ × MsgId} (λ (l : Message). (e.0, l.id)) (seq_as e.1 (b ∷ bs) (m ∷ ms))) r ≡ option_and_then {U = ℕ × MsgId} (λ (e : ℕ × ℕ). option_map {U = ℕ × MsgId} (λ (l : Message). (e.0, l.id)) (seq_as e.1 bs ms)) r
skip_placed b m bs ms None h = refl
skip_placed b m bs ms (Some e) h = ap (option_map {U = ℕ × MsgId} (λ (l : Message). (e.0, l.id))) (later_seq b m bs ms e.1 h)

pub next_named : (k : Seen) (place : ℕ → QueuePlace) (r : Option (ℕ × ℕ)) (bs : List ℕ) (ms : List Message) → ArePlacedBy (readiness_in k) place bs ms → Climbs bs → option_map (λ (e : ℕ × ℕ). e.1) r ≡ first_of (λ n. (place n).is_ready) bs → IsPlaced place r → option_and_then {U = ℕ × MsgId} (λ (e : ℕ × ℕ). option_map {U = ℕ × MsgId} (λ (l : Message). (e.0, l.id)) (seq_as e.1 bs ms)) r ≡ next_due k ms
next_named k place None [] [] h c is placed = refl
next_named k place (Some e) [] [] h c is placed = cc
next_named k place r [] (m ∷ ms) h c is placed = absurd h
next_named k place r (b ∷ bs) [] h c is placed = absurd h
next_named k place r (b ∷ bs) (m ∷ ms) h c is placed =
    let test = ready_same k place b m h.0 in
    let is_here = rw test at is in
    let after = first_after b (λ n. (place n).is_ready) bs c.0 in
    elim (is_deliverable k m) as (λ t. option_map (λ (e : ℕ × ℕ). e.1) r ≡ (if t then Some b else first_of (λ n. (place n).is_ready) bs) → option_and_then {U = ℕ × MsgId} (λ (e : ℕ × ℕ). option_map {U = ℕ × MsgId} (λ (l : Message). (e.0, l.id)) (seq_as e.1 (b ∷ bs) (m ∷ ms))) r ≡ (if t then Some (place_or_home_in k m.to, m.id) else next_due k ms)) [
      | true ↦ λ here. one r here placed
      | false ↦ λ later. skip_placed b m bs ms r (subst (λ o. IfSome o (λ n. b < n)) (sym later) after) ∙ next_named k place r bs ms h.1 c.1 later placed
    ] is_here
  where
    one : (r : Option (ℕ × ℕ)) → option_map (λ (e : ℕ × ℕ). e.1) r ≡ Some b → IsPlaced place r → option_and_then {U = ℕ × MsgId} (λ (e : ℕ × ℕ). option_map {U = ℕ × MsgId} (λ (l : Message). (e.0, l.id)) (seq_as e.1 (b ∷ bs) (m ∷ ms))) r ≡ Some (place_or_home_in k m.to, m.id)
    one None here placed = cc
    one (Some e) here placed =
        let same : e.1 ≡ b = cc in
        let on : e.0 ≡ place_or_home_in k m.to = sym placed ∙ (ap (λ n. (place n).on) same ∙ on_same k place b m h.0) in
        ap (λ n. option_map {U = ℕ × MsgId} (λ (l : Message). (e.0, l.id)) (seq_as n (b ∷ bs) (m ∷ ms))) same
        ∙ (ap (λ (t : Bool). option_map {U = ℕ × MsgId} (λ (l : Message). (e.0, l.id)) (if t then Some m else seq_as b bs ms)) (like b)
        ∙ ap (λ q. Some (q, m.id)) on)

pub quiet_said : (k : Seen) (place : ℕ → QueuePlace) (bs : List ℕ) (ms : List Message) → ArePlacedBy (readiness_in k) place bs ms → is_none (first_of (λ n. (place n).is_ready) bs) ≡ is_none (oldest k ms)
quiet_said k place [] [] h = refl
quiet_said k place [] (m ∷ ms) h = absurd h
quiet_said k place (b ∷ bs) [] h = absurd h
quiet_said k place (b ∷ bs) (m ∷ ms) h =
    let more = quiet_said k place bs ms h.1 in
    rw (ready_same k place b m h.0) (elim (is_deliverable k m) as (λ t. is_none (if t then Some b else first_of (λ n. (place n).is_ready) bs) ≡ is_none (if t then Some m.id else oldest k ms)) [
      | true ↦ refl
      | false ↦ more
    ])

-- ---- what comes and goes

pub comes : (readiness : Elem → Readiness) (place : ℕ → QueuePlace) (seq_nos : List ℕ) (ms : List Message) (n : ℕ) (m : Message) → ArePlacedBy readiness place seq_nos ms → AllBefore n seq_nos → ArePlacedBy readiness (moved n (place_by (readiness m.to) (m.entry == CONSTRUCT)) place) (seq_nos ++ n ∷ []) (ms ++ m ∷ [])
comes readiness place [] [] n m h below = (rw (like n) refl, tt)
comes readiness place [] (c ∷ cs) n m h below = absurd h
comes readiness place (b ∷ bs) [] n m h below = absurd h
comes readiness place (b ∷ bs) (c ∷ cs) n m h below = (rw (unlike b n below.0) h.0, comes readiness place bs cs n m h.1 below.1)

other_way : (j i : MsgId) → same_id j i ≡ false → same_id i j ≡ false
other_way j i apart =
    elim (same_id i j) as (λ t. same_id i j ≡ t → t ≡ false) [
      | true ↦ λ same. absurd (let no : false ≡ true = sym apart ∙ (ap (same_id j) (same_id-is i j same) ∙ same_id-itself j) in let never : ⊥ = cc in never)
      | false ↦ λ _. refl
    ] refl

-- the message of a sequence number is one of them
seq_has : (P : Message → Type 0) (n : ℕ) (bs : List ℕ) (ms : List Message) (m : Message) → AllByRecursion P ms → seq_as n bs ms ≡ Some m → P m
seq_has P n [] ms m h is = cc
seq_has P n (b ∷ bs) [] m h is = cc
seq_has P n (b ∷ bs) (c ∷ cs) m h is =
    elim (b == n) as (λ t. (if t then Some c else seq_as n bs cs) ≡ Some m → P m) [
      | true ↦ λ here. let same : c ≡ m = cc in subst P same h.0
      | false ↦ λ later. seq_has P n bs cs m h.1 later
    ] is

pub leaves : (readiness : Elem → Readiness) (place : ℕ → QueuePlace) (seq_nos : List ℕ) (ms : List Message) (n : ℕ) (m : Message) → ArePlacedBy readiness place seq_nos ms → Climbs seq_nos → AreDistinct ms → seq_as n seq_nos ms ≡ Some m → ArePlacedBy readiness place (without_number n seq_nos) (without m.id ms)
leaves readiness place [] ms n m h c apart is = cc
leaves readiness place (b ∷ bs) [] n m h c apart is = absurd h
leaves readiness place (b ∷ bs) (l ∷ ls) n m h c apart is =
    elim (b == n) as (λ t. (b == n) ≡ t → (if t then Some l else seq_as n bs ls) ≡ Some m → ArePlacedBy readiness place (if not t then b ∷ without_number n bs else without_number n bs) (without m.id (l ∷ ls))) [
      | true ↦ λ e here.
          let same : b ≡ n = grind arith in
          let this : l ≡ m = cc in
          let id : same_id m.id l.id ≡ true = ap (same_id m.id) (ap (λ (a : Message). a.id) this) ∙ same_id-itself m.id in
          rw id (rw (all_left bs n (subst (λ a. AllAfter a bs) same c.0)) h.1)
      | false ↦ λ e later.
          let id : same_id m.id l.id ≡ false = other_way l.id m.id (seq_has (λ (a : Message). same_id l.id a.id ≡ false) n bs ls m apart.0 later) in
          rw id (h.0, leaves readiness place bs ls n m h.1 c.1 apart.1 later)
    ] refl is

-- the sequence number is one of the sequence numbers, and where its receiver stands
pub seq_holds : (n : ℕ) (bs : List ℕ) (ms : List Message) (m : Message) → seq_as n bs ms ≡ Some m → holds n bs ≡ true
seq_holds n [] ms m is = cc
seq_holds n (b ∷ bs) [] m is = cc
seq_holds n (b ∷ bs) (c ∷ cs) m is = elim (b == n) as (λ t. (if t then Some c else seq_as n bs cs) ≡ Some m → (t || holds n bs) ≡ true) [
  | true ↦ λ here. refl
  | false ↦ λ later. seq_holds n bs cs m later
] is

pub seq_placed : (readiness : Elem → Readiness) (place : ℕ → QueuePlace) (n : ℕ) (bs : List ℕ) (ms : List Message) (m : Message) → ArePlacedBy readiness place bs ms → seq_as n bs ms ≡ Some m → place n ≡ place_by (readiness m.to) (m.entry == CONSTRUCT)
seq_placed readiness place n [] ms m h is = cc
seq_placed readiness place n (b ∷ bs) [] m h is = cc
seq_placed readiness place n (b ∷ bs) (c ∷ cs) m h is = elim (b == n) as (λ t. (b == n) ≡ t → (if t then Some c else seq_as n bs cs) ≡ Some m → place n ≡ place_by (readiness m.to) (m.entry == CONSTRUCT)) [
  | true ↦ λ e here.
      let number : b ≡ n = grind arith in
      let same : c ≡ m = cc in
      subst (λ (l : Message). place n ≡ place_by (readiness l.to) (l.entry == CONSTRUCT)) same (subst (λ k. place k ≡ place_by (readiness c.to) (c.entry == CONSTRUCT)) number h.0)
  | false ↦ λ e later. seq_placed readiness place n bs cs m h.1 later
] refl is

-- as many sequence numbers as messages
pub as_many : (readiness : Elem → Readiness) (place : ℕ → QueuePlace) (bs : List ℕ) (ms : List Message) → ArePlacedBy readiness place bs ms → length bs ≡ length ms
as_many readiness place [] [] h = refl
as_many readiness place [] (m ∷ ms) h = absurd h
as_many readiness place (b ∷ bs) [] h = absurd h
as_many readiness place (b ∷ bs) (m ∷ ms) h = ap suc (as_many readiness place bs ms h.1)

-- elements that stand the same have their sequence numbers in the same places
pub placed_as : (f g : Elem → Readiness) (place : ℕ → QueuePlace) (bs : List ℕ) (ms : List Message) → ((x : Elem) → f x ≡ g x) → ArePlacedBy f place bs ms → ArePlacedBy g place bs ms
placed_as f g place [] [] same h = tt
placed_as f g place [] (m ∷ ms) same h = absurd h
placed_as f g place (b ∷ bs) [] same h = absurd h
placed_as f g place (b ∷ bs) (m ∷ ms) same h = (h.0 ∙ ap (λ (s : Readiness). place_by s (m.entry == CONSTRUCT)) (same m.to), placed_as f g place bs ms same h.1)

-- what is so of each element's processor is so of each sequence number's
pub all_placed : (P : QueuePlace → Type 0) (readiness : Elem → Readiness) (place : ℕ → QueuePlace) (bs : List ℕ) (ms : List Message) → ((x : Elem) (t : Bool) → P (place_by (readiness x) t)) → ArePlacedBy readiness place bs ms → AllByRecursion (λ n. P (place n)) bs
all_placed P readiness place [] [] all h = tt
all_placed P readiness place [] (m ∷ ms) all h = tt
all_placed P readiness place (b ∷ bs) [] all h = absurd h
all_placed P readiness place (b ∷ bs) (m ∷ ms) all h = (subst P (sym h.0) (all m.to (m.entry == CONSTRUCT)), all_placed P readiness place bs ms all h.1)

pub first_all : (P : ℕ → Type 0) (p : ℕ → Bool) (bs : List ℕ) (n : ℕ) → AllByRecursion P bs → first_of p bs ≡ Some n → P n
first_all P p [] n h is = cc
first_all P p (b ∷ bs) n h is = elim (p b) as (λ t. (if t then Some b else first_of p bs) ≡ Some n → P n) [
  | true ↦ λ here. let same : b ≡ n = cc in subst P same h.0
  | false ↦ λ later. first_all P p bs n h.1 later
] is

-- ---- an element that stands otherwise

calls_after : (x : Elem) (n : ℕ) (bs : List ℕ) (ms : List Message) → AllAfter n bs → AllByRecursion (λ (c : Call). n < c.number) (calls_down x bs ms)
calls_after x n [] ms h = tt
calls_after x n (b ∷ bs) [] h = tt
calls_after x n (b ∷ bs) (m ∷ ms) h =
    let more = calls_after x n bs ms h.1 in
    elim (same_elem m.to x) as (λ t. AllByRecursion (λ (c : Call). n < c.number) (if t then calls_down x bs ms ++ record { number = b; constructs = m.entry == CONSTRUCT } ∷ [] else calls_down x bs ms)) [
      | true ↦ all_append (λ (c : Call). n < c.number) (calls_down x bs ms) (record { number = b; constructs = m.entry == CONSTRUCT } ∷ []) more (h.0, tt)
      | false ↦ more
    ]

all_apart : (n : ℕ) (calls : List Call) → AllByRecursion (λ (c : Call). n < c.number) calls → AllByRecursion (λ (c : Call). c.number ≢ n) calls
all_apart n [] h = tt
all_apart n (c ∷ calls) h = (omega (arith, h.0), all_apart n calls h.1)

apart_last : (calls : List Call) (c : Call) → AreApart calls → AllByRecursion (λ (d : Call). c.number < d.number) calls → AreApart (calls ++ c ∷ [])
apart_last [] c a h = (tt, tt)
apart_last (d ∷ calls) c a h = (all_append (λ (e : Call). e.number ≢ d.number) calls (c ∷ []) a.0 (omega (arith, h.0), tt), apart_last calls c a.1 h.1)

pub calls_apart : (x : Elem) (bs : List ℕ) (ms : List Message) → Climbs bs → AreApart (calls_down x bs ms)
calls_apart x [] ms c = tt
calls_apart x (b ∷ bs) [] c = tt
calls_apart x (b ∷ bs) (m ∷ ms) c =
    let more = calls_apart x bs ms c.1 in
    elim (same_elem m.to x) as (λ t. AreApart (if t then calls_down x bs ms ++ record { number = b; constructs = m.entry == CONSTRUCT } ∷ [] else calls_down x bs ms)) [
      | true ↦ apart_last (calls_down x bs ms) (record { number = b; constructs = m.entry == CONSTRUCT }) more (calls_after x b bs ms c.0)
      | false ↦ more
    ]

-- with one more sequence number before them, the calls are held too
held_behind : (b : ℕ) (readiness : Readiness) (calls : List Call) (bs : List ℕ) (place : ℕ → QueuePlace) → ArePositioned readiness calls bs place → ArePositioned readiness calls (b ∷ bs) place
held_behind b readiness [] bs place h = tt
held_behind b readiness (c ∷ calls) bs place h = (either (b == c.number) (holds c.number bs) h.0, h.1, held_behind b readiness calls bs place h.2)
  where
    either : (s t : Bool) → t ≡ true → (s || t) ≡ true
    either true t e = refl
    either false t e = e

placed_last : (readiness : Readiness) (calls : List Call) (c : Call) (bs : List ℕ) (place : ℕ → QueuePlace) → ArePositioned readiness calls bs place → holds c.number bs ≡ true → place c.number ≡ place_by readiness c.constructs → ArePositioned readiness (calls ++ c ∷ []) bs place
placed_last readiness [] c bs place h held at = (held, at, tt)
placed_last readiness (d ∷ calls) c bs place h held at = (h.0, h.1, placed_last readiness calls c bs place h.2 held at)

pub calls_placed : (x : Elem) (readiness : Elem → Readiness) (place : ℕ → QueuePlace) (bs : List ℕ) (ms : List Message) → ArePlacedBy readiness place bs ms → ArePositioned (readiness x) (calls_down x bs ms) bs place
calls_placed x readiness place [] ms h = tt
calls_placed x readiness place (b ∷ bs) [] h = absurd h
calls_placed x readiness place (b ∷ bs) (m ∷ ms) h =
    let more = held_behind b (readiness x) (calls_down x bs ms) bs place (calls_placed x readiness place bs ms h.1) in
    elim (same_elem m.to x) as (λ t. same_elem m.to x ≡ t → ArePositioned (readiness x) (if t then calls_down x bs ms ++ record { number = b; constructs = m.entry == CONSTRUCT } ∷ [] else calls_down x bs ms) (b ∷ bs) place) [
      | true ↦ λ e. placed_last (readiness x) (calls_down x bs ms) (record { number = b; constructs = m.entry == CONSTRUCT }) (b ∷ bs) place more (rw (like b) refl) (h.0 ∙ ap (λ (y : Elem). place_by (readiness y) (m.entry == CONSTRUCT)) (same_from_test m.to x e))
      | false ↦ λ e. more
    ] refl

stood_last : (readiness : Readiness) (calls : List Call) (c : Call) (place : ℕ → QueuePlace) → stood readiness (calls ++ c ∷ []) place ≡ moved c.number (place_by readiness c.constructs) (stood readiness calls place)
stood_last readiness [] c place = refl
stood_last readiness (d ∷ calls) c place = stood_last readiness calls c (moved d.number (place_by readiness d.constructs) place)

-- sequence numbers after one that is moved stay
others_stay : (readiness : Elem → Readiness) (place : ℕ → QueuePlace) (n : ℕ) (at : QueuePlace) (bs : List ℕ) (ms : List Message) → AllAfter n bs → ArePlacedBy readiness place bs ms → ArePlacedBy readiness (moved n at place) bs ms
others_stay readiness place n at [] [] a h = tt
others_stay readiness place n at [] (m ∷ ms) a h = absurd h
others_stay readiness place n at (b ∷ bs) [] a h = absurd h
others_stay readiness place n at (b ∷ bs) (m ∷ ms) a h = (rw (unlike_too n b a.0) h.0, others_stay readiness place n at bs ms a.1 h.1)

pub stands : (x : Elem) (old new : Elem → Readiness) (place : ℕ → QueuePlace) (bs : List ℕ) (ms : List Message) → ArePlacedBy old place bs ms → Climbs bs → DiffersAt x old new → ArePlacedBy new (stood (new x) (calls_down x bs ms) place) bs ms
stands x old new place [] [] h c d = tt
stands x old new place [] (m ∷ ms) h c d = absurd h
stands x old new place (b ∷ bs) [] h c d = absurd h
stands x old new place (b ∷ bs) (m ∷ ms) h c d =
    let calls = calls_down x bs ms in
    let call : Call = record { number = b; constructs = m.entry == CONSTRUCT } in
    let at = place_by (new x) (m.entry == CONSTRUCT) in
    let apart = all_apart b calls (calls_after x b bs ms c.0) in
    let more = stands x old new place bs ms h.1 c.1 d in
    elim (same_elem m.to x) as (λ t. same_elem m.to x ≡ t → ArePlacedBy new (stood (new x) (if t then calls ++ call ∷ [] else calls) place) (b ∷ bs) (m ∷ ms)) [
      | true ↦ λ e. subst (λ p. ArePlacedBy new p (b ∷ bs) (m ∷ ms)) (sym (stood_last (new x) calls call place)) (
        ap (λ (t : Bool). if t then at else stood (new x) calls place b) (like b) ∙ ap (λ (y : Elem). place_by (new y) (m.entry == CONSTRUCT)) (sym (same_from_test m.to x e)),
        others_stay new (stood (new x) calls place) b at bs ms c.0 more,
      )
      | false ↦ λ e. (
        stood_other (new x) calls place b apart ∙ (h.0 ∙ ap (λ (s : Readiness). place_by s (m.entry == CONSTRUCT)) (sym (d m.to e))),
        more,
      )
    ] refl

few_calls : (x : Elem) (bs : List ℕ) (ms : List Message) → length (calls_down x bs ms) ≤ length bs
few_calls x [] ms = omega arith
few_calls x (b ∷ bs) [] = omega arith
few_calls x (b ∷ bs) (m ∷ ms) = by (same_elem m.to x) (few_calls x bs ms)
  where
    last : (xs : List Call) (c : Call) → length (xs ++ c ∷ []) ≡ length xs + 1
    last [] c = refl
    last (d ∷ xs) c = let more = last xs c in omega (arith, more)

    by : (t : Bool) → length (calls_down x bs ms) ≤ length bs → length (if t then calls_down x bs ms ++ record { number = b; constructs = m.entry == CONSTRUCT } ∷ [] else calls_down x bs ms) ≤ length (b ∷ bs)
    by true h = let one = last (calls_down x bs ms) (record { number = b; constructs = m.entry == CONSTRUCT }) in omega (arith, h, one)
    by false h = omega (arith, h)

pub some_seq_nos : (x : Elem) (bs : List ℕ) (ms : List Message) → 0 < length (calls_down x bs ms) → 0 < length bs
some_seq_nos x bs ms h = let few = few_calls x bs ms in omega (arith, h, few)

-- ---- where elements stand

pub same_itself : (x : Elem) → same_elem x x ≡ true
same_itself x = both (x.array) (x.index)
  where
    both : (n m : ℕ) → ((n == n) && (m == m)) ≡ true
    both n m = grind arith

-- a row that is changed is its element's
pub stands_else : (processors : ℕ) (es fs : List (Elem × Element)) (x : Elem) (e : Element) → risen fs ≡ insert_entry elem_cmp (risen es) x e → DiffersAt x (readiness_by processors es) (readiness_by processors fs)
stands_else processors es fs x e is y other = ap (readiness_of processors y) (ap (λ rows. element_at rows y) is ∙ element_at-insert (risen es) x e y ∙ ap (λ t. cond t e (element_at (risen es) y)) (sym (same_elem-is y x) ∙ other))

pub stands_here : (processors : ℕ) (es fs : List (Elem × Element)) (x : Elem) (e : Element) → risen fs ≡ insert_entry elem_cmp (risen es) x e → readiness_by processors fs x ≡ readiness_of processors x e
stands_here processors es fs x e is = ap (readiness_of processors x) (ap (λ rows. element_at rows x) is ∙ element_at-insert (risen es) x e x ∙ ap (λ t. cond t e (element_at (risen es) x)) (sym (same_elem-is x x) ∙ same_itself x))

-- what is so of all stands is so, once it is of that element's
pub all_stands : (P : Readiness → Type 0) (x : Elem) (old new : Elem → Readiness) → DiffersAt x old new → ((y : Elem) → P (old y)) → P (new x) → (y : Elem) → P (new y)
all_stands P x old new differs all here y = elim (same_elem y x) as (λ t. same_elem y x ≡ t → P (new y)) [
  | true ↦ λ e. subst (λ z. P (new z)) (sym (same_from_test y x e)) here
  | false ↦ λ e. subst P (sym (differs y e)) (all y)
] refl
