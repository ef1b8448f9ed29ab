-- What a call makes of the ties between the pending messages, the elements' rows and the index.
use Rattle.std.proofs.Common.{◌≡◌, ℕ, ◌+◌, ◌<◌, ◌≤◌, ◌&&◌, Bool, true, false, List, [], ◌∷◌, ◌++◌, length, refl, sym, ap, subst, ◌∙◌, arith, if◌then◌else◌, slice_get}
use Rattle.std.specs.Prelude.{Option, Some, None, IfSome, ◌==◌, nat_le, not, unwrap_or, is_none, option_map, option_and_then}
use Rattle.std.specs.BTreeMap.{insert_entry}
use Rattle.std.specs.List.{AllByRecursion}
use Rattle.std.proofs.Math.Nat.{mod-lt}
use Rattle.charmlet_model.specs.declared.names.Elem.{Elem}
use Rattle.charmlet_model.specs.declared.names.MsgId.{MsgId}
use Rattle.charmlet_model.specs.declared.message.Message.{Message}
use Rattle.charmlet_model.specs.declared.TheConstants.{CONSTRUCT}
use Rattle.charmlet_model.specs.Core.{home}
use Rattle.charmlet_model.specs.Fit.{AreDistinct}
use Rattle.charmlet_model.specs.Names.{elem_cmp, same_elem}
use Rattle.charmlet_model.proofs.Maps.{same_from_test}
use Rattle.charmlet_model.specs.World.{message_among, without}
use Rattle.charmlet_locate.specs.Locations.{is_processor_count}
use Rattle.charmlet_ready_queue.specs.SeqNos.SeqNos.{AllBefore, Climbs, without_number}
use Rattle.charmlet_ready_queue.proofs.SeqNosLemmas.Rising.{all_append, all_filter, all_weaker, climbs_filter, climbs_last}
use Rattle.charmlet_ready_queue.specs.declared.index.place.QueuePlace.{QueuePlace}
use Rattle.charmlet_ready_queue.specs.declared.index.place.Readiness.{Readiness}
use Rattle.charmlet_ready_queue.specs.declared.index.lists.Lists.{Lists}
use Rattle.charmlet_ready_queue.specs.declared.index.chain.Call.{Call}
use Rattle.charmlet_ready_queue.proofs.IndexLemmas.Standing.{rooms_at_home, rooms_on_same}
use Rattle.charmlet_ready_queue.specs.Index.Index.{AreApart, AreHeld, ArePositioned, HaveRoom, Indexed, IsIndexOf, IsOn, IsPlaced, first_of, holds, is_ready_on, moved, place_by, stood}
use Rattle.charmlet_world.specs.declared.element.Element.{Element}
use Rattle.charmlet_world.specs.Seen.{Seen, element_at, is_deliverable, next_due, oldest, oldest_on, place_or_home_in}
use Rattle.charmlet_world.specs.Standing.{risen}
use Rattle.charmlet_world.specs.Tied.{ArePlacedBy, DiffersAt, Scheduled, IsCalled, IsIndexed, IsTied, seq_as, calls_down, readiness_by, readiness_of}
use Rattle.charmlet_world.specs.Envelopes.{smaller}
use Rattle.charmlet_world.specs.Waiting.{Waiting}
use Rattle.charmlet_world.proofs.Ties.{all_placed, all_stands, seq_holds, seq_placed, calls_apart, calls_placed, comes, first_all, leaves, next_named, oldest_named, placed_as, quiet_said, stands, stands_else, stands_here}

abbrev pub Rows : Type 0
Rows = List (Elem × Element)

-- a home is a processor
pub home_within : (n : ℕ) → is_processor_count n ≡ true → (x : Elem) → home x n < n
home_within n some x = mod-lt (x.array + x.index) (first_part (nat_le 1 n) (nat_le n 64) some refl)
  where
    first_part : (s t : Bool) → (s && t) ≡ true → nat_le 1 n ≡ s → 1 ≤ n
    first_part true t h e = grind arith
    first_part false t h e = cc

-- where an element is that has no place, or one below the processors
pub on_within : (n : ℕ) → is_processor_count n ≡ true → (x : Elem) (e : Element) → IfSome e.place (λ p. p < n) → (readiness_of n x e).on < n
on_within n some x e h = by e.place h
  where
    by : (o : Option ℕ) → IfSome o (λ p. p < n) → unwrap_or o (home x n) < n
    by None h = home_within n some x
    by (Some p) h = h

module _ (p : ℕ) (rows : Rows) (w v : Waiting) (i j : Indexed) where
  -- a message comes
  pub tied_pushed : (m : Message) → IsTied p rows w i → v.seq_nos ≡ w.seq_nos ++ i.next ∷ [] → v.messages ≡ w.messages ++ m ∷ [] → v.next ≡ i.next + 1
      → ((seq_nos : List ℕ) (place : ℕ → QueuePlace) → IsIndexOf seq_nos place i.lists → Climbs seq_nos → AllBefore i.next seq_nos → IsIndexOf (seq_nos ++ i.next ∷ []) (moved i.next (place_by (readiness_by p rows m.to) (m.entry == CONSTRUCT)) place) j.lists)
      → length j.lists ≡ length i.lists → j.next ≡ i.next + 1 → j.headroom + 1 ≡ i.headroom → IsTied p rows v j
  tied_pushed m h seq_nos messages next index len numbers room =
      let below : AllBefore i.next w.seq_nos = all_weaker (λ n. n < w.next) (λ n. n < i.next) (λ n less. omega (arith, less, h.next)) w.seq_nos h.below in
      let at : QueuePlace = place_by (readiness_by p rows m.to) (m.entry == CONSTRUCT) in
      record {
        some_processors = h.some_processors;
        within = h.within;
        climbs = subst Climbs (sym seq_nos) (climbs_last w.seq_nos i.next h.climbs below);
        next = omega (arith, next, numbers);
        opened = λ some. len ∙ h.opened (omega (arith, room));
        few = let was = h.few in omega (arith, len, was);
        place = moved i.next at h.place;
        are = subst (λ (ms : List Message). ArePlacedBy (readiness_by p rows) (moved i.next at h.place) v.seq_nos ms) (sym messages) (subst (λ bs. ArePlacedBy (readiness_by p rows) (moved i.next at h.place) bs (w.messages ++ m ∷ [])) (sym seq_nos) (comes (readiness_by p rows) h.place w.seq_nos w.messages i.next m h.are below));
        index = subst (λ bs. IsIndexOf bs (moved i.next at h.place) j.lists) (sym seq_nos) (index w.seq_nos h.place h.index h.climbs below);
        below = subst (λ n. AllBefore n v.seq_nos) (sym next) (subst (AllBefore (i.next + 1)) (sym seq_nos) (all_append (λ n. n < i.next + 1) w.seq_nos (i.next ∷ []) (all_weaker (λ n. n < i.next) (λ n. n < i.next + 1) (λ n less. omega (arith, less)) w.seq_nos below) (omega arith, tt)));
      }

  -- a message leaves
  pub tied_left : (n : ℕ) (m : Message) → IsTied p rows w i → AreDistinct w.messages → seq_as n w.seq_nos w.messages ≡ Some m → v.seq_nos ≡ without_number n w.seq_nos → v.messages ≡ without m.id w.messages → v.next ≡ w.next
      → ((seq_nos : List ℕ) (place : ℕ → QueuePlace) → IsIndexOf seq_nos place i.lists → Climbs seq_nos → holds n seq_nos ≡ true → place n ≡ place_by (readiness_by p rows m.to) (m.entry == CONSTRUCT) → IsIndexOf (without_number n seq_nos) place j.lists)
      → length j.lists ≡ length i.lists → j.next ≡ i.next → j.headroom ≡ i.headroom → IsTied p rows v j
  tied_left n m h distinct is seq_nos messages next index len numbers room =
      let some : 0 < length w.seq_nos = held_some n w.seq_nos (seq_holds n w.seq_nos w.messages m is) in
      record {
        some_processors = h.some_processors;
        within = h.within;
        climbs = subst Climbs (sym seq_nos) (climbs_filter (λ k. not_it k) w.seq_nos h.climbs);
        next = let was = h.next in omega (arith, next, numbers, was);
        opened = λ _. len ∙ h.opened (omega (arith, some));
        few = let was = h.few in omega (arith, len, was);
        place = h.place;
        are = subst (λ (ms : List Message). ArePlacedBy (readiness_by p rows) h.place v.seq_nos ms) (sym messages) (subst (λ bs. ArePlacedBy (readiness_by p rows) h.place bs (without m.id w.messages)) (sym seq_nos) (leaves (readiness_by p rows) h.place w.seq_nos w.messages n m h.are h.climbs distinct is));
        index = subst (λ bs. IsIndexOf bs h.place j.lists) (sym seq_nos) (index w.seq_nos h.place h.index h.climbs (seq_holds n w.seq_nos w.messages m is) (seq_placed (readiness_by p rows) h.place n w.seq_nos w.messages m h.are is));
        below = subst (λ k. AllBefore k v.seq_nos) (sym next) (subst (AllBefore w.next) (sym seq_nos) (all_filter (λ k. k < w.next) (λ k. not_it k) w.seq_nos h.below));
      }
    where
      not_it : ℕ → Bool
      not_it k = not (k == n)

      held_some : (n : ℕ) (bs : List ℕ) → holds n bs ≡ true → 0 < length bs
      held_some n [] held = cc
      held_some n (b ∷ bs) held = omega arith

  -- room is made
  pub tied_room : IsTied p rows w i → v.seq_nos ≡ w.seq_nos → v.messages ≡ w.messages → v.next ≡ w.next
      → ((seq_nos : List ℕ) (place : ℕ → QueuePlace) → IsIndexOf seq_nos place i.lists → IsIndexOf seq_nos place j.lists)
      → length j.lists ≡ p → j.next ≡ i.next → IsTied p rows v j
  tied_room h seq_nos messages next index len numbers = record {
    some_processors = h.some_processors;
    within = h.within;
    climbs = subst Climbs (sym seq_nos) h.climbs;
    next = let was = h.next in omega (arith, next, numbers, was);
    opened = λ _. len;
    few = omega (arith, len);
    place = h.place;
    are = subst (λ (ms : List Message). ArePlacedBy (readiness_by p rows) h.place v.seq_nos ms) (sym messages) (subst (λ bs. ArePlacedBy (readiness_by p rows) h.place bs w.messages) (sym seq_nos) h.are);
    index = subst (λ bs. IsIndexOf bs h.place j.lists) (sym seq_nos) (index w.seq_nos h.place h.index);
    below = subst (λ k. AllBefore k v.seq_nos) (sym next) (subst (AllBefore w.next) (sym seq_nos) h.below);
  }

-- an element stands otherwise
pub tied_otherwise : (p : ℕ) (rows fs : Rows) (w : Waiting) (i j : Indexed) (x : Elem) (e : Element) → IsTied p rows w i → risen fs ≡ insert_entry elem_cmp (risen rows) x e → (readiness_of p x e).on < p
    → IsIndexed (readiness_by p fs) w.seq_nos w.messages j.lists → length j.lists ≡ length i.lists → j.next ≡ i.next → j.headroom ≡ i.headroom → IsTied p fs w j
tied_otherwise p rows fs w i j x e h is on indexed len numbers room = record {
  some_processors = h.some_processors;
  within = all_stands (λ (s : Readiness). s.on < p) x (readiness_by p rows) (readiness_by p fs) (stands_else p rows fs x e is) h.within (subst (λ (s : Readiness). s.on < p) (sym (stands_here p rows fs x e is)) on);
  climbs = h.climbs;
  next = let was = h.next in omega (arith, numbers, was);
  opened = λ some. len ∙ h.opened (omega (arith, room, some));
  few = let was = h.few in omega (arith, len, was);
  place = indexed.0;
  are = indexed.1;
  index = indexed.2;
  below = h.below;
}

-- rows that say the same of each element
pub tied_same : (p : ℕ) (rows fs : Rows) (w : Waiting) (i : Indexed) → ((x : Elem) → element_at (risen fs) x ≡ element_at (risen rows) x) → IsTied p rows w i → IsTied p fs w i
tied_same p rows fs w i same h = record {
  some_processors = h.some_processors;
  within = λ x. subst (λ (s : Readiness). s.on < p) (sym (ap (readiness_of p x) (same x))) (h.within x);
  climbs = h.climbs;
  next = h.next;
  opened = h.opened;
  few = h.few;
  place = h.place;
  are = placed_as (readiness_by p rows) (readiness_by p fs) h.place w.seq_nos w.messages (λ x. ap (readiness_of p x) (sym (same x))) h.are;
  index = h.index;
  below = h.below;
}

-- the index has the sequence numbers where the elements stand
pub tied_called : (p : ℕ) (rows : Rows) (w : Waiting) (i : Indexed) (x : Elem) (s : Readiness) → IsTied p rows w i → readiness_by p rows x ≡ s → IsCalled x s w.seq_nos w.messages i.lists
tied_called p rows w i x s h is = (h.place, readiness_by p rows, h.are, h.index, h.climbs, is)

-- ---- an element that stands otherwise

module _ (x : Elem) (old new : Readiness) (bs : List ℕ) (ms : List Message) (lists : List Lists) where
  -- it stands as before
  pub indexed_same : new ≡ old → (place : ℕ → QueuePlace) (was now : Elem → Readiness) → ArePlacedBy was place bs ms → IsIndexOf bs place lists → Climbs bs → was x ≡ old → now x ≡ new → DiffersAt x was now → IsIndexed now bs ms lists
  indexed_same same place was now are index climbs before after differs = (place, placed_as was now place bs ms each are, index)
    where
      each : (y : Elem) → was y ≡ now y
      each y = elim (same_elem y x) as (λ t. same_elem y x ≡ t → was y ≡ now y) [
        | true ↦ λ e. ap was (same_from_test y x e) ∙ (before ∙ (sym same ∙ (sym after ∙ ap now (sym (same_from_test y x e)))))
        | false ↦ λ e. sym (differs y e)
      ] refl

  -- it has no messages
  pub indexed_none : length (calls_down x bs ms) ≡ 0 → (place : ℕ → QueuePlace) (was now : Elem → Readiness) → ArePlacedBy was place bs ms → IsIndexOf bs place lists → Climbs bs → was x ≡ old → now x ≡ new → DiffersAt x was now → IsIndexed now bs ms lists
  indexed_none none place was now are index climbs before after differs =
      (place, subst (λ calls. ArePlacedBy now (stood (now x) calls place) bs ms) (empty (calls_down x bs ms) none) (stands x was now place bs ms are climbs differs), index)
    where
      empty : (calls : List Call) → length calls ≡ 0 → calls ≡ []
      empty [] h = refl
      empty (c ∷ calls) h = cc

  module _ (calls : List Call) (are_calls : calls ≡ calls_down x bs ms) where
    pub called_apart : IsCalled x old bs ms lists → AreApart calls
    called_apart h = subst AreApart (sym are_calls) (calls_apart x bs ms h.4)

    pub called_held : IsCalled x old bs ms lists → AreHeld old calls lists
    called_held h = (bs, h.0, h.3, h.4, subst (λ (s : Readiness). ArePositioned s calls bs h.0) h.5 (subst (λ cs. ArePositioned (h.1 x) cs bs h.0) (sym are_calls) (calls_placed x h.1 h.0 bs ms h.2)))

    -- its sequence numbers are moved
    pub indexed_moved : (moveds : List Lists) → ((seq_nos : List ℕ) (place : ℕ → QueuePlace) → IsIndexOf seq_nos place lists → Climbs seq_nos → ArePositioned old calls seq_nos place → IsIndexOf seq_nos (stood new calls place) moveds)
        → (place : ℕ → QueuePlace) (was now : Elem → Readiness) → ArePlacedBy was place bs ms → IsIndexOf bs place lists → Climbs bs → was x ≡ old → now x ≡ new → DiffersAt x was now → IsIndexed now bs ms moveds
    indexed_moved moveds moves place was now are index climbs before after differs =
        let placed : ArePositioned old calls bs place = subst (λ (s : Readiness). ArePositioned s calls bs place) before (subst (λ cs. ArePositioned (was x) cs bs place) (sym are_calls) (calls_placed x was place bs ms are)) in
        let readiness : ArePlacedBy now (stood new calls place) bs ms = subst (λ (s : Readiness). ArePlacedBy now (stood s calls place) bs ms) after (subst (λ cs. ArePlacedBy now (stood (now x) cs place) bs ms) (sym are_calls) (stands x was now place bs ms are climbs differs)) in
        (stood new calls place, readiness, moves bs place index climbs placed)

-- ---- what is found

-- what is seen of each element is how it stands
seen_as : (k : Seen) (p : ℕ) (rows : Rows) → k.processors ≡ p → k.elements ≡ risen rows → (x : Elem) → readiness_by p rows x ≡ readiness_of k.processors x (element_at k.elements x)
seen_as k p rows processors elements x = λ i. readiness_of (sym processors i) x (element_at (sym elements i) x)

-- each sequence number is on a processor that has lists
pub seq_nos_in : (p : ℕ) (rows : Rows) (w : Waiting) (i : Indexed) (h : IsTied p rows w i) → AllByRecursion (λ n. (h.place n).on < length i.lists) w.seq_nos
seq_nos_in p rows w i h = by w.seq_nos refl (all_placed (λ (a : QueuePlace). a.on < p) (readiness_by p rows) h.place w.seq_nos w.messages (λ x t. h.within x) h.are)
  where
    by : (bs : List ℕ) → w.seq_nos ≡ bs → AllByRecursion (λ n. (h.place n).on < p) bs → AllByRecursion (λ n. (h.place n).on < length i.lists) bs
    by [] e all = tt
    by (b ∷ bs) e all =
        let len : length i.lists ≡ p = h.opened (let some : length w.seq_nos ≡ length (b ∷ bs) = ap length e in omega (arith, some)) in
        subst (λ n. AllByRecursion (λ b. (h.place b).on < n) (b ∷ bs)) (sym len) all

-- the processor of one that is found is one
pub next_within : (p : ℕ) (rows : Rows) (w : Waiting) (i : Indexed) (h : IsTied p rows w i) (r : Option (ℕ × ℕ)) → option_map (λ (e : ℕ × ℕ). e.1) r ≡ first_of (λ n. (h.place n).is_ready) w.seq_nos → IsPlaced h.place r → IfSome r (λ e. e.0 < p)
next_within p rows w i h None first placed = tt
next_within p rows w i h (Some e) first placed = subst (λ n. n < p) placed (first_all (λ n. (h.place n).on < p) (λ n. (h.place n).is_ready) w.seq_nos e.1 (all_placed (λ (a : QueuePlace). a.on < p) (readiness_by p rows) h.place w.seq_nos w.messages (λ x t. h.within x) h.are) (sym first))

pub few_processors : (p : ℕ) → is_processor_count p ≡ true → p ≤ 64
few_processors p some = second_part (nat_le 1 p) (nat_le p 64) some refl
  where
    second_part : (s t : Bool) → (s && t) ≡ true → nat_le p 64 ≡ t → p ≤ 64
    second_part true true h e = grind arith
    second_part true false h e = cc
    second_part false t h e = cc

module _ (k : Seen) (p : ℕ) (rows : Rows) (w : Waiting) (i : Indexed) (h : IsTied p rows w i) (processors : k.processors ≡ p) (elements : k.elements ≡ risen rows) where
  abbrev seen_readiness : Elem → Readiness
  seen_readiness x = readiness_of k.processors x (element_at k.elements x)

  pub seen_placed : ArePlacedBy seen_readiness h.place w.seq_nos w.messages
  seen_placed = placed_as (readiness_by p rows) seen_readiness h.place w.seq_nos w.messages (seen_as k p rows processors elements) h.are

  -- the oldest on a processor
  oldest_found : (on : ℕ) (r : Option ℕ) (q : Option MsgId) → r ≡ first_of (λ n. is_ready_on (h.place n) on) w.seq_nos → q ≡ option_and_then (λ n. option_map (λ (m : Message). m.id) (seq_as n w.seq_nos w.messages)) r → q ≡ oldest_on k on w.messages
  oldest_found on r q first found = found ∙ (ap (option_and_then (λ n. option_map (λ (m : Message). m.id) (seq_as n w.seq_nos w.messages))) first ∙ oldest_named k h.place on w.seq_nos w.messages seen_placed h.climbs)

  next_found : (r : Option (ℕ × ℕ)) → option_map (λ (e : ℕ × ℕ). e.1) r ≡ first_of (λ n. (h.place n).is_ready) w.seq_nos → IsPlaced h.place r → option_and_then {U = ℕ × MsgId} (λ (e : ℕ × ℕ). option_map {U = ℕ × MsgId} (λ (m : Message). (e.0, m.id)) (seq_as e.1 w.seq_nos w.messages)) r ≡ next_due k w.messages
  next_found r first placed = next_named k h.place r w.seq_nos w.messages seen_placed h.climbs first placed

  pub next_none : (r : Option (ℕ × ℕ)) → r ≡ None → option_map (λ (e : ℕ × ℕ). e.1) r ≡ first_of (λ n. (h.place n).is_ready) w.seq_nos → IsPlaced h.place r → None ≡ next_due k w.messages
  next_none None is first placed = next_found None first placed
  next_none (Some e) is first placed = cc

  pub next_some : (r : Option (ℕ × ℕ)) (e : ℕ × ℕ) (q : Option (ℕ × MsgId)) → r ≡ Some e → option_map (λ (e : ℕ × ℕ). e.1) r ≡ first_of (λ n. (h.place n).is_ready) w.seq_nos → IsPlaced h.place r → q ≡ option_map {U = ℕ × MsgId} (λ (m : Message). (e.0, m.id)) (seq_as e.1 w.seq_nos w.messages) → q ≡ next_due k w.messages
  next_some None e q is first placed found = cc
  next_some (Some f) e q is first placed found =
      let same : f ≡ e = cc in
      found ∙ (ap (λ (d : ℕ × ℕ). option_map {U = ℕ × MsgId} (λ (m : Message). (d.0, m.id)) (seq_as d.1 w.seq_nos w.messages)) (sym same) ∙ next_found (Some f) first placed)

  pub oldest_none : (on : ℕ) (r : Option ℕ) → r ≡ None → r ≡ first_of (λ n. is_ready_on (h.place n) on) w.seq_nos → None ≡ oldest_on k on w.messages
  oldest_none on None is first = oldest_found on None None first refl
  oldest_none on (Some n) is first = cc

  pub oldest_some : (on : ℕ) (r : Option ℕ) (n : ℕ) (q : Option MsgId) → r ≡ Some n → r ≡ first_of (λ n. is_ready_on (h.place n) on) w.seq_nos → q ≡ option_map (λ (m : Message). m.id) (seq_as n w.seq_nos w.messages) → q ≡ oldest_on k on w.messages
  oldest_some on None n q is first found = cc
  oldest_some on (Some m) n q is first found =
      let same : m ≡ n = cc in
      oldest_found on (Some m) q first (found ∙ ap (λ b. option_map (λ (l : Message). l.id) (seq_as b w.seq_nos w.messages)) (sym same))

  -- with no messages there is none
  pub empty_on : (on : ℕ) → length w.messages ≡ 0 → oldest_on k on w.messages ≡ None
  empty_on on none = by w.messages none
    where
      by : (ms : List Message) → length ms ≡ 0 → oldest_on k on ms ≡ None
      by [] e = refl
      by (m ∷ ms) e = cc

  pub quiet_found : (b : Bool) → b ≡ is_none (first_of (λ n. (h.place n).is_ready) w.seq_nos) → b ≡ is_none (oldest k w.messages)
  quiet_found b is = is ∙ quiet_said k h.place w.seq_nos w.messages seen_placed

  -- on a processor that there isn't, there is none
  pub none_on : (on : ℕ) → p ≤ on → oldest_on k on w.messages ≡ None
  none_on on past = by w.messages
    where
      unlike : (a : ℕ) → a < p → (a == on) ≡ false
      unlike a less = grind arith

      by : (ms : List Message) → oldest_on k on ms ≡ None
      by [] = refl
      by (m ∷ ms) =
          let less : place_or_home_in k m.to < p = subst (λ (s : Readiness). s.on < p) (seen_as k p rows processors elements m.to) (h.within m.to) in
          rw (unlike (place_or_home_in k m.to) less) (by ms)

-- ---- a first call

empty : {X : Type 0} (xs : List X) → (0 < length xs → ⊥) → xs ≡ []
empty [] h = refl
empty (x ∷ xs) h = absurd (h (omega arith))

no_list : (X : Type 0) (lists : List Lists) → lists ≡ [] → (q : ℕ) (l : Lists) → slice_get lists q ≡ Some l → X
no_list X lists none q l at = absurd (never (subst (λ ls. slice_get ls q ≡ Some l) none at))
  where
    never : slice_get [] q ≡ Some l → ⊥
    never h = cc

pub tied_new : (p : ℕ) (rows : Rows) (w : Waiting) (i : Indexed) → is_processor_count p ≡ true → ((x : Elem) → IfSome (element_at (risen rows) x).place (λ q. q < p))
    → w.seq_nos ≡ [] → w.messages ≡ [] → w.next ≡ 0 → i.lists ≡ [] → i.headroom ≡ 0 → i.next ≡ 0 → IsTied p rows w i
tied_new p rows w i some places seq_nos messages next lists room numbers =
    let place : ℕ → QueuePlace = λ n. record { on = 0; home = 0; is_ready = false } in
    let none = ap length seq_nos in
    record {
      some_processors = some;
      within = λ x. on_within p some x (element_at (risen rows) x) (places x);
      climbs = subst Climbs (sym seq_nos) tt;
      next = omega (arith, next, numbers);
      opened = λ less. absurd (omega (arith, none, room, less));
      few = let no = ap length lists in omega (arith, no);
      place = place;
      are = subst (λ (ms : List Message). ArePlacedBy (readiness_by p rows) place w.seq_nos ms) (sym messages) (subst (λ bs. ArePlacedBy (readiness_by p rows) place bs []) (sym seq_nos) tt);
      index = λ q l at. no_list (IsOn w.seq_nos place q l) i.lists lists q l at;
      below = subst (AllBefore w.next) (sym seq_nos) tt;
    }

-- the lists are opened
pub tied_opened : (p : ℕ) (rows : Rows) (w : Waiting) (i j : Indexed) → IsTied p rows w i → (length i.lists ≡ p → j ≡ i) → ((place : ℕ → QueuePlace) → IsIndexOf [] place i.lists → IsIndexOf [] place j.lists) → j.next ≡ i.next → length j.lists ≡ p → IsTied p rows w j
tied_opened p rows w i j h same index next len = by (length i.lists == p) refl
  where
    by : (b : Bool) → (length i.lists == p) ≡ b → IsTied p rows w j
    by true e = subst (IsTied p rows w) (sym (same (grind arith))) h
    by false e =
        let none : w.seq_nos ≡ [] = empty w.seq_nos (λ some. let is : length i.lists ≡ p = h.opened (omega (arith, some)) in grind arith) in
        record {
          some_processors = h.some_processors;
          within = h.within;
          climbs = h.climbs;
          next = let was = h.next in omega (arith, next, was);
          opened = λ _. len;
          few = omega (arith, len);
          place = h.place;
          are = h.are;
          index = subst (λ bs. IsIndexOf bs h.place j.lists) (sym none) (index h.place (subst (λ bs. IsIndexOf bs h.place i.lists) none h.index));
          below = h.below;
        }

-- the index keeps the sequence numbers
pub tied_kept : (p : ℕ) (rows : Rows) (w : Waiting) (i j : Indexed) → IsTied p rows w i → ((place : ℕ → QueuePlace) → IsIndexOf w.seq_nos place i.lists → IsIndexOf w.seq_nos place j.lists) → length j.lists ≡ length i.lists → j.next ≡ i.next → j.headroom ≡ i.headroom → IsTied p rows w j
tied_kept p rows w i j h index len next room = record {
  some_processors = h.some_processors;
  within = h.within;
  climbs = h.climbs;
  next = let was = h.next in omega (arith, next, was);
  opened = λ some. len ∙ h.opened (omega (arith, room, some));
  few = let was = h.few in omega (arith, len, was);
  place = h.place;
  are = h.are;
  index = index h.place h.index;
  below = h.below;
}

-- where a message is, the lists are open
pub tied_some : (p : ℕ) (rows : Rows) (w : Waiting) (i : Indexed) (n : ℕ) (m : Message) → IsTied p rows w i → seq_as n w.seq_nos w.messages ≡ Some m → length i.lists ≡ p
tied_some p rows w i n m h is = h.opened (let some = held_some w.seq_nos (seq_holds n w.seq_nos w.messages m is) in omega (arith, some))
  where
    held_some : (bs : List ℕ) → holds n bs ≡ true → 0 < length bs
    held_some [] held = cc
    held_some (b ∷ bs) held = omega arith

-- ---- what is kept, and what is in the fields

module _ (d v : Scheduled) (same : v ≡ d) (id : MsgId) (m : Message) (is : Some m ≡ message_among id v.pending) (P : Scheduled → Message → Type 0) where
  pub from_given : IfSome (message_among id d.pending) (P d) → P v m
  from_given p = subst (λ o. IfSome o (P v)) (sym is) (subst (λ (d : Scheduled). IfSome (message_among id d.pending) (P d)) (sym same) p)

-- ---- room

pub smaller_second : (m n : ℕ) → smaller m n ≤ n
smaller_second m n = elim (nat_le m n) as (λ b. nat_le m n ≡ b → (if b then m else n) ≤ n) [
  | true ↦ λ e. let le : m ≤ n = grind arith in omega (arith, le)
  | false ↦ λ e. omega arith
] refl

-- ---- one delivery

-- an element that is delivered to stays on its processor, or comes home
pub delivered_within : (p : ℕ) → is_processor_count p ≡ true → (x : Elem) (f e : Element) (b : Bool) → (readiness_of p x f).on < p → e.place ≡ (if b then None else Some (unwrap_or f.place (home x p))) → (readiness_of p x e).on < p
delivered_within p some x f e b was is = subst (λ o. unwrap_or o (home x p) < p) (sym is) (by b)
  where
    by : (b : Bool) → unwrap_or (if b then None else Some (unwrap_or f.place (home x p))) (home x p) < p
    by true = home_within p some x
    by false = was

pub delivered_rooms : (headroom : ℕ) (p : ℕ) (x : Elem) (f e : Element) (b : Bool) (n : ℕ) (lists : List Lists) → e.place ≡ (if b then None else Some (unwrap_or f.place (home x p))) → HaveRoom headroom (readiness_of p x f) (readiness_of p x e) n lists
delivered_rooms headroom p x f e b n lists is = by b is
  where
    by : (b : Bool) → e.place ≡ (if b then None else Some (unwrap_or f.place (home x p))) → HaveRoom headroom (readiness_of p x f) (readiness_of p x e) n lists
    by true is = rooms_at_home headroom (readiness_of p x f) (readiness_of p x e) n lists refl (ap (λ o. unwrap_or o (home x p)) is)
    by false is = rooms_on_same headroom (readiness_of p x f) (readiness_of p x e) n lists (sym (ap (λ o. unwrap_or o (home x p)) is)) refl

-- the oldest of all is the one that is due next
pub oldest_is : (k : Seen) (ms : List Message) → option_map (λ (e : ℕ × MsgId). e.1) (next_due k ms) ≡ oldest k ms
oldest_is k [] = refl
oldest_is k (m ∷ ms) =
    let more = oldest_is k ms in
    elim (is_deliverable k m) as (λ b. option_map (λ (e : ℕ × MsgId). e.1) (if b then Some (place_or_home_in k m.to, m.id) else next_due k ms) ≡ (if b then Some m.id else oldest k ms)) [
      | true ↦ refl
      | false ↦ more
    ]
