-- Entries of different moments, brought to the end of a history.
use Rattle.charmlet_record.specs.Reading.{Kinds}
use Rattle.std.proofs.Common.{◌≡◌, ℕ, zero, suc, ◌+◌, ◌<◌, ◌≤◌, Bool, true, false, cond, List, [], ◌∷◌, ◌++◌, take, length, refl, sym, ap, subst, ◌∙◌, arith, inr}
use Rattle.std.proofs.lemmas.Bool.{le-leb, lt-leb}
use Rattle.std.specs.Prelude.{Option, Some, None, nat_le, if◌then◌else◌, is_some}
use Rattle.std.specs.List.{All}
use Rattle.std.specs.List.Sorted.{IsStrictlySortedBy}
use Rattle.std.specs.BTreeMap.{insert_entry}
use Rattle.std.specs.Map.{keys_of, values_of}
use Rattle.std.specs.Ordering.{eq_by_cmp, is_eq}
use Rattle.std.proofs.lemmas.Cmp.{tied_itself}
use Rattle.std.proofs.lemmas.Map.Views.{tells_apart, All-values-insert_entry}
use Rattle.charmlet_model.specs.declared.names.Elem.{Elem}
use Rattle.charmlet_model.specs.declared.message.Message.{Message}
use Rattle.charmlet_model.specs.declared.state.Record.{Record}
use Rattle.charmlet_model.specs.declared.event.Event.{Event}
use Rattle.charmlet_model.specs.declared.event.Event.TheVariants as events
use Rattle.charmlet_model.specs.declared.reaction.Reaction.{Reaction}
use Rattle.charmlet_model.specs.Fit.{IsKept}
use Rattle.charmlet_model.specs.Names.{elem_cmp}
use Rattle.charmlet_model.specs.World.{World, world, after, performed, delivered, reaction_of, message_among, record_at, record_of, advanced}
use Rattle.charmlet_model.proofs.Maps.{elem_total, elem_exact, rising-insert_entry}
use Rattle.charmlet_model.proofs.Histories.{record_at-insert, manifest-after}
use Rattle.charmlet_model.specs.declared.logged.CatchUpEntry.{CatchUpEntry}
use Rattle.charmlet_recovery.specs.Bases.{reaction, records_after, redelivered, redelivered_all}
use Rattle.charmlet_recovery.specs.Moments.{noted, noted_if, noted_at, deliveries, moment}
use Rattle.charmlet_model.specs.Logging.{effect_between}

-- ---- an advance is seen at its element, and at no other

pub advanced-here : (entries : List (Elem × Record)) (x : Elem) (r : Record) → record_at (insert_entry elem_cmp entries x r) x ≡ r
advanced-here entries x r = record_at-insert entries x r x ∙ ap (λ b. cond b r (record_at entries x)) (ap is_eq (tied_itself elem_total x))

pub advanced-elsewhere : (entries : List (Elem × Record)) (y : Elem) (r : Record) (x : Elem) → eq_by_cmp elem_cmp x y ≡ false →
    record_at (insert_entry elem_cmp entries y r) x ≡ record_at entries x
advanced-elsewhere entries y r x apart = record_at-insert entries y r x ∙ ap (λ b. cond b r (record_at entries x)) apart

-- ---- no element's count of received messages falls

received-performed : (w : World) (m : Message) (o : Option Reaction) (x : Elem) → (record_of w x).received ≤ (record_of (performed w m o) x).received
received-performed w m None x = omega arith
received-performed w m (Some o) x =
    let next = advanced (record_of w m.to) o in
    subst (λ (r : Record). (record_of w x).received ≤ r.received) (sym (record_at-insert w.records m.to next x))
    (elim (eq_by_cmp elem_cmp x m.to) as (λ b. eq_by_cmp elem_cmp x m.to ≡ b → (record_of w x).received ≤ (cond b next (record_of w x)).received) [
      | true ↦ λ same. let here = ap (λ y. (record_of w y).received) (tells_apart elem_exact x m.to same) in omega arith
      | false ↦ λ _. omega arith
    ] refl)

received-delivered : (w : World) (m : Option Message) (x : Elem) → (record_of w x).received ≤ (record_of (delivered w m) x).received
received-delivered w None x = omega arith
received-delivered w (Some m) x = received-performed w m (reaction_of w m) x

pub received-after : (w : World) (e : Event) (x : Elem) → (record_of w x).received ≤ (record_of (after w e) x).received
received-after w (events.Deliver id) x = received-delivered w (message_among id w.pending) x
received-after w (events.Accept client number to entry words) x = omega arith

pub received-world : (w : World) (history : List Event) (x : Elem) → (record_of w x).received ≤ (record_of (world w history) x).received
received-world w [] x = omega arith
received-world w (e ∷ es) x = let one = received-after w e x in let more = received-world (after w e) es x in omega arith

-- ---- each entry is the record at some moment of what is left

abbrev pub AtMoment : World → List Event → Elem → Record → Type 0
AtMoment w es x r = (k : ℕ) × (r ≡ record_of (world w (take k es)) x)

-- where nothing happens to x, its moment is one nearer
nearer : (w : World) (e : Event) (es : List Event) (x : Elem) (r : Record) → record_of w x ≡ record_of (after w e) x → AtMoment w (e ∷ es) x r → AtMoment (after w e) es x r
nearer w e es x r same (zero, is) = (0, is ∙ same)
nearer w e es x r same (suc k, is) = (k, is)

module _ (w : World) (m : Message) (o : Reaction) (es : List Event) (entries : List (Elem × Record)) where
  abbrev next : World
  next = performed w m (Some o)

  abbrev d : CatchUpEntry
  d = record { message = m; received = (record_of w m.to).received + 1; effect = effect_between (record_of w m.to).state o.state }

  -- a delivery changes no other element's entry
  elsewhere : (p : Option Reaction) (b : Bool) (x : Elem) → eq_by_cmp elem_cmp x m.to ≡ false →
      record_at (if b then entries else records_after entries m.to (record_at entries m.to) p) x ≡ record_at entries x
  elsewhere p true x apart = refl
  elsewhere None false x apart = refl
  elsewhere (Some p) false x apart = advanced-elsewhere entries m.to (advanced (record_at entries m.to) p) x apart

  -- the receiver's entry, by whether it has the delivery
  here : reaction_of w m ≡ Some o → (k : ℕ) (e : Event) → after w e ≡ next → record_at entries m.to ≡ record_of (world w (take k (e ∷ es))) m.to →
      AtMoment next es m.to (record_at (redelivered w.manifest entries d) m.to)
  here reacts zero e step is =
      let late : nat_le ((record_of w m.to).received + 1) (record_at entries m.to).received ≡ false =
      lt-leb _ _ (let same = ap (λ (r : Record). r.received) is in omega arith) in
      let outcome : reaction w.manifest (record_at entries m.to) m ≡ Some o = ap (λ r. reaction w.manifest r m) is ∙ reacts in (
        0,
        ap (λ b. record_at (if b then entries else records_after entries m.to (record_at entries m.to) (reaction w.manifest (record_at entries m.to) m)) m.to) late
            ∙ ap (λ p. record_at (records_after entries m.to (record_at entries m.to) p) m.to) outcome
            ∙ advanced-here entries m.to (advanced (record_at entries m.to) o)
            ∙ ap (λ r. advanced r o) is
            ∙ sym (advanced-here w.records m.to (advanced (record_of w m.to) o)),
      )
  here reacts (suc k) e step is =
      let at : record_at entries m.to ≡ record_of (world next (take k es)) m.to = is ∙ ap (λ v. record_of (world v (take k es)) m.to) step in
      let grown = received-world next (take k es) m.to in
      let one = ap (λ (r : Record). r.received) (advanced-here w.records m.to (advanced (record_of w m.to) o)) in
      let done : nat_le ((record_of w m.to).received + 1) (record_at entries m.to).received ≡ true =
      le-leb _ _ (let same = ap (λ (r : Record). r.received) at in omega arith) in
      (k, ap (λ b. record_at (if b then entries else records_after entries m.to (record_at entries m.to) (reaction w.manifest (record_at entries m.to) m)) m.to) done ∙ at)

  each : reaction_of w m ≡ Some o → (e : Event) → after w e ≡ next → (x : Elem) → AtMoment w (e ∷ es) x (record_at entries x) →
      AtMoment w (e ∷ es) m.to (record_at entries m.to) → AtMoment next es x (record_at (redelivered w.manifest entries d) x)
  each reacts e step x mine its =
      elim (eq_by_cmp elem_cmp x m.to) as (λ b. eq_by_cmp elem_cmp x m.to ≡ b → AtMoment next es x (record_at (redelivered w.manifest entries d) x)) [
        | true ↦ λ same.
            subst (λ y. AtMoment next es y (record_at (redelivered w.manifest entries d) y)) (sym (tells_apart elem_exact x m.to same)) (here reacts its.0 e step its.1)
        | false ↦ λ apart.
            let stays : record_of w x ≡ record_of (after w e) x = sym (ap (λ v. record_of v x) step ∙ advanced-elsewhere w.records m.to (advanced (record_of w m.to) o) x apart) in
            let moved = nearer w e es x (record_at entries x) stays mine in
            subst (λ v. AtMoment v es x (record_at (redelivered w.manifest entries d) x)) step
            (subst (AtMoment (after w e) es x) (sym (elsewhere (reaction w.manifest (record_at entries m.to) m) (nat_le d.received (record_at entries m.to).received) x apart)) moved)
      ] refl

-- ---- over an event, and over all of them

step-outcome : (w : World) (m : Message) (o : Option Reaction) (e : Event) (es : List Event) (entries : List (Elem × Record)) → reaction_of w m ≡ o → after w e ≡ performed w m o →
    ((x : Elem) → AtMoment w (e ∷ es) x (record_at entries x)) → (x : Elem) → AtMoment (performed w m o) es x (record_at (redelivered_all w.manifest entries (noted w m o)) x)
step-outcome w m None e es entries reacts step h x =
    subst (λ v. AtMoment v es x (record_at entries x)) step (nearer w e es x (record_at entries x) (ap (λ v. record_of v x) (sym step)) (h x))
step-outcome w m (Some o) e es entries reacts step h x = each w m o es entries reacts e step x (h x) (h m.to)

step-message : (w : World) (m : Option Message) (e : Event) (es : List Event) (entries : List (Elem × Record)) → after w e ≡ delivered w m →
    ((x : Elem) → AtMoment w (e ∷ es) x (record_at entries x)) → (x : Elem) → AtMoment (delivered w m) es x (record_at (redelivered_all w.manifest entries (noted_if w m)) x)
step-message w None e es entries step h x =
    subst (λ v. AtMoment v es x (record_at entries x)) step (nearer w e es x (record_at entries x) (ap (λ v. record_of v x) (sym step)) (h x))
step-message w (Some m) e es entries step h x = step-outcome w m (reaction_of w m) e es entries refl step h x

pub step-event : (w : World) (e : Event) (es : List Event) (entries : List (Elem × Record)) →
    ((x : Elem) → AtMoment w (e ∷ es) x (record_at entries x)) → (x : Elem) → AtMoment (after w e) es x (record_at (redelivered_all w.manifest entries (noted_at w e)) x)
step-event w (events.Accept client number to entry words) es entries h x = nearer w (events.Accept client number to entry words) es x (record_at entries x) refl (h x)
step-event w (events.Deliver id) es entries h x = step-message w (message_among id w.pending) (events.Deliver id) es entries refl h x

pub caught_up-append : (manifest : Kinds) (entries : List (Elem × Record)) (ds more : List CatchUpEntry) →
    redelivered_all manifest entries (ds ++ more) ≡ redelivered_all manifest (redelivered_all manifest entries ds) more
caught_up-append manifest entries [] more = refl
caught_up-append manifest entries (d ∷ ds) more = caught_up-append manifest (redelivered manifest entries d) ds more

ended : (w : World) (x : Elem) (r : Record) → AtMoment w [] x r → r ≡ record_of w x
ended w x r (zero, is) = is
ended w x r (suc k, is) = is

-- the deliveries of a history bring the entries to its end, whatever their moments
pub caught_up-world : (w : World) (es : List Event) (entries : List (Elem × Record)) →
    ((x : Elem) → AtMoment w es x (record_at entries x)) → (x : Elem) → record_at (redelivered_all w.manifest entries (deliveries w es)) x ≡ record_of (world w es) x
caught_up-world w [] entries h x = ended w x (record_at entries x) (h x)
caught_up-world w (e ∷ es) entries h x =
    ap (λ fs. record_at fs x) (caught_up-append w.manifest entries (noted_at w e) (deliveries (after w e) es))
    ∙ ap (λ kinds. record_at (redelivered_all kinds (redelivered_all w.manifest entries (noted_at w e)) (deliveries (after w e) es)) x) (sym (manifest-after w e))
    ∙ caught_up-world (after w e) es (redelivered_all w.manifest entries (noted_at w e)) (step-event w e es entries h) x

-- ---- the entries stay a map

rising-entries_after : (entries : List (Elem × Record)) (x : Elem) (r : Record) (o : Option Reaction) → IsStrictlySortedBy elem_cmp (keys_of entries) → IsStrictlySortedBy elem_cmp (keys_of (records_after entries x r o))
rising-entries_after entries x r None h = h
rising-entries_after entries x r (Some o) h = rising-insert_entry elem_cmp elem_total x (advanced r o) entries h

no_empty-entries_after : (entries : List (Elem × Record)) (x : Elem) (r : Record) (o : Option Reaction) → All IsKept (values_of entries) → All IsKept (values_of (records_after entries x r o))
no_empty-entries_after entries x r None h = h
no_empty-entries_after entries x r (Some o) h = All-values-insert_entry elem_cmp x (advanced r o) IsKept entries h (inr (omega arith))

pub rising-caught_up : (manifest : Kinds) (entries : List (Elem × Record)) (ds : List CatchUpEntry) → IsStrictlySortedBy elem_cmp (keys_of entries) → IsStrictlySortedBy elem_cmp (keys_of (redelivered_all manifest entries ds))
rising-caught_up manifest entries [] h = h
rising-caught_up manifest entries (d ∷ ds) h =
    rising-caught_up manifest (redelivered manifest entries d) ds
    (elim (nat_le d.received (record_at entries d.message.to).received) as (λ b. IsStrictlySortedBy elem_cmp (keys_of (if b then entries else records_after entries d.message.to (record_at entries d.message.to) (reaction manifest (record_at entries d.message.to) d.message)))) [
      | true ↦ h
      | false ↦ rising-entries_after entries d.message.to (record_at entries d.message.to) (reaction manifest (record_at entries d.message.to) d.message) h
    ])

pub no_empty-caught_up : (manifest : Kinds) (entries : List (Elem × Record)) (ds : List CatchUpEntry) → All IsKept (values_of entries) → All IsKept (values_of (redelivered_all manifest entries ds))
no_empty-caught_up manifest entries [] h = h
no_empty-caught_up manifest entries (d ∷ ds) h =
    no_empty-caught_up manifest (redelivered manifest entries d) ds
    (elim (nat_le d.received (record_at entries d.message.to).received) as (λ b. All IsKept (values_of (if b then entries else records_after entries d.message.to (record_at entries d.message.to) (reaction manifest (record_at entries d.message.to) d.message)))) [
      | true ↦ h
      | false ↦ no_empty-entries_after entries d.message.to (record_at entries d.message.to) (reaction manifest (record_at entries d.message.to) d.message) h
    ])

pub moment-below : (x : Elem) (n : ℕ) (w : World) (es : List Event) → moment x n w es ≤ n
moment-below x zero w es = omega arith
moment-below x (suc n) w [] = omega arith
moment-below x (suc n) w (e ∷ es) =
    elim (is_some (record_of w x).state) as (λ b. (if b then suc (moment x n (after w e) es) else 0) ≤ suc n) [
      | true ↦ let less = moment-below x n (after w e) es in omega arith
      | false ↦ omega arith
    ]

pub moment-present : (x : Elem) (n : ℕ) (w : World) (es : List Event) (k : ℕ) → k < moment x n w es → is_some (record_of (world w (take k es)) x).state ≡ true
moment-present x zero w es k h = absurd (omega arith)
moment-present x (suc n) w [] k h = absurd (omega arith)
moment-present x (suc n) w (e ∷ es) zero h =
    elim (is_some (record_of w x).state) as (λ b. is_some (record_of w x).state ≡ b → zero < (if b then suc (moment x n (after w e) es) else 0) → is_some (record_of w x).state ≡ true) [
      | true ↦ λ there _. there
      | false ↦ λ _ below. absurd (omega arith)
    ] refl h
moment-present x (suc n) w (e ∷ es) (suc k) h =
    elim (is_some (record_of w x).state) as (λ b. suc k < (if b then suc (moment x n (after w e) es) else 0) → is_some (record_of (world (after w e) (take k es)) x).state ≡ true) [
      | true ↦ λ below. moment-present x n (after w e) es k (omega arith)
      | false ↦ λ below. absurd (omega arith)
    ] h

pub moment-absent : (x : Elem) (n : ℕ) (w : World) (es : List Event) → moment x n w es < n → moment x n w es < length es → is_some (record_of (world w (take (moment x n w es) es)) x).state ≡ false
moment-absent x zero w es h k = absurd (omega arith)
moment-absent x (suc n) w [] h k = absurd (omega arith)
moment-absent x (suc n) w (e ∷ es) h k =
    elim (is_some (record_of w x).state) as (λ b. is_some (record_of w x).state ≡ b → (let at = if b then suc (moment x n (after w e) es) else 0 in
    at < suc n → at < length (e ∷ es) → is_some (record_of (world w (take at (e ∷ es))) x).state ≡ false)) [
      | true ↦ λ _ early left. moment-absent x n (after w e) es (omega arith) (omega arith)
      | false ↦ λ gone _ _. gone
    ] refl h k
