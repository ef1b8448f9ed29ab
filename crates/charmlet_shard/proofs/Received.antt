-- A message that is delivered again to its receiver at home.
use Rattle.std.proofs.Common.{◌≡◌, ℕ, ◌<◌, ◌==◌, ◌||◌, true, List, length, get_or, refl, sym, ap, subst, ◌∙◌, if◌then◌else◌}
use Rattle.std.specs.Prelude.{Option, Some, None, IfSome, is_some, option_and_then, slice_set}
use Rattle.std.specs.BTreeMap.{is_at}
use Rattle.std.specs.Map.{lookup}
use Rattle.charmlet_model.specs.declared.names.Elem.{Elem}
use Rattle.charmlet_model.specs.declared.kind_version.KindVersion.{KindVersion}
use Rattle.charmlet_model.specs.declared.message.Message.{Message}
use Rattle.charmlet_model.specs.declared.reaction.Reaction.{Reaction}
use Rattle.charmlet_model.specs.declared.state.Record.{Record}
use Rattle.charmlet_model.specs.declared.state.State.{State}
use Rattle.charmlet_model.specs.declared.TheConstants.{CONSTRUCT}
use Rattle.charmlet_model.specs.Core.{home}
use Rattle.charmlet_model.specs.Names.{elem_cmp}
use Rattle.charmlet_model.specs.Own.{advanced_if}
use Rattle.charmlet_model.specs.Reaction.{constructed, react}
use Rattle.charmlet_model.specs.Shelves.{if_there}
use Rattle.charmlet_model.specs.World.{advanced, record_at}
use Rattle.charmlet_model.proofs.Maps.{both_parts}
use Rattle.charmlet_world.specs.declared.element.Element.{Element}
use Rattle.charmlet_recovery.specs.Faults.{takes}
use Rattle.charmlet_shelf.specs.Due.{record_after}
use Rattle.charmlet_shelf.specs.Shelf.{View, with_record}
use Rattle.charmlet_shelf.specs.declared.phase.Phase.TheVariants.{Idle}
use Rattle.charmlet_shard.specs.Home.{AreHome}
use Rattle.charmlet_shard.specs.Receiving.{IsKnownAs, IsReceivedAt, IsSeen, IsSeenRecord, IsSettledAs, due_for, element_on, seen_record}
use Rattle.charmlet_shard.proofs.AtHome.{are_home, number_here, own_here}

-- ---- a receiver that takes the message reacts

takes_it : (r : Record) (entry : ℕ) → takes r entry ≡ true → (is_some r.state || (entry == CONSTRUCT)) ≡ true
takes_it r entry h = (both_parts _ _ (both_parts _ _ h).0).0

pub reacts : (kind_version : KindVersion) (x : Elem) (r : Record) (entry : ℕ) (words : List ℕ) → takes r entry ≡ true → is_some (react kind_version x r.state entry words) ≡ true
reacts kind_version x r entry words h = by r.state (takes_it r entry h)
  where
    by : (o : Option State) → (is_some o || (entry == CONSTRUCT)) ≡ true → is_some (react kind_version x o entry words) ≡ true
    by (Some s) h = refl
    by None h = ap (λ b. is_some (if b then Some (constructed kind_version x words) else None)) h

pub some_of : {A : Type 0} (o : Option A) → is_some o ≡ true → (x : A) × (o ≡ Some x)
some_of None h = absurd (let never : ⊥ = cc in never)
some_of (Some x) h = (x, refl)

-- ---- what is there

by_there : (P : Option Record → Type 0) (r : Record) → ((s : State) → r.state ≡ Some s → P (Some r)) → (r.state ≡ None → P None) → P (if_there r)
by_there P r there absent = either r.state refl
  where
    either : (o : Option State) → r.state ≡ o → P (if_there r)
    either None is = subst P (sym (ap (λ o. if is_some o then Some r else None) is)) (absent is)
    either (Some s) is = subst P (sym (ap (λ o. if is_some o then Some r else None) is)) (there s is)

module _ (n : ℕ) (records : List (Elem × Record)) (shelves : List View) (are : AreHome n records shelves) (p : ℕ) (within : p < length shelves) (shelf : View) (is : shelf ≡ get_or shelves p shelf)
    (kind_version : KindVersion) (x : Elem) (its : home x n ≡ p) (e : Element) (known : IsKnownAs kind_version (record_at records x) e) where
  abbrev r : Record
  r = record_at records x

  own : lookup (is_at (elem_cmp x)) shelf.records ≡ if_there r
  own = own_here shelves p within shelf is n records are x its

  pub seen_is : seen_record shelf.records x e ≡ r
  seen_is =
      let state : option_and_then (λ (v : Record). v.state) (lookup (is_at (elem_cmp x)) shelf.records) ≡ r.state =
      ap (option_and_then (λ (v : Record). v.state)) own ∙ by_there (λ o. option_and_then (λ (v : Record). v.state) o ≡ r.state) r (λ s there. refl) (λ absent. sym absent) in
      λ i. record { state = state i; sent = known.counts.sent i; received = known.counts.received i }

  pub is_seen : IsSeen shelf.records x e kind_version
  is_seen = record {
    there = ap is_some own ∙ by_there (λ o. is_some o ≡ is_some r.state) r (λ s there. sym (ap is_some there)) (λ absent. sym (ap is_some absent)) ∙ sym known.there;
    record_is = subst (λ o. IfSome o (IsSeenRecord kind_version e)) (sym own)
        (by_there (λ o. IfSome o (IsSeenRecord kind_version e)) r (λ s there. (known.counts, sym known.there, known.kind_version_is)) (λ absent. tt));
  }

-- ---- what becomes of it

module _ (n : ℕ) (records : List (Elem × Record)) (shelves : List View) (are : AreHome n records shelves) (p : ℕ) (within : p < length shelves) (shelf : View) (is : shelf ≡ get_or shelves p shelf)
    (kind_version : KindVersion) (m : Message) (its : home m.to n ≡ p) (e : Element) (known : IsKnownAs kind_version (record_at records m.to) e) (can : takes (record_at records m.to) m.entry ≡ true) where
  abbrev before : Record
  before = record_at records m.to

  made : (o : Reaction) × (react kind_version m.to before.state m.entry m.words ≡ Some o)
  made = some_of (react kind_version m.to before.state m.entry m.words) (reacts kind_version m.to before m.entry m.words can)

  after_is : record_after (due_for kind_version shelf.records e m) ≡ advanced before made.0
  after_is =
      ap (λ (v : Record). advanced_if v (react kind_version m.to v.state m.entry m.words)) (seen_is n records shelves are p within shelf is kind_version m.to its e known)
      ∙ ap (advanced_if before) made.1

  pub received_at : (now : View) (element : Element) → shelf.phase ≡ Idle → IsSettledAs shelf (due_for kind_version shelf.records e m) now element → IsReceivedAt n kind_version records m (slice_set shelves p now) element
  received_at now element idle settled =
      let next = advanced before made.0 in
      let on : shelf.number ≡ home m.to n = number_here shelves p within shelf is n records are ∙ sym its in (
        made.0,
        made.1,
        settled.element_is ∙ (λ i. element_on (on i) (after_is i)),
        are_home shelves p within shelf is n records are m.to its next now (ap (λ (v : View). v.number) settled.shelf) (ap (λ (v : View). v.phase) settled.shelf)
            (ap (λ (v : View). v.records) settled.shelf ∙ ap (with_record shelf.records m.to) after_is),
      )
