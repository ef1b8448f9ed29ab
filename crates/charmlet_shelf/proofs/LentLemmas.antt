-- Deliveries of messages that are only lent, to residents.
use Rattle.std.proofs.Common.{◌≡◌, ℕ, ◌+◌, Bool, true, false, cond, List, refl, sym, ap, subst, ◌∙◌, arith}
use Rattle.std.specs.Prelude.{Option, Some, None, IfSome, IsSome, is_none, is_some, not}
use Rattle.std.specs.BTreeMap.{is_at}
use Rattle.std.specs.Map.{remove_entry, set_value}
use Rattle.std.proofs.lemmas.Cmp.{eq_by_cmp_equiv}
use Rattle.std.proofs.lemmas.Map.{lookup-set_value}
use Rattle.charmlet_model.specs.declared.kind.Kind.{Kind}
use Rattle.charmlet_model.specs.declared.message.Message.{Message}
use Rattle.charmlet_model.specs.declared.names.Elem.{Elem}
use Rattle.charmlet_model.specs.declared.reaction.Reaction.{Reaction}
use Rattle.charmlet_model.specs.declared.state.Record.{Record}
use Rattle.charmlet_model.specs.declared.state.Resident.{Resident}
use Rattle.charmlet_model.specs.declared.state.State.{State}
use Rattle.charmlet_model.specs.Names.{elem_cmp}
use Rattle.charmlet_model.specs.Own.{advanced_if}
use Rattle.charmlet_model.specs.Reaction.{kind_version_of}
use Rattle.charmlet_model.specs.Shelves.{record_in, records_of, there_in}
use Rattle.charmlet_model.specs.World.{advanced}
use Rattle.charmlet_model.proofs.Maps.{elem_total, tied_elem}
use Rattle.charmlet_chare.specs.declared.output.Output.{Output}
use Rattle.charmlet_shelf.specs.Count.{came_out}
use Rattle.charmlet_shelf.specs.Due.{Due, reaction_in, record_after}
use Rattle.charmlet_shelf.specs.Lending.{Advances, IsAdvanced, IsCarriedOut}
use Rattle.charmlet_shelf.specs.Receiving.{Becomes}
use Rattle.charmlet_shelf.specs.Shelf.{Holds, IsDueAt, IsReceiver, before_due, with_record}
use Rattle.charmlet_shelf.proofs.CountsLemmas.{counts_settled}
use Rattle.charmlet_shelf.proofs.Holding.{before_is, before_stays, due_here, holds_written, receiver_after, rising_written, written}
use Rattle.charmlet_shelf.proofs.Records.{Rising, at, rising_shown, shown_removed, shown_written, written_over}

-- what lives on shows the state that the reaction left
lives_on : (o : Option State) (s : State) → IfSome o (λ t. s ≡ t) → is_none o ≡ false → Some s ≡ o
lives_on None s h there = absurd (let never : ⊥ = cc in never)
lives_on (Some t) s h there = ap Some h

not_some : (o : Option State) → is_none o ≡ true → is_some o ≡ false
not_some None h = refl
not_some (Some s) h = cc

pub not_true : (b : Bool) → not b ≡ true → b ≡ false
not_true true h = absurd (let never : ⊥ = cc in never)
not_true false h = refl

pub not_false : (b : Bool) → not b ≡ false → b ≡ true
not_false true h = refl
not_false false h = absurd (let never : ⊥ = cc in never)

-- what is written at an element's place is found there
pub set_here : {C : Type 0} (es : List (Elem × Resident C)) (x : Elem) (old new : Resident C) → at es x ≡ Some old → at (set_value (is_at (elem_cmp x)) es new) x ≡ Some new
set_here es x old new here =
    let laws = eq_by_cmp_equiv elem_total in
    lookup-set_value laws (is_at (elem_cmp x)) (λ a b h. laws.congr x a b h) x new es (subst IsSome (sym here) refl)
    ∙ ap (λ b. cond b (Some new) (at es x)) (tied_elem x)

-- a resident keeps its kind version
pub same_kind_version : {C : Type 0} (state : C → State) (old new : Resident C) (to : Elem) (entry : ℕ) (words : List ℕ) (output : Output) → Advances state old to entry words output new →
    kind_version_of (state new.object) ≡ kind_version_of (state old.object)
same_kind_version state old new to entry words output makes = makes.2.kind_version

module _ {C : Type 0} (state : C → State) (es : List (Elem × Resident C)) (rising : Rising es) (m : Message) (old new : Resident C) (here : at es m.to ≡ Some old)
    (output : Output) (makes : Advances state old m.to m.entry m.words output new) where
  abbrev pub its_due : Due
  its_due = record { message = m; kind_version = kind_version_of (state old.object); receiver = record_in state old }

  abbrev r : Reaction
  r = makes.0

  its_way : IsAdvanced state old r output new
  its_way = makes.2

  pub due_is : IsDueAt (records_of state es) m its_due
  due_is = (due_here state es m old here its_due refl).0

  after_is : record_after its_due ≡ advanced (record_in state old) r
  after_is = ap (advanced_if its_due.receiver) makes.1

  destroyed_is : output.is_destroyed ≡ is_none r.state
  destroyed_is = ap (λ (o : Output). o.is_destroyed) its_way.output_is

  gone_after : is_none (record_after its_due).state ≡ output.is_destroyed
  gone_after = ap (λ (a : Record). is_none a.state) after_is ∙ sym destroyed_is

  -- ---- once it has reacted, and isn't counted yet

  abbrev between : Resident C
  between = record { object = new.object; sent = old.sent; received = old.received }

  receiver_old : IsReceiver state its_due its_due.receiver.state old
  receiver_old = record { kind_version = refl; before = refl; state = refl; sent = refl; received = refl }

  becomes : Becomes (reaction_in its_due) output (state new.object)
  becomes = (r, makes.1, its_way.output_is, its_way.state)

  abbrev es_between : List (Elem × Resident C)
  es_between = written state es its_due old here between

  holds : Holds state es_between its_due (record_after its_due).state
  holds = holds_written state es its_due old here between (record_after its_due).state (receiver_after state es its_due old here between output receiver_old its_way.kind_version refl refl becomes)

  before_same : before_due (records_of state es_between) its_due ≡ records_of state es
  before_same = before_stays state es its_due old here between rising ∙ sym (before_is state es its_due old here rising receiver_old)

  -- ---- once it is counted

  module _ (out : Option C) (after : List (Elem × Record)) (is : after ≡ with_record (records_of state es) m.to (record_after its_due))
      (gone : is_some out ≡ output.is_destroyed) (kinds : IfSome out (λ object. kind_version_of (state object) ≡ its_due.kind_version)) where
    counted : (kind : Kind) → there_in (records_of state es) kind ≡ there_in after kind + came_out state out kind
    counted kind =
        let settled = counts_settled kind state es_between (rising_written state es its_due old here between rising) its_due holds out after
        (is ∙ ap (λ rs. with_record rs m.to (record_after its_due)) (sym before_same)) (gone ∙ sym gone_after) kinds in
        let same : there_in (before_due (records_of state es_between) its_due) kind ≡ there_in (records_of state es) kind = ap (λ rs. there_in rs kind) before_same in
        omega arith

    pub carried_out : IsCarriedOut state (records_of state es) its_due output out after
    carried_out = record { reacts = (r, makes.1, its_way.output_is); records = is; gone = gone ∙ sym gone_after; kind_version = kinds; count = counted }

  -- ---- what is left

  abbrev es_after : List (Elem × Resident C)
  es_after = set_value (is_at (elem_cmp m.to)) es new

  shown_after : records_of state es_after ≡ with_record (records_of state es) m.to (record_in state new)
  shown_after = shown_written state es rising m.to old new here

  pub left_alive : output.is_destroyed ≡ false → records_of state es_after ≡ with_record (records_of state es) m.to (record_after its_due)
  left_alive alive =
      let left : Some (state new.object) ≡ r.state = lives_on r.state (state new.object) its_way.state (sym destroyed_is ∙ alive) in
      let shows : record_in state new ≡ record_after its_due = (λ i. record { state = left i; sent = its_way.sent i; received = its_way.received i }) ∙ sym after_is in
      shown_after ∙ ap (with_record (records_of state es) m.to) shows

  pub left_without : output.is_destroyed ≡ true → records_of state (remove_entry (is_at (elem_cmp m.to)) es_after) ≡ with_record (records_of state es) m.to (record_after its_due)
  left_without dead =
      let gone = not_some (record_after its_due).state (gone_after ∙ dead) in
      shown_removed state es_after (rising_written state es its_due old here new rising) m.to (record_after its_due) gone
      ∙ ap (λ rs. with_record rs m.to (record_after its_due)) shown_after
      ∙ written_over (records_of state es) (rising_shown state es rising) m.to (record_in state new) (record_after its_due)
