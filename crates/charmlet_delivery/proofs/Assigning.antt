-- How deliveries end, by the steps that they take.
use Rattle.std.proofs.Common.{◌≡◌, inr, ℕ, ◌+◌, ◌-◌, ◌==◌, true, false, cond, not, ◌||◌, List, [], ◌∷◌, ◌++◌, refl, sym, ap, subst, ◌∙◌}
use Rattle.std.specs.Prelude.{Option, Some, None, is_some, option_and_then, Result, Ok, Err, OnOk, IfErr}
use Rattle.std.specs.Ordering.{eq_by_cmp, is_eq, nat_cmp}
use Rattle.std.specs.Cmp.{nat_cmp_total}
use Rattle.std.specs.BTreeMap.{insert_entry, is_at}
use Rattle.std.specs.List.Sorted.{IsStrictlySortedBy}
use Rattle.std.specs.Map.{keys_of, lookup, remove_entry}
use Rattle.std.proofs.lemmas.Cmp.{tied_itself}
use Rattle.std.proofs.lemmas.Map.Lookups.{exact_unsigned}
use Rattle.std.proofs.lemmas.Map.Views.{exact_unsigned_eq, tells_apart}
use Rattle.charmlet_model.specs.declared.names.MsgId.{MsgId}
use Rattle.charmlet_model.specs.declared.message.Message.{Message}
use Rattle.charmlet_model.specs.declared.kind.Kind.{Kind}
use Rattle.charmlet_model.specs.declared.kind.Kind.TheVariants as kinds
use Rattle.charmlet_model.specs.declared.kind_version.KindVersion.{KindVersion}
use Rattle.charmlet_model.specs.declared.refusal.Refusal.{Refusal}
use Rattle.charmlet_model.specs.declared.refusal.Refusal.TheVariants as refusals
use Rattle.charmlet_model.specs.declared.TheConstants.{CONSTRUCT}
use Rattle.charmlet_model.specs.Kind.{kind_number, numbered_kind}
use Rattle.charmlet_model.specs.World.{record_of}
use Rattle.charmlet_model.specs.Core.{Core, present, Blanks, Check, When, MayLackMemory, CoreStep, Assign, Commit, Release, Done, Refuses, checks, assign_checks, message_checks, lacks_blank, blank_for, blank_of_id, pending_message, assigned_to, first_refusal, may_lack_memory, next_core, next_blanks, is_present, is_processor, place_or_home, is_full, are_counts_full}
use Rattle.charmlet_model.specs.Run.{StoreView, Goes, IsNotDelivered}
use Rattle.charmlet_delivery.specs.UnderWay.{Ends}
use Rattle.charmlet_model.specs.Sound.{IsSound}
use Rattle.charmlet_model.proofs.Maps.{lookup-insert_entry, rising-insert_entry, same_maps}
use Rattle.charmlet_model.proofs.Removals.{lookup-removed, rising-removed}
use Rattle.charmlet_model.proofs.CanLemmas.{all_pass}
use Rattle.charmlet_history.specs.Kept.{plenty}
use Rattle.charmlet_history.proofs.Orders.{none_of_both, some_of_first, in_front, none_in_front, memory_after, is_refused, lacks_memory, is_done}

-- ---- an assignment, up to the blank and from it on

-- a stock has the blank, where one is wanted
abbrev pub Has : Blanks → Option KindVersion → Type 0
Has blanks wanted = first_refusal (lacks_blank blanks wanted) ≡ None

rest_passes : (blanks : Blanks) (wanted : Option KindVersion) → Has blanks wanted → first_refusal (lacks_blank blanks wanted ++ MayLackMemory ∷ []) ≡ None
rest_passes blanks wanted has = none_of_both (lacks_blank blanks wanted) (MayLackMemory ∷ []) has

rest_lacks : (blanks : Blanks) (wanted : Option KindVersion) → Has blanks wanted → may_lack_memory (lacks_blank blanks wanted ++ MayLackMemory ∷ []) ≡ true
rest_lacks blanks wanted has = memory_after (lacks_blank blanks wanted) (MayLackMemory ∷ []) has refl

plenty_has : (wanted : Option KindVersion) → Has plenty wanted
plenty_has None = refl
plenty_has (Some kind_version) = refl

module _ (core : Core) (processor : ℕ) (id : MsgId) where
  abbrev front_of : Option Message → List Check
  front_of None = When true refusals.NoMessage ∷ []
  front_of (Some m) =
      When (not (is_present core m.to || (m.entry == CONSTRUCT))) refusals.Absent
      ∷ When (not (place_or_home core m.to == processor)) (refusals.Elsewhere (place_or_home core m.to))
      ∷ When (is_full core || are_counts_full (record_of (present core) m.to)) refusals.HistoryFull ∷ []

  abbrev rest_of : Blanks → Option Message → List Check
  rest_of blanks None = []
  rest_of blanks (Some m) = lacks_blank blanks (blank_for core m) ++ MayLackMemory ∷ []

  abbrev start : List Check
  start =
      When core.halted refusals.Halted
      ∷ When (not (is_processor core processor)) refusals.BadPes
      ∷ When (is_some (assigned_to core processor)) refusals.Uncommitted ∷ []

  abbrev front : Option Message → List Check
  front m = start ++ front_of m

  abbrev checks_of : Blanks → Option Message → List Check
  checks_of blanks m = start ++ message_checks core blanks processor m

  split : (blanks : Blanks) (m : Option Message) → checks_of blanks m ≡ front m ++ rest_of blanks m
  split blanks None = refl
  split blanks (Some m) = refl

  abbrev blank_in : Option Message → Option KindVersion
  blank_in m = option_and_then (blank_for core) m

  plenty_rest : (m : Option Message) → first_refusal (rest_of plenty m) ≡ None
  plenty_rest None = refl
  plenty_rest (Some m) = rest_passes plenty (blank_for core m) (plenty_has (blank_for core m))

  front_passes : (m : Option Message) → first_refusal (checks_of plenty m) ≡ None → first_refusal (front m) ≡ None
  front_passes m h = none_in_front (front m) (rest_of plenty m) (ap first_refusal (sym (split plenty m)) ∙ h)

  -- what is refused where blanks are plenty is refused with any stock
  refused_so : (blanks : Blanks) (m : Option Message) (refusal : Refusal) → first_refusal (checks_of plenty m) ≡ Some refusal → first_refusal (checks_of blanks m) ≡ Some refusal
  refused_so blanks m refusal h =
      ap first_refusal (split blanks m)
      ∙ some_of_first (front m) (rest_of blanks m) refusal (in_front (front m) (rest_of plenty m) refusal (plenty_rest m) (ap first_refusal (sym (split plenty m)) ∙ h))

  rest_of_one : (blanks : Blanks) (m : Option Message) → first_refusal (checks_of plenty m) ≡ None → Has blanks (blank_in m) →
      (first_refusal (rest_of blanks m) ≡ None) × (may_lack_memory (rest_of blanks m) ≡ true)
  rest_of_one blanks None h has = absurd (no_message h)
    where
      no_message : first_refusal (checks_of plenty None) ≡ None → ⊥
      no_message h = let no = front_passes None h in let never : ⊥ = none_there no in never
        where
          none_there : first_refusal (front None) ≡ None → ⊥
          none_there e = let back = none_of_both start (front_of None) (none_in_front start (front_of None) e) in let no : Some refusals.NoMessage ≡ None = sym back ∙ e in cc
  rest_of_one blanks (Some m) h has = (rest_passes blanks (blank_for core m) has, rest_lacks blanks (blank_for core m) has)

  abbrev message : Option Message
  message = pending_message core id

  module _ (blanks : Blanks) (can : first_refusal (checks core plenty (Assign processor id)) ≡ None) where
    pub can_be_assigned : Has blanks (blank_of_id core (Some id)) → first_refusal (checks core blanks (Assign processor id)) ≡ None
    can_be_assigned has =
        ap first_refusal (split blanks message)
        ∙ none_of_both (front message) (rest_of blanks message) (front_passes message can) ∙ (rest_of_one blanks message can has).0

    pub may_lack : Has blanks (blank_of_id core (Some id)) → may_lack_memory (checks core blanks (Assign processor id)) ≡ true
    may_lack has =
        ap may_lack_memory (split blanks message)
        ∙ memory_after (front message) (rest_of blanks message) (front_passes message can) (rest_of_one blanks message can has).1

    lacks_here : (m : Option Message) (refusal : Refusal) → first_refusal (lacks_blank blanks (blank_in m)) ≡ Some refusal → first_refusal (rest_of blanks m) ≡ Some refusal
    lacks_here None refusal lacks = lacks
    lacks_here (Some m) refusal lacks = some_of_first (lacks_blank blanks (blank_for core m)) (MayLackMemory ∷ []) refusal lacks

    pub lacks_wanted : (refusal : Refusal) → first_refusal (lacks_blank blanks (blank_of_id core (Some id))) ≡ Some refusal → first_refusal (checks core blanks (Assign processor id)) ≡ Some refusal
    lacks_wanted refusal lacks =
        ap first_refusal (split blanks message)
        ∙ none_of_both (front message) (rest_of blanks message) (front_passes message can) ∙ lacks_here message refusal lacks

-- ---- a blank that is taken and given back

kind_is : (kind : Kind) → numbered_kind (kind_number kind) ≡ Some kind
kind_is kinds.Counter = refl
kind_is kinds.Ring = refl
kind_is kinds.Account = refl
kind_is kinds.Sum = refl
kind_is kinds.Tree = refl
kind_is kinds.Tape = refl

-- kinds of one number are one
pub same_kind : (a b : Kind) → (kind_number a == kind_number b) ≡ true → a ≡ b
same_kind a b h = let same : Some a ≡ Some b = sym (kind_is a) ∙ ap numbered_kind (exact_unsigned_eq (kind_number a) (kind_number b) h) ∙ kind_is b in cc

-- ---- how an assignment goes

module _ (core : Core) (blanks : Blanks) (processor : ℕ) (id : MsgId) where
  abbrev store : StoreView
  store = record { core = core; blanks = blanks }

  abbrev step : CoreStep
  step = Assign processor id

  pub is_refused_so : (refusal : Refusal) → first_refusal (checks core plenty step) ≡ Some refusal → Goes store step (Refuses refusal) store
  is_refused_so refusal h = is_refused core blanks step refl refusal (refused_so core processor id blanks (pending_message core id) refusal h)

  module _ (can : first_refusal (checks core plenty step) ≡ None) where
    pub has_no_blank : (refusal : Refusal) → first_refusal (lacks_blank blanks (blank_of_id core (Some id))) ≡ Some refusal → Goes store step (Refuses refusal) store
    has_no_blank refusal lacks = is_refused core blanks step refl refusal (lacks_wanted core processor id blanks can refusal lacks)

    pub has_no_memory : Has blanks (blank_of_id core (Some id)) → Goes store step (Refuses refusals.Memory) store
    has_no_memory has = lacks_memory core blanks step refl (may_lack core processor id blanks can has)

    -- the store once the message is assigned
    abbrev pub assigned_store : StoreView
    assigned_store = record { core = next_core core step; blanks = next_blanks core blanks step }

    pub is_assigned : Has blanks (blank_of_id core (Some id)) → Goes store step Done assigned_store
    is_assigned has = is_done core blanks step refl (can_be_assigned core processor id blanks can has)

    pub assigned_here : assigned_to (next_core core step) processor ≡ Some id
    assigned_here =
        lookup-insert_entry nat_cmp nat_cmp_total processor processor id core.assigned
        ∙ ap (λ b. cond b (Some id) (assigned_to core processor)) (ap is_eq (tied_itself nat_cmp_total processor))

    -- nothing is assigned before
    pub none_assigned : assigned_to core processor ≡ None
    none_assigned = none_of (assigned_to core processor) (all_pass (assign_checks core plenty processor id) can).1.1.0
      where
        none_of : {A : Type 0} (o : Option A) → is_some o ≡ false → o ≡ None
        none_of None h = refl
        none_of (Some x) h = absurd (let never : ⊥ = cc in never)

-- what was assigned and released is as before
pub released_core : (core : Core) → IsSound core → (p : ℕ) (id : MsgId) → assigned_to core p ≡ None → next_core (next_core core (Assign p id)) (Release p) ≡ core
released_core core sound p id none = λ i. record core { assigned = same i }
  where
    put : List (ℕ × MsgId)
    put = insert_entry nat_cmp core.assigned p id

    rising : IsStrictlySortedBy nat_cmp (keys_of put)
    rising = rising-insert_entry nat_cmp nat_cmp_total p id core.assigned sound.rising_assigned

    each : (q : ℕ) → lookup (is_at (nat_cmp q)) (remove_entry (is_at (nat_cmp p)) put) ≡ lookup (is_at (nat_cmp q)) core.assigned
    each q = lookup-removed nat_cmp_total q p put rising ∙ elim (eq_by_cmp nat_cmp q p) as (λ b. eq_by_cmp nat_cmp q p ≡ b → cond b None (lookup (is_at (nat_cmp q)) put) ≡ lookup (is_at (nat_cmp q)) core.assigned) [
      | true ↦ λ same. sym (ap (assigned_to core) (tells_apart exact_unsigned q p same) ∙ none)
      | false ↦ λ apart. lookup-insert_entry nat_cmp nat_cmp_total q p id core.assigned ∙ ap (λ b. cond b (Some id) (lookup (is_at (nat_cmp q)) core.assigned)) apart
    ] refl

    same : remove_entry (is_at (nat_cmp p)) put ≡ core.assigned
    same = same_maps nat_cmp nat_cmp_total exact_unsigned (remove_entry (is_at (nat_cmp p)) put) core.assigned
        (rising-removed nat_cmp (is_at (nat_cmp p)) put rising) sound.rising_assigned each

-- a store in which a message can be assigned isn't halted, and goes on so
pub still_runs : (core : Core) (processor : ℕ) (id : MsgId) → first_refusal (checks core plenty (Assign processor id)) ≡ None → (next : Core) → next ≡ next_core core (Assign processor id) → next.halted ≡ false
still_runs core processor id can next is = ap (λ (c : Core). c.halted) is ∙ (all_pass (assign_checks core plenty processor id) can).0

-- ---- how a delivery ends

-- it was committed
pub is_committed : (core : Core) (blanks : Blanks) (processor : ℕ) → is_some (assigned_to core processor) ≡ true → core.halted ≡ false →
    Goes (record { core = core; blanks = blanks }) (Commit processor) Done (record { core = next_core core (Commit processor); blanks = blanks })
is_committed core blanks processor some running = is_done core blanks (Commit processor) some (ap (λ b. first_refusal (When b refusals.Halted ∷ MayLackMemory ∷ [])) running)

-- or was assigned, and then committed or released
pub ends_so : (first mid last : StoreView) (processor place : ℕ) (id : MsgId) → place ≡ processor → Goes first (Assign processor id) Done mid → {T : Type 0} (result : Result T Refusal) →
    OnOk result (Goes mid (Commit place) Done last) → IfErr result (λ refusal. (refusal ≡ refusals.Memory) × Goes mid (Release place) Done last) → Ends first processor id result last
ends_so first mid last processor place id same goes (Ok x) done none = (mid, goes, subst (λ p. Goes mid (Commit p) Done last) same done)
ends_so first mid last processor place id same goes (Err refusal) done none =
    subst (λ r. IsNotDelivered first processor id r last) (sym none.0) (inr (refl, (mid, goes, subst (λ p. Goes mid (Release p) Done last) same none.1)))
