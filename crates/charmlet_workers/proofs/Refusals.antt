-- Which refusals a step's checks allow.
use Rattle.std.proofs.Common.{◌≡◌, ℕ, ◌<◌, ◌≤◌, ◌+◌, List, [], ◌∷◌, ◌++◌, length, inl, inr, refl, sym, ap, subst, ◌∙◌, true, false, Bool, Option, Some, None, Result, Ok, Err, arith}
use Rattle.std.proofs.lemmas.Bool.Decides.{nat_tests}
use Rattle.std.specs.Prelude.{IfErr, IfSome, OnOk, if◌then◌else◌, ◌||◌, ◌==◌, is_some, not}
use Rattle.charmlet_model.specs.declared.kind_version.KindVersion.{KindVersion}
use Rattle.charmlet_model.specs.declared.names.Elem.{Elem}
use Rattle.charmlet_model.specs.declared.names.MsgId.{MsgId}
use Rattle.charmlet_model.specs.declared.refusal.Refusal.{Refusal}
use Rattle.charmlet_model.specs.declared.refusal.Refusal.TheVariants as refusals
use Rattle.charmlet_model.specs.declared.message.Message.{Message}
use Rattle.charmlet_model.specs.declared.told.Told.{Told}
use Rattle.charmlet_model.specs.declared.TheConstants.{CONSTRUCT}
use Rattle.charmlet_model.specs.Core.{Blanks, Check, When, MayLackMemory, MayFail, Core, CoreStep, Refuses, Counts, Stepped, Steps, Request, Status, Assign, Commit, Finish, Release, Move, Flush, Checkpoint, assign_checks, assigned_to, blank_for, checks, first_refusal, is_present, is_processor, is_repeat, lacks_blank, may_fail, may_lack_memory, message_checks, new_request_checks, pending_message, place_or_home, present, request_checks, stepped_unless}
use Rattle.charmlet_model.specs.World.{client_of}
use Rattle.charmlet_model.specs.KindVersion.{kind_of_version}
use Rattle.charmlet_model.specs.Run.{Goes, StoreView}
use Rattle.charmlet_model.specs.Sound.{IsSound}
use Rattle.charmlet_history.specs.Kept.{oldest_on_in, told_or_refused}
use Rattle.charmlet_migrate.specs.Moving.{IsIdle}
use Rattle.charmlet_shelf.specs.Shelf.{View}
use Rattle.charmlet_shelf.specs.declared.phase.Phase.{Phase}
use Rattle.charmlet_delivery.specs.UnderWay.{due_in}
use Rattle.charmlet_sequencer.specs.Authority.{IsDueOn}
use Rattle.charmlet_hub.specs.Hub.{HubShown, store_in}
use Rattle.charmlet_workers.specs.Refusals.{is_lending_refusal, is_request_refusal, is_work_refusal}
use Rattle.charmlet_workers.proofs.Oldest.{oldest_is_deliverable}

-- ---- checks

-- the refusal of each of these checks is so, where its condition holds and none before it does
abbrev pub Fit : (Refusal → Type 0) → List Check → Type 0
Fit P [] = Unit {0}
Fit P (When holds refusal ∷ more) = (holds ≡ true → P refusal) × (holds ≡ false → Fit P more)
Fit P (MayLackMemory ∷ more) = P refusals.Memory × Fit P more
Fit P (MayFail ∷ more) = P refusals.Device × Fit P more

-- one of these refusals
abbrev Is : (Refusal → Bool) → Refusal → Type 0
Is p refusal = p refusal ≡ true

first_fits : (P : Refusal → Type 0) (order : List Check) → Fit P order → IfSome (first_refusal order) P
first_fits P [] fit = tt
first_fits P (When true refusal ∷ more) fit = fit.0 refl
first_fits P (When false refusal ∷ more) fit = first_fits P more (fit.1 refl)
first_fits P (MayLackMemory ∷ more) fit = first_fits P more fit.1
first_fits P (MayFail ∷ more) fit = first_fits P more fit.1

lack_fits : (P : Refusal → Type 0) (order : List Check) → Fit P order → may_lack_memory order ≡ true → P refusals.Memory
lack_fits P [] fit may = let never : ⊥ = cc in absurd never
lack_fits P (When true refusal ∷ more) fit may = let never : ⊥ = cc in absurd never
lack_fits P (When false refusal ∷ more) fit may = lack_fits P more (fit.1 refl) may
lack_fits P (MayLackMemory ∷ more) fit may = fit.0
lack_fits P (MayFail ∷ more) fit may = lack_fits P more fit.1 may

fail_fits : (P : Refusal → Type 0) (order : List Check) → Fit P order → may_fail order ≡ true → P refusals.Device
fail_fits P [] fit may = let never : ⊥ = cc in absurd never
fail_fits P (When true refusal ∷ more) fit may = let never : ⊥ = cc in absurd never
fail_fits P (When false refusal ∷ more) fit may = fail_fits P more (fit.1 refl) may
fail_fits P (MayLackMemory ∷ more) fit may = fail_fits P more fit.1 may
fail_fits P (MayFail ∷ more) fit may = fit.0

-- what isn't refused has another answer
unless_fits : (P : Refusal → Type 0) (core : Core) (blanks : Blanks) (step : CoreStep) (o : Option Refusal) (r : Refusal) → IfSome o P → (stepped_unless core blanks step o).answer ≡ Refuses r → P r
unless_fits P core blanks step (Some other) r fits answer = let same : other ≡ r = cc in subst P same fits
unless_fits P core blanks (Request client number to entry words) None r fits answer = let never : ⊥ = cc in absurd never
unless_fits P core blanks (Status client number) None r fits answer = let never : ⊥ = cc in absurd never
unless_fits P core blanks (Assign processor id) None r fits answer = let never : ⊥ = cc in absurd never
unless_fits P core blanks (Commit processor) None r fits answer = let never : ⊥ = cc in absurd never
unless_fits P core blanks (Finish processor) None r fits answer = let never : ⊥ = cc in absurd never
unless_fits P core blanks (Release processor) None r fits answer = let never : ⊥ = cc in absurd never
unless_fits P core blanks (Move x processor) None r fits answer = let never : ⊥ = cc in absurd never
unless_fits P core blanks Flush None r fits answer = let never : ⊥ = cc in absurd never
unless_fits P core blanks Checkpoint None r fits answer = let never : ⊥ = cc in absurd never

-- a step is refused for one of its checks
pub refusal_fits : (P : Refusal → Type 0) (core : Core) (blanks : Blanks) (step : CoreStep) (next : Stepped) (r : Refusal) → Fit P (checks core blanks step) → Steps core blanks step next → next.answer ≡ Refuses r → P r
refusal_fits P core blanks step next r fit steps answer =
    let order = checks core blanks step in
    elim steps.1 [
      | inl same ↦ unless_fits P core blanks step (first_refusal order) r (first_fits P order fit) (sym (ap (λ (n : Stepped). n.answer) same) ∙ answer)
      | inr lacking ↦ elim lacking [
        | inl memory ↦
            let is : Refuses refusals.Memory ≡ Refuses r = sym (ap (λ (n : Stepped). n.answer) memory.1) ∙ answer in
            let same : refusals.Memory ≡ r = cc in
            subst P same (lack_fits P order fit memory.0)
        | inr device ↦
            let is : Refuses refusals.Device ≡ Refuses r = sym (ap (λ (n : Stepped). n.answer) device.1) ∙ answer in
            let same : refusals.Device ≡ r = cc in
            subst P same (fail_fits P order fit device.0)
      ]
    ]

-- a check that doesn't hold
pub no_more : {A : Type 0} (b : Bool) → b ≡ true → not b ≡ true → A
no_more true is other = absurd (let never : ⊥ = cc in never)
no_more false is other = absurd (let never : ⊥ = cc in never)

none_there : {A X : Type 0} (o : Option X) → o ≡ None → is_some o ≡ true → A
none_there None is other = absurd (let never : ⊥ = cc in never)
none_there (Some x) is other = absurd (let never : ⊥ = cc in never)

-- ---- each call

abbrev is_memory : Refusal → Bool
is_memory refusals.Memory = true
is_memory _ = false

request_fit : (core : Core) (client number : ℕ) (to : Elem) (words : List ℕ) → Fit (Is is_request_refusal) (request_checks core client number to words)
request_fit core client number to words = (
  λ _. refl,
  λ _. elim (is_repeat core client number) as (λ b. Fit (Is is_request_refusal) (if b then MayLackMemory ∷ [] else new_request_checks core (client_of (present core) client) client number to words)) [
    | true ↦ (refl, tt)
    | false ↦ (λ _. refl, λ _. (λ _. refl, λ _. (λ _. refl, λ _. (λ _. refl, λ _. (λ _. refl, λ _. (λ _. refl, λ _. (refl, tt)))))))
  ],
)

-- blanks that lack, and then memory
pub blank_fit : (P : Refusal → Type 0) (blanks : Blanks) (o : Option KindVersion) → ((kind_version : KindVersion) → o ≡ Some kind_version → P (refusals.NoBlank (kind_of_version kind_version))) → P refusals.Memory → Fit P (lacks_blank blanks o ++ MayLackMemory ∷ [])
blank_fit P blanks None blank memory = (memory, tt)
blank_fit P blanks (Some kind_version) blank memory = (λ _. blank kind_version refl, λ _. (memory, tt))

-- a message that can be delivered on the processor, on which none is assigned
message_fit : (core : Core) (blanks : Blanks) (processor : ℕ) (m : Message) → (is_present core m.to || (m.entry == CONSTRUCT)) ≡ true → (place_or_home core m.to == processor) ≡ true → Fit (Is is_work_refusal) (message_checks core blanks processor (Some m))
message_fit core blanks processor m there here = (
  λ absent. no_more (is_present core m.to || (m.entry == CONSTRUCT)) there absent,
  λ _. (
    λ elsewhere. no_more (place_or_home core m.to == processor) here elsewhere,
    λ _. (λ _. refl, λ _. blank_fit (Is is_work_refusal) blanks (blank_for core m) (λ kind_version is. refl) refl),
  ),
)

assign_fit : (core : Core) (blanks : Blanks) (processor : ℕ) (id : MsgId) (m : Message) → is_processor core processor ≡ true → assigned_to core processor ≡ None → pending_message core id ≡ Some m →
    (is_present core m.to || (m.entry == CONSTRUCT)) ≡ true → (place_or_home core m.to == processor) ≡ true → Fit (Is is_work_refusal) (assign_checks core blanks processor id)
assign_fit core blanks processor id m on none pending there here = (
  λ _. refl,
  λ _. (
    λ bad. no_more (is_processor core processor) on bad,
    λ _. (
      λ assigned. none_there (assigned_to core processor) none assigned,
      λ _. subst (λ o. Fit (Is is_work_refusal) (message_checks core blanks processor o)) (sym pending) (message_fit core blanks processor m there here),
    ),
  ),
)

pub request_refused : (store next : StoreView) (client number : ℕ) (to : Elem) (entry : ℕ) (words : List ℕ) (r : Result Told Refusal) → Goes store (Request client number to entry words) (told_or_refused r) next → IfErr r (λ refusal. is_request_refusal refusal ≡ true)
request_refused store next client number to entry words (Ok x) goes = tt
request_refused store next client number to entry words (Err refusal) goes = refusal_fits (Is is_request_refusal) store.core store.blanks (Request client number to entry words) _ refusal (request_fit store.core client number to words) goes refl

-- ---- assignments

-- nothing is assigned to the processor of an idle shelf
pub none_assigned : (core : Core) (shelf : View) → IsIdle shelf → IsDueOn core shelf.number (due_in shelf.phase) → assigned_to core shelf.number ≡ None
none_assigned core shelf idle due = subst (λ (phase : Phase). IsDueOn core shelf.number (due_in phase)) idle due

-- an assignment of the oldest message, where none is assigned
pub oldest_refused : {D : Type 0} (hub : HubShown D) (next : StoreView) (processor : ℕ) (id : MsgId) (refusal : Refusal) → IsSound hub.core → processor < hub.core.processors → assigned_to hub.core processor ≡ None → oldest_on_in hub.core processor ≡ Some id →
    Goes (store_in hub) (Assign processor id) (Refuses refusal) next → is_work_refusal refusal ≡ true
oldest_refused hub next processor id refusal sound within none oldest goes =
    let store = store_in hub in
    let it = oldest_is_deliverable hub.core processor id sound oldest in
    let on : is_processor hub.core processor ≡ true = grind (arith, nat_tests) in
    refusal_fits (Is is_work_refusal) store.core store.blanks (Assign processor id) _ refusal (assign_fit store.core store.blanks processor id it.message on none it.pending it.there it.here) goes refl

-- ---- what is lent

pub lending_one : (is_out : Bool) (refusal : Refusal) → refusal ≡ (if is_out then refusals.PassOut else refusals.Memory) → is_lending_refusal refusal ≡ true
lending_one true refusal is = subst (λ r. is_lending_refusal r ≡ true) (sym is) refl
lending_one false refusal is = subst (λ r. is_lending_refusal r ≡ true) (sym is) refl

pub pass_refused : {T : Type 0} (is_out : Bool) (r : Result T Refusal) → IfErr r (λ refusal. refusal ≡ (if is_out then refusals.PassOut else refusals.Memory)) → IfErr r (λ refusal. is_lending_refusal refusal ≡ true)
pass_refused is_out (Ok x) is = tt
pass_refused is_out (Err refusal) is = lending_one is_out refusal is

seat_one : (is_there is_out : Bool) (refusal : Refusal) → refusal ≡ (if is_there then (if is_out then refusals.PassOut else refusals.Memory) else refusals.BadPes) → is_there ≡ true → is_lending_refusal refusal ≡ true
seat_one true is_out refusal is there = lending_one is_out refusal is
seat_one false is_out refusal is there = let never : ⊥ = cc in absurd never

pub seat_refused : {T : Type 0} (is_there is_out : Bool) (r : Result T Refusal) (P : Type 0) → (P → is_there ≡ true) → IfErr r (λ refusal. refusal ≡ (if is_there then (if is_out then refusals.PassOut else refusals.Memory) else refusals.BadPes)) →
    IfErr r (λ refusal. P → is_lending_refusal refusal ≡ true)
seat_refused is_there is_out (Ok x) P there is = tt
seat_refused is_there is_out (Err refusal) P there is = λ within. seat_one is_there is_out refusal is (there within)

-- there is no such processor
pub seat_bad : {T : Type 0} (is_there is_out : Bool) (r : Result T Refusal) (P : Type 0) → (P → is_there ≡ false) → OnOk r (is_there ≡ true) →
    IfErr r (λ refusal. refusal ≡ (if is_there then (if is_out then refusals.PassOut else refusals.Memory) else refusals.BadPes)) → P → r ≡ Err refusals.BadPes
seat_bad is_there is_out (Ok x) P none there is = λ beyond. let same : false ≡ true = sym (none beyond) ∙ there in let never : ⊥ = cc in absurd never
seat_bad is_there is_out (Err refusal) P none there is = λ beyond. ap Err (is ∙ ap (λ b. if b then (if is_out then refusals.PassOut else refusals.Memory) else refusals.BadPes) (none beyond))

-- there is one whose seat is lent
pub seat_there : {T : Type 0} (P Q : Type 0) (r : Result T Refusal) → (P → Q) → OnOk r P → OnOk r Q
seat_there P Q (Ok x) f holds = f holds
seat_there P Q (Err refusal) f holds = tt

-- ---- what a flush counts

counted : (store : StoreView) (o : Option Refusal) (count : ℕ) → (stepped_unless store.core store.blanks Flush o).answer ≡ Counts count → store.core.before ≤ count
counted store None count is = let same : store.core.before + length store.core.history ≡ count = cc in omega (arith, same)
counted store (Some refusal) count is = let never : ⊥ = cc in absurd never

count_of : (store next : StoreView) (count : ℕ) → Goes store Flush (Counts count) next → store.core.before ≤ count
count_of store next count goes = elim goes.1 [
  | inl same ↦ counted store (first_refusal (checks store.core store.blanks Flush)) count (sym (ap (λ (n : Stepped). n.answer) same))
  | inr lacking ↦ elim lacking [
    | inl memory ↦ let is : Counts count ≡ Refuses refusals.Memory = ap (λ (n : Stepped). n.answer) memory.1 in let never : ⊥ = cc in absurd never
    | inr device ↦ let is : Counts count ≡ Refuses refusals.Device = ap (λ (n : Stepped). n.answer) device.1 in let never : ⊥ = cc in absurd never
  ]
]
