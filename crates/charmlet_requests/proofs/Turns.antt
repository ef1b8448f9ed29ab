-- What a request makes of a core, and of a pass.
use Rattle.std.proofs.Common.{◌≡◌, inl, inr, ℕ, ◌+◌, true, false, not, cond, ◌&&◌, List, [], ◌∷◌, ◌++◌, refl, sym, ap, subst, ◌∙◌, arith, if◌then◌else◌, Option, Some, None, nat_lt}
use Rattle.std.proofs.lemmas.Bool.{ltb-true, ltb-false}
use Rattle.std.proofs.lemmas.List.{take-append-le}
use Rattle.std.proofs.lemmas.Map.Views.{exact_unsigned_eq}
use Rattle.charmlet_model.specs.declared.names.Elem.{Elem}
use Rattle.charmlet_model.specs.declared.event.Event.{Event}
use Rattle.charmlet_model.specs.declared.event.Event.TheVariants.{Accept}
use Rattle.charmlet_model.specs.declared.client.ClientRow.{ClientRow}
use Rattle.charmlet_model.specs.declared.told.Told.{Told}
use Rattle.charmlet_model.specs.declared.refusal.Refusal.{Refusal}
use Rattle.charmlet_model.specs.declared.refusal.Refusal.TheVariants as refusals
use Rattle.charmlet_model.specs.Row.{with_request}
use Rattle.charmlet_model.specs.World.{after, client_of}
use Rattle.charmlet_model.specs.Told.{Holds, told, told_of}
use Rattle.charmlet_model.specs.Core.{Core, CoreStep, Request, Status, Tells, Refuses, Blanks, Stepped, Steps, Check, MayLackMemory, first_refusal, may_lack_memory, checks, has_words, is_repeat, next_core, stepped_unless, present, durable_world, new_request_checks}
use Rattle.charmlet_model.specs.Sound.{IsSound}
use Rattle.charmlet_model.proofs.CanLemmas.{accepted_can}
use Rattle.charmlet_model.proofs.CoreLemmas.{refusals_change_nothing}
use Rattle.charmlet_model.proofs.DeviceLemmas.{only_writes_fail}
use Rattle.charmlet_model.proofs.Fits.{tied_itself-nat}
use Rattle.charmlet_model.proofs.Histories.{row_of-insert, world-append}
use Rattle.charmlet_model.proofs.Maps.{both_parts}
use Rattle.charmlet_model.proofs.Windows.{inside-parts}
use Rattle.charmlet_requests.specs.Pass.{Pass, IsTold, IsUpToDate, with_accept}
use Rattle.charmlet_requests.proofs.Covering.{told-above}
use Rattle.charmlet_requests.proofs.Truth.{covers-present}

module _ (core : Core) (blanks : Blanks) (client number : ℕ) (to : Elem) (entry : ℕ) (words : List ℕ) where
  abbrev asked : CoreStep
  asked = Request client number to entry words

  abbrev event : Event
  event = Accept client number to entry words

  -- of a request that isn't refused
  pub record IsAnswered (new : Core) (t : Told) : Type 0 where
    pub says : told (durable_world core) client number ≡ t
    pub passes : first_refusal (checks core blanks asked) ≡ None
    pub next : new ≡ next_core core asked

  answered-unless : (o : Option Refusal) (new : Core) (t : Told) → first_refusal (checks core blanks asked) ≡ o →
      (record { answer = Tells t; core = new; blanks = blanks }) ≡ stepped_unless core blanks asked o → IsAnswered new t
  answered-unless None new t passes is = record {
    says = let same : Tells t ≡ Tells (told (durable_world core) client number) = ap (λ (n : Stepped). n.answer) is in let back : told (durable_world core) client number ≡ t = cc in back;
    passes = passes;
    next = ap (λ (n : Stepped). n.core) is;
  }
  answered-unless (Some refusal) new t passes is = let same : Tells t ≡ Refuses refusal = ap (λ (n : Stepped). n.answer) is in absurd (let no : ⊥ = cc in no)

  pub answered : (new : Core) (t : Told) → Steps core blanks asked (record { answer = Tells t; core = new; blanks = blanks }) → IsAnswered new t
  answered new t steps = elim steps.1 [
    | inl same ↦ answered-unless (first_refusal (checks core blanks asked)) new t refl same
    | inr lacking ↦ elim lacking [
      | inl memory ↦ let same : Tells t ≡ Refuses refusals.Memory = ap (λ (n : Stepped). n.answer) memory.1 in absurd (let no : ⊥ = cc in no)
      | inr device ↦ let same : Tells t ≡ Refuses refusals.Device = ap (λ (n : Stepped). n.answer) device.1 in absurd (let no : ⊥ = cc in no)
    ]
  ]

  -- a refusal changes nothing
  pub refused-same : (new : Core) (refusal : Refusal) → Steps core blanks asked (record { answer = Refuses refusal; core = new; blanks = blanks }) → new ≡ core
  refused-same new refusal steps =
      let next : Stepped = record { answer = Refuses refusal; core = new; blanks = blanks } in
      (refusals_change_nothing core blanks asked next refusal steps refl).0 (λ device. only_writes_fail core blanks asked next tt steps (ap Refuses device))

  module _ (sound : IsSound core) (passes : first_refusal (checks core blanks asked) ≡ None) where
    -- the number of one that is no repeat follows the client's last one
    pub follows : is_repeat core client number ≡ false → number ≡ (client_of (present core) client).last + 1
    follows new =
        let can_be = (accepted_can core blanks client number to entry words new passes).0 in
        let next = both_parts _ _ (both_parts _ _ (both_parts _ _ (both_parts _ _ can_be).0).0).0 in
        exact_unsigned_eq _ _ (both_parts _ _ next.0).0

    -- of such a one nothing is durable, and so nothing is told that has words
    pub repeat-of-words : has_words (told (durable_world core) client number) ≡ true → is_repeat core client number ≡ true
    repeat-of-words words_told = elim (is_repeat core client number) as (λ b. is_repeat core client number ≡ b → b ≡ true) [
      | true ↦ λ _. refl
      | false ↦ λ new.
          let is = follows new in
          let grows = (covers-present core sound client).last in
          let unknown = told-above (client_of (durable_world core) client) number (omega arith) in
          sym (ap has_words unknown) ∙ words_told
    ] refl

    abbrev rest_checks : List Check
    rest_checks = if is_repeat core client number then MayLackMemory ∷ [] else new_request_checks core (client_of (present core) client) client number to words

    pub runs : core.halted ≡ false
    runs = elim core.halted as (λ b. (if b then Some refusals.Halted else first_refusal rest_checks) ≡ None → b ≡ false) [
      | true ↦ λ no. absurd (let contra : ⊥ = cc in contra)
      | false ↦ λ _. refl
    ] passes

    -- so that memory may be refused for it, and nothing changes
    pub lacks-memory : is_repeat core client number ≡ true → Steps core blanks asked (record { answer = Refuses refusals.Memory; core = next_core core asked; blanks = blanks })
    lacks-memory again =
        let same : next_core core asked ≡ core = ap (λ b. if b then core else record core { history = core.history ++ event ∷ [] }) again in
        let may : may_lack_memory (checks core blanks asked) ≡ true = ap (λ b. not b && may_lack_memory (if is_repeat core client number then MayLackMemory ∷ [] else new_request_checks core (client_of (present core) client) client number to words)) runs
        ∙ ap (λ b. may_lack_memory (if b then MayLackMemory ∷ [] else new_request_checks core (client_of (present core) client) client number to words)) again in
        (refl, inr (inl (may, ap (λ (c : Core). record { answer = Refuses refusals.Memory; core = c; blanks = blanks }) same)))

    pub again-same : is_repeat core client number ≡ true → next_core core asked ≡ core
    again-same again = ap (λ b. if b then core else record core { history = core.history ++ event ∷ [] }) again

  abbrev accepted : Core
  accepted = record core { history = core.history ++ event ∷ [] }

  either : (P : Core → Type 0) → (is_repeat core client number ≡ true → P core) → (is_repeat core client number ≡ false → P accepted) → P (next_core core asked)
  either P again new = elim (is_repeat core client number) as (λ b. is_repeat core client number ≡ b → P (if b then core else accepted)) [
    | true ↦ again
    | false ↦ new
  ] refl

  -- what is durable stays
  pub still-told : (pass : Pass) → IsSound core → IsTold pass core → IsTold pass (next_core core asked)
  still-told pass sound all = either (IsTold pass) (λ _. all)
      (λ _ k. subst (λ es. Holds core.opening es pass.client k (told_of pass.row k)) (sym (take-append-le core.durable core.history (event ∷ []) sound.durable)) (all k))

  -- a pass that is up to date stays so
  pub still-up_to_date : (pass : Pass) → pass.client ≡ client → IsSound core → first_refusal (checks core blanks asked) ≡ None → IsUpToDate pass core → IsUpToDate (with_accept pass number) (next_core core asked)
  still-up_to_date pass own sound passes is = either (IsUpToDate (with_accept pass number))
      (λ again.
      let inside = inside-parts (client_of (present core) client) number again in
      let within = inside.1 in
      let here : (client_of (present core) client).last ≡ pass.last = subst (λ c. (client_of (present core) c).last ≡ pass.last) own is in
      is ∙ elim (nat_lt pass.last number) as (λ b. nat_lt pass.last number ≡ b → pass.last ≡ (if b then number else pass.last)) [
        | true ↦ λ less. let below = ltb-true pass.last number less in absurd (omega arith)
        | false ↦ λ _. refl
      ] refl)
      (λ new.
      let follows_it = follows sound passes new in
      let old = client_of (present core) client in
      let row : ClientRow = with_request old number in
      let here : old.last ≡ pass.last = subst (λ c. (client_of (present core) c).last ≡ pass.last) own is in
      let put : client_of (after (present core) event) client ≡ row = row_of-insert (present core).clients client row client ∙ ap (λ b. cond b row old) (tied_itself-nat client) in
      let last : (client_of (present accepted) client).last ≡ number = ap (λ w. (client_of w client).last) (world-append core.opening core.history (event ∷ [])) ∙ ap (λ (r : ClientRow). r.last) put in
      subst (λ c. (client_of (present accepted) c).last ≡ (with_accept pass number).last) (sym own)
      (last ∙ elim (nat_lt pass.last number) as (λ b. nat_lt pass.last number ≡ b → number ≡ (if b then number else pass.last)) [
        | true ↦ λ _. refl
        | false ↦ λ no. let above = ltb-false pass.last number no in absurd (omega arith)
      ] refl))

-- what a status tells
pub status-says : (core : Core) (blanks : Blanks) (client number : ℕ) (new : Core) (t : Told) → Steps core blanks (Status client number) (record { answer = Tells t; core = new; blanks = blanks }) →
    told (durable_world core) client number ≡ t
status-says core blanks client number new t steps = elim steps.1 [
  | inl same ↦ unless (first_refusal (checks core blanks (Status client number))) same
  | inr lacking ↦ elim lacking [
    | inl memory ↦ let same : Tells t ≡ Refuses refusals.Memory = ap (λ (n : Stepped). n.answer) memory.1 in absurd (let no : ⊥ = cc in no)
    | inr device ↦ let same : Tells t ≡ Refuses refusals.Device = ap (λ (n : Stepped). n.answer) device.1 in absurd (let no : ⊥ = cc in no)
  ]
]
  where
    unless : (o : Option Refusal) → (record { answer = Tells t; core = new; blanks = blanks }) ≡ stepped_unless core blanks (Status client number) o → told (durable_world core) client number ≡ t
    unless None is = let same : Tells t ≡ Tells (told (durable_world core) client number) = ap (λ (n : Stepped). n.answer) is in let back : told (durable_world core) client number ≡ t = cc in back
    unless (Some refusal) is = let same : Tells t ≡ Refuses refusal = ap (λ (n : Stepped). n.answer) is in absurd (let no : ⊥ = cc in no)
