-- What is known of a request that isn't refused.
use Rattle.std.proofs.Common.{◌≡◌, ℕ, ◌≤◌, true, false, Option, Some, None, Result, Ok, Err, inl, inr, refl, sym, ap, ◌∙◌, arith}
use Rattle.std.specs.Prelude.{OnOk}
use Rattle.charmlet_model.specs.declared.refusal.Refusal.{Refusal}
use Rattle.charmlet_model.specs.declared.refusal.Refusal.TheVariants as refusals
use Rattle.charmlet_model.specs.declared.client.ClientRow.{ClientRow}
use Rattle.charmlet_model.specs.declared.told.Told.{Told}
use Rattle.charmlet_model.specs.Core as core
use Rattle.charmlet_model.specs.Core.{Blanks, Core, CoreStep, Refuses, Stepped, Steps, Tells, checks, first_refusal, is_repeat, present, stepped_unless}
use Rattle.charmlet_model.specs.Run.{Goes, StoreView}
use Rattle.charmlet_model.specs.Sound.{IsSound}
use Rattle.charmlet_model.specs.World.{client_of}
use Rattle.charmlet_model.proofs.SoundLemmas.{sound_fit}
use Rattle.charmlet_model.proofs.Windows.{inside-parts}
use Rattle.charmlet_history.specs.declared.request.Request.{Request}
use Rattle.charmlet_history.specs.Kept.{told_or_refused}
use Rattle.charmlet_requests.proofs.Turns.{follows}
use Rattle.charmlet_leases.specs.Passes.Passes.{HeldPass, IsCurrent}
use Rattle.charmlet_hub.specs.Hub.{HubShown, store_in}
use Rattle.charmlet_workers.specs.Refusals.{IsRecent}

-- what tells a client something isn't refused
unrefused : (k : Core) (blanks : Blanks) (step : CoreStep) (o : Option Refusal) (told : Told) → (stepped_unless k blanks step o).answer ≡ Tells told → o ≡ None
unrefused k blanks step None told answer = refl
unrefused k blanks step (Some refusal) told answer = let never : ⊥ = cc in absurd never

passed : (k : Core) (blanks : Blanks) (step : CoreStep) (next : Stepped) (told : Told) → Steps k blanks step next → next.answer ≡ Tells told → first_refusal (checks k blanks step) ≡ None
passed k blanks step next told steps answer = elim steps.1 [
  | inl same ↦ unrefused k blanks step (first_refusal (checks k blanks step)) told (sym (ap (λ (n : Stepped). n.answer) same) ∙ answer)
  | inr lacking ↦ elim lacking [
    | inl memory ↦ let is : Refuses refusals.Memory ≡ Tells told = sym (ap (λ (n : Stepped). n.answer) memory.1) ∙ answer in let never : ⊥ = cc in absurd never
    | inr device ↦ let is : Refuses refusals.Device ≡ Tells told = sym (ap (λ (n : Stepped). n.answer) device.1) ∙ answer in let never : ⊥ = cc in absurd never
  ]
]

-- it has a new number, or repeats one of the last eight
abbrev IsNewOrRecent : HeldPass → Request → Type 0
IsNewOrRecent held request = request.number ≤ held.pass.last → IsRecent held.pass.last request.number

module _ (k : Core) (blanks : Blanks) (held : HeldPass) (request : Request) (sound : IsSound k) (current : IsCurrent held k) where
  abbrev client : ℕ
  client = held.pass.client

  abbrev row : ClientRow
  row = client_of (present k) client

  -- it is in the client's window, or follows the last one
  recent : first_refusal (checks k blanks (core.Request client request.number request.to request.entry request.words.now)) ≡ None → IsNewOrRecent held request
  recent passes =
      let by_pass : row.last ≡ held.pass.last = current.up_to_date in
      elim (is_repeat k client request.number) as (λ b. is_repeat k client request.number ≡ b → IsNewOrRecent held request) [
        | true ↦ λ again. λ within.
            let above = (inside-parts row request.number again).0 in
            let few = ((sound_fit k sound).clients client).few in
            (omega (arith, above), within, omega (arith, above, few, by_pass))
        | false ↦ λ new. λ within.
            let next = follows k blanks client request.number request.to request.entry request.words.now sound passes new in
            absurd (omega (arith, next, within, by_pass))
      ] refl

pub told_recent : {D : Type 0} (hub : HubShown D) (next : StoreView) (held : HeldPass) (request : Request) (r : Result Told Refusal) → IsSound hub.core → IsCurrent held hub.core →
    Goes (store_in hub) (core.Request held.pass.client request.number request.to request.entry request.words.now) (told_or_refused r) next → OnOk r (request.number ≤ held.pass.last → IsRecent held.pass.last request.number)
told_recent hub next held request (Ok told) sound current goes =
    let store = store_in hub in
    let step = core.Request held.pass.client request.number request.to request.entry request.words.now in
    recent hub.core store.blanks held request sound current (passed store.core store.blanks step _ told goes refl)
told_recent hub next held request (Err refusal) sound current goes = tt
