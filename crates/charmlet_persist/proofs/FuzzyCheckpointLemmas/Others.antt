-- What other steps keep, and what stays captured.
use Rattle.std.proofs.Common.{◌≡◌, ℕ, Bool, true, false, cond, List, [], ◌∷◌, ◌++◌, refl, sym, ap, subst, ◌∙◌, if◌then◌else◌}
use Rattle.std.proofs.lemmas.List.Elements.{All-from_recursion}
use Rattle.std.proofs.lemmas.Map.Views.{tells_apart}
use Rattle.std.specs.Prelude.{Option, Some, None, is_some, option_and_then}
use Rattle.std.specs.BTreeMap.{insert_entry, is_at}
use Rattle.std.specs.List.{AllByRecursion}
use Rattle.std.specs.Map.{lookup}
use Rattle.std.specs.Ordering.{eq_by_cmp}
use Rattle.charmlet_model.specs.declared.names.Elem.{Elem}
use Rattle.charmlet_model.specs.declared.names.MsgId.{MsgId}
use Rattle.charmlet_model.specs.declared.event.Event.TheVariants as events
use Rattle.charmlet_model.specs.declared.message.Message.{Message}
use Rattle.charmlet_model.specs.declared.reaction.Reaction.{Reaction}
use Rattle.charmlet_model.specs.declared.state.State.{State}
use Rattle.charmlet_model.specs.Core.{Core, Request, assigned_to, committed, halted_core, is_present, is_repeat, next_core, pending_message, place_of, placed, placed_after, present}
use Rattle.charmlet_model.specs.Core as cores
use Rattle.charmlet_model.specs.Names.{elem_cmp}
use Rattle.charmlet_model.specs.Sound.{IsSound}
use Rattle.charmlet_model.specs.World.{World, advanced, after, message_among, reaction_of, record_of}
use Rattle.charmlet_model.proofs.Deliveries.{placed-elsewhere}
use Rattle.charmlet_model.proofs.Maps.{elem_exact, elem_total, lookup-insert_entry, tied_elem}
use Rattle.charmlet_model.proofs.Removals.{lookup-removed}
use Rattle.charmlet_shelf.specs.declared.image.Image.{Image}
use Rattle.charmlet_persist.specs.declared.fuzzy_checkpoint.captured_element.CapturedElement.{CapturedElement}
use Rattle.charmlet_persist.specs.FuzzyCheckpoint.Laws.{AreCapturedOn, AssignmentsKeepRunning, DeliveriesKeepCaptured, FlushesKeepRunning, HaltsKeepRunning, ImagesKeepCaptured, ImagesCapture, RecordedDeliveriesKeepRunning, ProcessorsAreAll, ReleasesKeepRunning, RequestsKeepRunning}
use Rattle.charmlet_persist.specs.FuzzyCheckpoint.Checkpoint.{IsRunning, Run, entry_of, left_by, captured_of, with_image, with_images, with_message, with_reaction, with_receiver}
use Rattle.charmlet_persist.proofs.FuzzyCheckpointLemmas.Steps.{delivery_running, event_running, still_running}

-- ---- steps that are no delivery

pub requests_keep : RequestsKeepRunning
requests_keep core run client number to entry words is =
    elim (is_repeat core client number) as (λ b. IsRunning (if b then core else record core { history = core.history ++ events.Accept client number to entry words ∷ [] }) run) [
      | true ↦ is
      | false ↦ event_running core run is (record core { history = core.history ++ events.Accept client number to entry words ∷ [] }) (events.Accept client number to entry words) refl refl refl (λ x. refl) refl
    ]

pub flushes_keep : FlushesKeepRunning
flushes_keep core run is = still_running core run is (next_core core cores.Flush) refl refl refl

pub assignments_keep : AssignmentsKeepRunning
assignments_keep core run processor id is = still_running core run is (next_core core (cores.Assign processor id)) refl refl refl

pub releases_keep : ReleasesKeepRunning
releases_keep core run processor is = still_running core run is (next_core core (cores.Release processor)) refl refl refl

pub halts_keep : HaltsKeepRunning
halts_keep core run is = still_running core run is (halted_core core) refl refl refl

pub deliveries_keep_running : RecordedDeliveriesKeepRunning
deliveries_keep_running core run processor output is outcome = delivery_running core run is processor (assigned_to core processor) outcome.0 outcome.1

-- ---- what is captured

abbrev pub Known : List (Elem × Option CapturedElement) → Elem → Type 0
Known captured x = is_some (captured_of captured x) ≡ true

put_known : (captured : List (Elem × Option CapturedElement)) (x y : Elem) (v : Option CapturedElement) → Known captured x → Known (insert_entry elem_cmp captured y v) x
put_known captured x y v known =
    ap is_some (lookup-insert_entry elem_cmp elem_total x y v captured)
    ∙ elim (eq_by_cmp elem_cmp x y) as (λ b. is_some (cond b (Some v) (captured_of captured x)) ≡ true) [ true ↦ refl | false ↦ known ]

put_here : (captured : List (Elem × Option CapturedElement)) (x : Elem) (v : Option CapturedElement) → Known (insert_entry elem_cmp captured x v) x
put_here captured x v = ap is_some (lookup-insert_entry elem_cmp elem_total x x v captured ∙ ap (λ b. cond b (Some v) (captured_of captured x)) (tied_elem x))

pub image_known : (captured : List (Elem × Option CapturedElement)) (image : Image) (x : Elem) → Known captured x → Known (with_image captured image) x
image_known captured image x known =
    elim (is_some (captured_of captured image.elem)) as (λ b. Known (if b then captured else insert_entry elem_cmp captured image.elem (Some (entry_of image))) x) [
      | true ↦ known
      | false ↦ put_known captured x image.elem (Some (entry_of image)) known
    ]

pub image_here : (captured : List (Elem × Option CapturedElement)) (image : Image) → Known (with_image captured image) image.elem
image_here captured image =
    elim (is_some (captured_of captured image.elem)) as (λ b. is_some (captured_of captured image.elem) ≡ b → Known (if b then captured else insert_entry elem_cmp captured image.elem (Some (entry_of image))) image.elem) [
      | true ↦ λ known. known
      | false ↦ λ _. put_here captured image.elem (Some (entry_of image))
    ] refl

images_known : (captured : List (Elem × Option CapturedElement)) (images : List Image) (x : Elem) → Known captured x → Known (with_images captured images) x
images_known captured [] x known = known
images_known captured (image ∷ images) x known = image_known (with_images captured images) image x (images_known captured images x known)

all_known : (captured : List (Elem × Option CapturedElement)) (image : Image) (images done : List Image) → AllByRecursion (λ (i : Image). Known captured i.elem) done → AllByRecursion (λ (i : Image). Known (with_image captured image) i.elem) done
all_known captured image images [] h = tt
all_known captured image images (i ∷ done) h = (image_known captured image i.elem h.0, all_known captured image images done h.1)

images_here : (captured : List (Elem × Option CapturedElement)) (images : List Image) → AllByRecursion (λ (i : Image). Known (with_images captured images) i.elem) images
images_here captured [] = tt
images_here captured (image ∷ images) = (image_here (with_images captured images) image, all_known (with_images captured images) image images images (images_here captured images))

pub images_capture : ImagesCapture
images_capture run images = All-from_recursion (λ (i : Image). Known (with_images run.captured images) i.elem) images (images_here run.captured images)

pub images_keep : ImagesKeepCaptured
images_keep run images x known = images_known run.captured images x known

-- ---- deliveries

module _ (captured : List (Elem × Option CapturedElement)) (x : Elem) (was is : Bool) (s : CapturedElement) where
  receiver_known : (y : Elem) → Known captured y → Known (with_receiver captured x was is s) y
  receiver_known y known =
      elim (is_some (captured_of captured x)) as (λ b. Known (if b then captured else (if was then (if is then captured else insert_entry elem_cmp captured x (Some s)) else insert_entry elem_cmp captured x None)) y) [
        | true ↦ known
        | false ↦ elim was as (λ b. Known (if b then (if is then captured else insert_entry elem_cmp captured x (Some s)) else insert_entry elem_cmp captured x None) y) [
          | true ↦ elim is as (λ b. Known (if b then captured else insert_entry elem_cmp captured x (Some s)) y) [ true ↦ known | false ↦ put_known captured y x (Some s) known ]
          | false ↦ put_known captured y x None known
        ]
      ]

  newcomer_known : was ≡ false → Known (with_receiver captured x was is s) x
  newcomer_known new =
      elim (is_some (captured_of captured x)) as (λ b. is_some (captured_of captured x) ≡ b → Known (if b then captured else (if was then (if is then captured else insert_entry elem_cmp captured x (Some s)) else insert_entry elem_cmp captured x None)) x) [
        | true ↦ λ known. known
        | false ↦ λ _. subst (λ b. Known (if b then (if is then captured else insert_entry elem_cmp captured x (Some s)) else insert_entry elem_cmp captured x None) x) (sym new) (put_here captured x None)
      ] refl

module _ (core : Core) (sound : IsSound core) (run : Run) (p : ℕ) (captured_on : AreCapturedOn core run p) where
  abbrev v : World
  v = present core

  -- the receiver, if it stands there afterwards
  receiver_on : (m : Message) (is : Bool) (e : CapturedElement) (s t : Option State) → (record_of v m.to).state ≡ s → lookup (is_at (elem_cmp m.to)) (placed core.places core.processors m.to s t) ≡ Some p →
      Known (with_receiver run.captured m.to (is_some (record_of v m.to).state) is e) m.to
  receiver_on m is e (Some s) (Some t) was there = receiver_known run.captured m.to (is_some (record_of v m.to).state) is e m.to (captured_on m.to there)
  receiver_on m is e (Some s) None was there =
      let gone : lookup (is_at (elem_cmp m.to)) (placed core.places core.processors m.to (Some s) None) ≡ None =
      lookup-removed elem_total m.to m.to core.places sound.rising_places ∙ ap (λ b. cond b None (lookup (is_at (elem_cmp m.to)) core.places)) (tied_elem m.to) in
      let none : None ≡ Some p = sym gone ∙ there in
      absurd (let never : ⊥ = cc in never)
  receiver_on m is e None t was there = newcomer_known run.captured m.to (is_some (record_of v m.to).state) is e (ap is_some was)

  message_captured : (id : MsgId) (q : Option Message) → message_among id v.pending ≡ q → (r : Reaction) → option_and_then (reaction_of v) q ≡ Some r → (x : Elem) →
      lookup (is_at (elem_cmp x)) (placed_after core id q) ≡ Some p → Known (with_message v q run).captured x
  message_captured id None found r reacts x there = absurd (let never : ⊥ = cc in never)
  message_captured id (Some m) found r reacts x there =
      let s = (record_of v m.to).state in
      let t = (record_of (after v (events.Deliver id)) m.to).state in
      let e = left_by (advanced (record_of v m.to) r) in
      subst (λ (q : Option Reaction). Known (with_reaction v m q run).captured x) (sym reacts)
      (elim (eq_by_cmp elem_cmp x m.to) as (λ b. eq_by_cmp elem_cmp x m.to ≡ b → Known (with_receiver run.captured m.to (is_some s) (is_some r.state) e) x) [
        | true ↦ λ same.
            let is : x ≡ m.to = tells_apart elem_exact x m.to same in
            subst (Known (with_receiver run.captured m.to (is_some s) (is_some r.state) e)) (sym is)
            (receiver_on m (is_some r.state) e s t refl (subst (λ y. lookup (is_at (elem_cmp y)) (placed core.places core.processors m.to s t) ≡ Some p) is there))
        | false ↦ λ apart.
            receiver_known run.captured m.to (is_some s) (is_some r.state) e x
            (captured_on x (sym (placed-elsewhere core.places core.processors m.to sound.rising_places x apart s t) ∙ there))
      ] refl)

  commit_captured : (committing : ℕ) (q : Option MsgId) (r : Reaction) → option_and_then (reaction_of v) (option_and_then (pending_message core) q) ≡ Some r → (x : Elem) →
      place_of (committed core committing q) x ≡ Some p → Known (with_message v (option_and_then (pending_message core) q) run).captured x
  commit_captured committing None r reacts x there = absurd (let never : ⊥ = cc in never)
  commit_captured committing (Some id) r reacts x there = message_captured id (pending_message core id) refl r reacts x there

pub deliveries_keep : DeliveriesKeepCaptured
deliveries_keep core run committing processor output sound is outcome captured_on x there =
    commit_captured core sound run processor captured_on committing (assigned_to core committing) outcome.0 outcome.1 x there

-- ---- all that is there

place_found : (place : Option ℕ) → is_some place ≡ true → (p : ℕ) × (place ≡ Some p)
place_found None some = absurd (let never : ⊥ = cc in never)
place_found (Some p) some = (p, refl)

pub processors_are_all : ProcessorsAreAll
processors_are_all core run sound captured_on x there =
    let at = place_found (place_of core x) ((sound.placed x).there ∙ there) in
    captured_on at.0 x at.1
