-- What images capture.
use Rattle.std.proofs.Common.{◌≡◌, inl, ℕ, ◌<◌, ◌^◌, true, false, List, [], ◌∷◌, ◌++◌, length, take, refl, sym, ap, subst, ◌∙◌, arith, if◌then◌else◌}
use Rattle.std.proofs.lemmas.List.{take_all}
use Rattle.std.specs.Prelude.{All, Option, Some, None, IfSome, is_some, option_map}
use Rattle.std.specs.BTreeMap.{insert_entry}
use Rattle.std.specs.List.{AllByRecursion}
use Rattle.std.proofs.lemmas.List.Elements.{recursion_from_All}
use Rattle.charmlet_model.specs.declared.names.Elem.{Elem}
use Rattle.charmlet_model.specs.declared.event.Event.{Event}
use Rattle.charmlet_model.specs.declared.state.State.{State}
use Rattle.charmlet_model.specs.declared.state.Record.{Record}
use Rattle.charmlet_model.specs.Core.{Core, present}
use Rattle.charmlet_model.specs.Fit.{IsFit}
use Rattle.charmlet_model.specs.Names.{elem_cmp}
use Rattle.charmlet_model.specs.Packed.{IsState, pupped}
use Rattle.charmlet_model.specs.Sound.{IsSound}
use Rattle.charmlet_model.specs.World.{World, world, record_of}
use Rattle.charmlet_model.proofs.SoundLemmas.{sound_fit}
use Rattle.charmlet_image.proofs.ImageLemmas.{length-packed}
use Rattle.charmlet_shelf.specs.declared.image.Image.{Image}
use Rattle.charmlet_persist.specs.declared.fuzzy_checkpoint.captured_element.CapturedElement.{CapturedElement}
use Rattle.charmlet_persist.specs.FuzzyCheckpoint.Checkpoint.{IsEntry, IsRunning, IsShownBy, Run, entry_of, events_since, captured_of, with_image, with_images, world_before}
use Rattle.charmlet_persist.proofs.FuzzyCheckpointLemmas.Steps.{Rises, Captures, now_is, put_rises, captured_put}

-- ---- one image

packed_is : (bytes : List ℕ) (o : Option State) → is_some o ≡ true → IfSome o (λ s. bytes ≡ pupped s) → Some bytes ≡ option_map pupped o
packed_is bytes None some is = absurd (let never : ⊥ = cc in never)
packed_is bytes (Some s) some is = ap (λ (l : List ℕ). Some l) is

packed_short : (bytes : List ℕ) (o : Option State) → is_some o ≡ true → IfSome o (λ s. bytes ≡ pupped s) → IfSome o (λ s. IsState s) → length bytes < 2 ^ 32
packed_short bytes None some is good = absurd (let never : ⊥ = cc in never)
packed_short bytes (Some s) some is good = omega (arith, length-packed s good, ap (length {A = ℕ}) is)

state_good : (o : Option State) (P : State → Type 0) → IfSome o (λ s. P s × IsState s) → IfSome o (λ s. IsState s)
state_good None P h = tt
state_good (Some s) P h = h.1

module _ (v : World) (fit : IsFit v) (image : Image) (shown : IsShownBy v image) where
  abbrev r : Record
  r = record_of v image.elem

  pub image_entry : IsEntry (entry_of image) r
  image_entry =
      let good = fit.records image.elem in
      record {
        sent = shown.is.sent;
        received = shown.is.received;
        packed = packed_is image.packed.items r.state shown.there shown.is.packed;
        short = packed_short image.packed.items r.state shown.there shown.is.packed (state_good r.state _ good.state);
        kept = inl shown.there;
      }

-- ---- all of them

-- the last one comes first
pub last_first : (captured : List (Elem × Option CapturedElement)) (images : List Image) (image : Image) → with_images captured (images ++ image ∷ []) ≡ with_images (with_image captured image) images
last_first captured [] image = refl
last_first captured (i ∷ images) image = ap (λ (s : List (Elem × Option CapturedElement)). with_image s i) (last_first captured images image)

module _ (w : World) (es : List Event) (v : World) (now : world w es ≡ v) (fit : IsFit v) where
  one_captures : (captured : List (Elem × Option CapturedElement)) (image : Image) → IsShownBy v image → Rises captured → ((x : Elem) → Captures w es x (captured_of captured x)) →
      Rises (with_image captured image) × ((x : Elem) → Captures w es x (captured_of (with_image captured image) x))
  one_captures captured image shown rises captures =
      let at : record_of v image.elem ≡ record_of (world w (take (length es) es)) image.elem =
      ap (λ (u : World). record_of u image.elem) (sym now) ∙ ap (λ (l : List Event). record_of (world w l) image.elem) (sym (take_all (length es) es (omega arith))) in
      elim (is_some (captured_of captured image.elem)) as (λ b.
      Rises (if b then captured else insert_entry elem_cmp captured image.elem (Some (entry_of image)))
      × ((x : Elem) → Captures w es x (captured_of (if b then captured else insert_entry elem_cmp captured image.elem (Some (entry_of image))) x))) [
        | true ↦ (rises, captures)
        | false ↦ (
          put_rises captured image.elem (Some (entry_of image)) rises,
          captured_put (Captures w es) captured image.elem (Some (entry_of image))
              (length es, (omega arith, subst (IsEntry (entry_of image)) at (image_entry v fit image shown))) (λ y apart. captures y),
        )
      ]

  all_capture : (images : List Image) (captured : List (Elem × Option CapturedElement)) → AllByRecursion (IsShownBy v) images → Rises captured → ((x : Elem) → Captures w es x (captured_of captured x)) →
      Rises (with_images captured images) × ((x : Elem) → Captures w es x (captured_of (with_images captured images) x))
  all_capture [] captured shown rises captures = (rises, captures)
  all_capture (image ∷ images) captured shown rises captures =
      let rest = all_capture images captured shown.1 rises captures in
      one_captures (with_images captured images) image shown.0 rest.0 rest.1

pub taken_running : (core : Core) (run : Run) (images : List Image) → IsSound core → All (IsShownBy (present core)) images → IsRunning core run → IsRunning core (record run { captured = with_images run.captured images })
taken_running core run images sound shown is =
    let all = all_capture (world_before core run) (events_since core run) (present core) (now_is core run is) (sound_fit core sound) images run.captured (recursion_from_All (IsShownBy (present core)) images shown) is.from.rising is.from.captured in
    record {
      after = is.after;
      within = is.within;
      from = record { rising = all.0; captured = all.1; caught_up = is.from.caught_up; count = is.from.count };
    }
