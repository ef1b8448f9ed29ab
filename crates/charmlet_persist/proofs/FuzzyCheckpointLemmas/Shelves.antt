-- The images of a shelf that shows its part of the present world.
use Rattle.std.proofs.Common.{◌≡◌, ℕ, ◌==◌, ◌||◌, true, false, cond, List, [], ◌∷◌, refl, sym, ap, subst, ◌∙◌}
use Rattle.std.proofs.lemmas.Bool.{eq-eqb}
use Rattle.std.proofs.lemmas.List.Elements.{All-from_recursion}
use Rattle.std.proofs.lemmas.Map.Views.{tells_apart}
use Rattle.std.specs.Prelude.{Option, Some, None, is_some, if◌then◌else◌}
use Rattle.std.specs.BTreeMap.{is_at}
use Rattle.std.specs.List.{AllByRecursion, list_any}
use Rattle.std.specs.Map.{keys_of, lookup}
use Rattle.std.specs.Ordering.{eq_by_cmp}
use Rattle.charmlet_model.specs.declared.names.Elem.{Elem}
use Rattle.charmlet_model.specs.declared.state.Record.{Record}
use Rattle.charmlet_model.specs.Core.{Core, place_of, present}
use Rattle.charmlet_model.specs.Names.{elem_cmp, same_elem}
use Rattle.charmlet_model.specs.Shelves.{if_here}
use Rattle.charmlet_model.specs.Sound.{IsSound}
use Rattle.charmlet_model.specs.World.{World, record_of}
use Rattle.charmlet_model.proofs.Fits.{AllByRecursion-map}
use Rattle.charmlet_model.proofs.Maps.{elem_exact, same_from_test}
use Rattle.charmlet_shelf.specs.declared.image.Image.{Image}
use Rattle.charmlet_shelf.specs.Image.{HasImage, IsImage, IsImageIn}
use Rattle.charmlet_delivery.specs.Workplace.{ShowsOn}
use Rattle.charmlet_persist.specs.declared.fuzzy_checkpoint.captured_element.CapturedElement.{CapturedElement}
use Rattle.charmlet_persist.specs.FuzzyCheckpoint.Laws.{ShelvesAreTaken}
use Rattle.charmlet_persist.specs.FuzzyCheckpoint.Checkpoint.{IsShownBy, with_image, with_images}
use Rattle.charmlet_persist.proofs.FuzzyCheckpointLemmas.Others.{Known, image_here, image_known}

-- an element that is found among the records
abbrev Found : List (Elem × Record) → Elem → Type 0
Found records x = is_some (lookup (is_at (elem_cmp x)) records) ≡ true

-- what is here is there
here_is : (place : Option ℕ) (processor : ℕ) (r found : Record) → if_here place processor r ≡ Some found → (is_some place ≡ true) × (r ≡ found)
here_is None processor r found is = absurd (let never : ⊥ = cc in never)
here_is (Some p) processor r found is =
    elim (p == processor) as (λ b. (if b then Some r else None) ≡ Some found → (true ≡ true) × (r ≡ found)) [
      | true ↦ λ same. (refl, let is_same : r ≡ found = cc in is_same)
      | false ↦ λ none. absurd (let never : ⊥ = cc in never)
    ] is

module _ (core : Core) (sound : IsSound core) (processor : ℕ) (records : List (Elem × Record)) (shows : ShowsOn processor records core.places (present core)) where
  abbrev w : World
  w = present core

  shown_by : (image : Image) (found : Record) → lookup (is_at (elem_cmp image.elem)) records ≡ Some found → IsImage image image.elem found → IsShownBy w image
  shown_by image found is image_is =
      let here = here_is (place_of core image.elem) processor (record_of w image.elem) found (sym (shows.shown image.elem) ∙ is) in
      record {
        there = sym (sound.placed image.elem).there ∙ here.0;
        is = subst (IsImage image image.elem) (sym here.1) image_is;
      }

  all_shown : (images : List Image) → AllByRecursion (IsImageIn records) images → AllByRecursion (IsShownBy w) images
  all_shown images each = AllByRecursion-map (IsImageIn records) (IsShownBy w) images (λ image in_it. shown_by image in_it.0 in_it.1 in_it.2) each

  stands_here : (x : Elem) → place_of core x ≡ Some processor → Found records x
  stands_here x at =
      ap is_some (shows.shown x ∙ ap (λ place. if_here place processor (record_of w x)) at)
      ∙ ap (λ b. is_some (if b then Some (record_of w x) else None)) (eq-eqb processor processor refl)

-- an element that is found is one of the keys
key_of_found : (P : Elem → Type 0) (es : List (Elem × Record)) → AllByRecursion P (keys_of es) → (x : Elem) → Found es x → P x
key_of_found P [] all x found = absurd (let never : ⊥ = cc in never)
key_of_found P (e ∷ es) all x found =
    elim (eq_by_cmp elem_cmp x e.0) as (λ b. eq_by_cmp elem_cmp x e.0 ≡ b → is_some (cond b (Some e.1) (lookup (is_at (elem_cmp x)) es)) ≡ true → P x) [
      | true ↦ λ same _. subst P (sym (tells_apart elem_exact x e.0 same)) all.0
      | false ↦ λ _ later. key_of_found P es all.1 x later
    ] refl found

-- an element that has an image is captured by it
image_covers : (captured : List (Elem × Option CapturedElement)) (images : List Image) (x : Elem) → HasImage images x → Known (with_images captured images) x
image_covers captured [] x has = absurd (let never : ⊥ = cc in never)
image_covers captured (image ∷ images) x has =
    let rest = with_images captured images in
    elim (same_elem x image.elem) as (λ b. same_elem x image.elem ≡ b → (b || list_any (λ (i : Image). same_elem x i.elem) images) ≡ true → Known (with_image rest image) x) [
      | true ↦ λ same _. subst (Known (with_image rest image)) (sym (same_from_test x image.elem same)) (image_here rest image)
      | false ↦ λ _ later. image_known rest image x (image_covers captured images x later)
    ] refl has

pub shelves_are_taken : ShelvesAreTaken
shelves_are_taken core run processor records images sound shows are = (
  All-from_recursion (IsShownBy (present core)) images (all_shown core sound processor records shows images are.each),
  λ x at. image_covers run.captured images x (key_of_found (HasImage images) records are.all x (stands_here core sound processor records shows x at)),
)
