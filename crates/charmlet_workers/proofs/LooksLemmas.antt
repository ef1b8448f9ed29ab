-- What is seen of an element at a moment.
use Rattle.std.proofs.Common.{◌≡◌, ℕ, ◌==◌, true, false, cond, List, refl, sym, ap, subst, ◌∙◌}
use Rattle.std.specs.Prelude.{Option, Some, None, Result, Ok, Err, IfErr, is_some}
use Rattle.std.specs.BTreeMap.{is_at}
use Rattle.std.specs.Map.{lookup}
use Rattle.std.proofs.lemmas.Map.Views.{exact_unsigned_eq}
use Rattle.charmlet_model.specs.declared.names.Elem.{Elem}
use Rattle.charmlet_model.specs.declared.state.Record.{Record}
use Rattle.charmlet_model.specs.declared.state.State.{State}
use Rattle.charmlet_model.specs.Core.{Core, place_of, present}
use Rattle.charmlet_model.specs.Names.{elem_cmp}
use Rattle.charmlet_model.specs.Shelves.{if_here}
use Rattle.charmlet_model.specs.Sound.{IsSound}
use Rattle.charmlet_model.specs.World.{record_of}
use Rattle.charmlet_delivery.specs.Workplace.{ShowsOn}
use Rattle.charmlet_shelf.specs.Image.{IsImage, IsImageIf}
use Rattle.charmlet_shelf.specs.declared.image.Image.{Image}
use Rattle.charmlet_store.specs.declared.look.Look.{Look}
use Rattle.charmlet_store.specs.Look.{IsLook, StandsWith}
use Rattle.charmlet_store.proofs.Looks.{stands_so}
use Rattle.charmlet_workers.specs.Runtime.{IsMoment, RuntimeShown, WasSeen, WasTrue}
use Rattle.charmlet_workers.proofs.Runtimes.{seen_at}

module _ (x : Elem) (r : Record) (number : ℕ) (image : Image) where
  -- an element of which a shelf has an image stands there
  stands_there : (p : Option ℕ) (o : Option Record) → o ≡ if_here p number r → IsImageIf o x (Some image) → p ≡ Some number
  stands_there None o seen its = let none : Some image ≡ None = subst (λ o. IsImageIf o x (Some image)) seen its in absurd (let never : ⊥ = cc in never)
  stands_there (Some q) o seen its =
      elim (q == number) as (λ b. (q == number) ≡ b → IsImageIf (cond b (Some r) None) x (Some image) → Some q ≡ Some number) [
        | true ↦ λ same _. ap Some (exact_unsigned_eq q number same)
        | false ↦ λ _ none. absurd (let never : ⊥ = cc in never)
      ] refl (subst (λ o. IsImageIf o x (Some image)) seen its)

  -- and the image is that of its record
  image_of : (p : Option ℕ) (o : Option Record) → o ≡ if_here p number r → IsImageIf o x (Some image) → IsImage image x r
  image_of None o seen its = let none : Some image ≡ None = subst (λ o. IsImageIf o x (Some image)) seen its in absurd (let never : ⊥ = cc in never)
  image_of (Some q) o seen its =
      elim (q == number) as (λ b. IsImageIf (cond b (Some r) None) x (Some image) → IsImage image x r) [
        | true ↦ λ is. is
        | false ↦ λ none. absurd (let never : ⊥ = cc in never)
      ] (subst (λ o. IsImageIf o x (Some image)) seen its)

nowhere : (place : Option ℕ) (s : Option State) → is_some s ≡ false → StandsWith place s None
nowhere place None none = refl
nowhere place (Some s) none = absurd (let never : ⊥ = cc in never)

-- what is seen of an element that isn't there
pub absent_seen : (core : Core) (x : Elem) (sent received : ℕ) → IsSound core → place_of core x ≡ None → sent ≡ (record_of (present core) x).sent → received ≡ (record_of (present core) x).received →
    IsLook (place_of core x) (record_of (present core) x) (record { standing = None; sent = sent; received = received })
absent_seen core x sent received sound none sent_is received_is = record {
  standing = nowhere (place_of core x) (record_of (present core) x).state (sym (sound.placed x).there ∙ ap is_some none);
  sent = sent_is;
  received = received_is;
}

-- and of one of which the shelf of its place has an image
image_seen : (core : Core) (x : Elem) (number : ℕ) (records : List (Elem × Record)) (image : Image) → IsSound core → ShowsOn number records core.places (present core) → IsImageIf (lookup (is_at (elem_cmp x)) records) x (Some image) →
    IsLook (place_of core x) (record_of (present core) x) (record { standing = Some (record { processor = number; packed = image.packed }); sent = image.sent; received = image.received })
image_seen core x number records image sound shows its =
    let r = record_of (present core) x in
    let o = lookup (is_at (elem_cmp x)) records in
    let seen : o ≡ if_here (place_of core x) number r = shows.shown x in
    let on : place_of core x ≡ Some number = stands_there x r number image (place_of core x) o seen its in
    let there : is_some r.state ≡ is_some (Some number) = sym (sound.placed x).there ∙ ap is_some on in
    let shown : o ≡ if_here (Some number) number r = seen ∙ ap (λ p. if_here p number r) on in
    let of = image_of x r number image (place_of core x) o seen its in
    record {
      standing = subst (λ p. StandsWith p r.state (Some (record { processor = number; packed = image.packed }))) (sym on) (stands_so r x number image there o shown its);
      sent = of.sent;
      received = of.received;
    }

-- at a moment
pub shelf_seen : (shown : RuntimeShown) (x : Elem) (number : ℕ) (records : List (Elem × Record)) (image : Image) → WasTrue shown (λ core. ShowsOn number records core.places (present core)) → IsImageIf (lookup (is_at (elem_cmp x)) records) x (Some image) →
    WasSeen shown x (record { standing = Some (record { processor = number; packed = image.packed }); sent = image.sent; received = image.received })
shelf_seen shown x number records image on its = record { core = on.core; moment = on.moment; was = image_seen on.core x number records image on.moment.sound on.was its }

pub err_seen : {A : Type 0} {shown : RuntimeShown} {core seen : Core} (x : Elem) (r : Result A Look) → IsMoment shown core → seen ≡ core → IfErr r (IsLook (place_of seen x) (record_of (present seen) x)) → IfErr r (WasSeen shown x)
err_seen x (Ok a) moment same is = tt
err_seen x (Err look) moment same is = seen_at moment same (λ core. IsLook (place_of core x) (record_of (present core) x) look) is
