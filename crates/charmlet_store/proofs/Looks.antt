-- What is seen of an element.
use Rattle.std.proofs.Common.{◌≡◌, ℕ, cond, refl, ap, subst, ◌∙◌}
use Rattle.std.specs.Prelude.{Option, Some, None, IfSome, is_some}
use Rattle.std.specs.Cmp.{nat_eq_equiv}
use Rattle.charmlet_model.specs.declared.names.Elem.{Elem}
use Rattle.charmlet_model.specs.declared.state.State.{State}
use Rattle.charmlet_model.specs.declared.state.Record.{Record}
use Rattle.charmlet_model.specs.Packed.{pupped}
use Rattle.charmlet_model.specs.Shelves.{if_here}
use Rattle.charmlet_shelf.specs.Image.{IsImage, IsImageIf}
use Rattle.charmlet_shelf.specs.declared.image.Image.{Image}
use Rattle.charmlet_store.specs.Look.{StandsWith}

module _ (r : Record) (x : Elem) (place : ℕ) where
  -- the shelf of its place shows an element
  seen_there : if_here (Some place) place r ≡ Some r
  seen_there = ap (λ b. cond b (Some r) None) (nat_eq_equiv.refl place)

  -- and so there is an image of it
  pub has_image : (o : Option Record) → o ≡ if_here (Some place) place r → IsImageIf o x None → ⊥
  has_image None seen image = let no : None ≡ Some r = seen ∙ seen_there in cc
  has_image (Some v) seen image = image

  module _ (image : Image) where
    is_image : (o : Option Record) → o ≡ if_here (Some place) place r → IsImageIf o x (Some image) → IsImage image x r
    is_image None seen none = absurd (let never : ⊥ = cc in never)
    is_image (Some v) seen its = let both : Some v ≡ Some r = seen ∙ seen_there in let one : v ≡ r = cc in subst (IsImage image x) one its

    stands_by : (s : Option State) → r.state ≡ s → is_some s ≡ is_some (Some place) → IsImage image x r → StandsWith (Some place) s (Some (record { processor = place; packed = image.packed }))
    stands_by None is there its = absurd (let never : ⊥ = cc in never)
    stands_by (Some s) is there its = (refl, subst (λ o. IfSome o (λ s. image.packed.items ≡ pupped s)) is its.packed)

    -- it stands with the image's bytes
    pub stands_so : is_some r.state ≡ is_some (Some place) → (o : Option Record) → o ≡ if_here (Some place) place r → IsImageIf o x (Some image) → StandsWith (Some place) r.state (Some (record { processor = place; packed = image.packed }))
    stands_so there o seen its = stands_by r.state refl there (is_image o seen its)
