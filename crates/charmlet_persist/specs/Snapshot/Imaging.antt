-- What a shelf answers that is asked for the image of an element.
use Rattle.std.specs.Prelude.{◌≡◌, true, IfErr, IfOk, IsOk, Option, None, Result, if◌then◌else◌}
use Rattle.std.specs.BTreeMap.{is_at}
use Rattle.std.specs.Map.{lookup}
use Rattle.charmlet_model.specs.declared.names.Elem.{Elem}
use Rattle.charmlet_model.specs.declared.refusal.Refusal.{Refusal}
use Rattle.charmlet_model.specs.declared.refusal.Refusal.TheVariants as refusals
use Rattle.charmlet_model.specs.Names.{elem_cmp}
use Rattle.charmlet_shelf.specs.declared.image.Image.{Image}
use Rattle.charmlet_shelf.specs.Image.{IsImageIf}
use Rattle.charmlet_shelf.specs.Shelf.{View, is_idle}

-- The answer of a shelf that is asked for the image of an element: there is none of one that isn't
-- here; it is refused if a delivery is under way, or else when out of memory, which only an element
-- that is here takes.
pub record AnswersImage (shelf : View) (x : Elem) (answer : Result (Option Image) Refusal)
    : Type 0 where
  pub ok : IfOk answer (λ image. (is_idle shelf.phase ≡ true)
      × IsImageIf (lookup (is_at (elem_cmp x)) shelf.records) x image)
  pub err : IfErr answer (λ refusal. refusal ≡ (if is_idle shelf.phase
      then refusals.Memory else refusals.Uncommitted))
  pub absent : is_idle shelf.phase ≡ true →
      lookup (is_at (elem_cmp x)) shelf.records ≡ None → IsOk answer
