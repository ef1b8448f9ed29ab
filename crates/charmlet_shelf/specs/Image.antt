-- Images of elements.
use Rattle.std.specs.Prelude.{◌≡◌, true, List, IfSome, Option, Some, None, length}
use Rattle.std.specs.BTreeMap.{is_at}
use Rattle.std.specs.List.{AllByRecursion, list_any}
use Rattle.std.specs.Map.{lookup}
use Rattle.charmlet_model.specs.declared.names.Elem.{Elem}
use Rattle.charmlet_model.specs.declared.state.Record.{Record}
use Rattle.charmlet_model.specs.Names.{elem_cmp, same_elem}
use Rattle.charmlet_model.specs.Packed.{pupped}
use Rattle.charmlet_shelf.specs.declared.image.Image.{Image}

-- the image has the element's counts and its packed state
pub record IsImage (image : Image) (x : Elem) (r : Record) : Type 0 where
  pub elem : image.elem ≡ x
  pub sent : image.sent ≡ r.sent
  pub received : image.received ≡ r.received
  pub packed : IfSome r.state (λ s. image.packed.items ≡ pupped s)

-- the image is that of the element, if it has a record
abbrev pub IsImageIf : Option Record → Elem → Option Image → Type 0
IsImageIf None x image = image ≡ None
IsImageIf (Some r) x None = ⊥
IsImageIf (Some r) x (Some image) = IsImage image x r

-- the image is that of its element, which has a record
abbrev pub IsImageIn : List (Elem × Record) → Image → Type 0
IsImageIn records image = (r : Record)
    × (lookup (is_at (elem_cmp image.elem)) records ≡ Some r) × IsImage image image.elem r

-- one of the images is that of the element
abbrev pub HasImage : List Image → Elem → Type 0
HasImage images x = list_any (λ (image : Image). same_elem x image.elem) images ≡ true

-- the images are those of these elements, each once, in any order
pub record AreImages (records : List (Elem × Record)) (elems : List Elem)
    (images : List Image) : Type 0 where
  pub each : AllByRecursion (IsImageIn records) images
  pub all : AllByRecursion (HasImage images) elems
  pub once : length images ≡ length elems
