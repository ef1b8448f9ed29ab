-- What all shelves show.
use Rattle.std.proofs.Common.{◌≡◌, ℕ, ◌<◌, List, length, ap, ◌∙◌, sym}
use Rattle.std.specs.Prelude.{Some}
use Rattle.std.specs.BTreeMap.{is_at}
use Rattle.std.specs.List.{All}
use Rattle.std.specs.Map.{lookup}
use Rattle.std.proofs.Math.ListN.{get_or-map}
use Rattle.std.proofs.lemmas.List.Elements.{All-get_or}
use Rattle.charmlet_model.specs.declared.names.Elem.{Elem}
use Rattle.charmlet_model.specs.Names.{elem_cmp}
use Rattle.charmlet_model.specs.World.{World, record_of}
use Rattle.charmlet_model.specs.Shelves.{Shows, if_here, shelf_of}
use Rattle.charmlet_shelf.specs.Shelf.{View}
use Rattle.charmlet_migrate.specs.Copying.{empty_shelf, shelf_at}
use Rattle.charmlet_migrate.specs.Moving.{IsIdle, records_on}
use Rattle.charmlet_delivery.proofs.Places.{if_here_same}

-- the shelves' records by processor
pub records_at : (shelves : List View) (k : ℕ) → shelf_of (records_on shelves) k ≡ (shelf_at shelves k).records
records_at shelves k = get_or-map (λ (v : View). v.records) shelves k (empty_shelf 0)

-- an element stands on the shelf of its place
pub stands_here : (shelves : List View) (places : List (Elem × ℕ)) (w : World) → Shows (records_on shelves) places w → (x : Elem) (p : ℕ) → lookup (is_at (elem_cmp x)) places ≡ Some p →
    lookup (is_at (elem_cmp x)) (shelf_at shelves p).records ≡ Some (record_of w x)
stands_here shelves places w shows x p place =
    ap (lookup (is_at (elem_cmp x))) (sym (records_at shelves p)) ∙ shows.shown p x ∙ ap (λ o. if_here o p (record_of w x)) place ∙ if_here_same p (record_of w x)

pub idle_at : (shelves : List View) (k : ℕ) → k < length shelves → All IsIdle shelves → IsIdle (shelf_at shelves k)
idle_at shelves k within idle = All-get_or IsIdle shelves k (empty_shelf 0) within idle
