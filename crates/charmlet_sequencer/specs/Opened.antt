-- The shelves with which a sequencer opens.
use Rattle.std.specs.Prelude.{◌≡◌, List, length}
use Rattle.std.specs.List.{All}
use Rattle.charmlet_model.specs.Core.{present}
use Rattle.charmlet_model.specs.Shelves.{AddsUp, Shows}
use Rattle.charmlet_shelf.specs.Shelf.{View}
use Rattle.charmlet_stock.specs.ByKind.{at}
use Rattle.charmlet_migrate.specs.Moving.{IsIdle, objects_among, records_on}
use Rattle.charmlet_migrate.specs.StoreParts.{AreNumbered}
use Rattle.charmlet_sequencer.specs.Sequencer.{SequencerShown, supplied_of}

-- There is a shelf for each processor, in their order, with no delivery under way; the shelves show
-- the present world of the core; and of each kind, what was supplied is on them, in the stock, or
-- retired.
pub record AreShelvesOf {D : Type 0} (sequencer : SequencerShown D) (shelves : List View)
    : Type 0 where
  pub count : length shelves ≡ sequencer.core.processors
  pub numbers : AreNumbered shelves
  pub idle : All IsIdle shelves
  pub objects : Shows (records_on shelves) sequencer.core.places (present sequencer.core)
  pub counted : AddsUp (supplied_of sequencer) (objects_among shelves)
      (λ kind. (at sequencer.census kind).in_stock) (λ kind. (at sequencer.census kind).retired)
