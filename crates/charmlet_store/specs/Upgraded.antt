-- Shelves whose objects go on in the newest versions of their kinds.
use Rattle.std.specs.Prelude.{List, map}
use Rattle.charmlet_model.specs.Upgrade.{up_records}
use Rattle.charmlet_shelf.specs.Shelf.{View}

-- one shelf
abbrev pub up_shelf : View → View
up_shelf shelf = record shelf { records = up_records shelf.records }

-- each of them
abbrev pub up_shelves : List View → List View
up_shelves = map up_shelf
