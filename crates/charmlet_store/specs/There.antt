-- How many elements there are.
use Rattle.std.specs.Prelude.{ℕ}
use Rattle.charmlet_model.specs.declared.kind.Kind.{Kind}
use Rattle.charmlet_model.specs.World.{World}
use Rattle.charmlet_model.specs.Shelves.{there_in}

-- how many elements of the kind are there
abbrev pub there_of : World → Kind → ℕ
there_of w kind = there_in w.records kind
