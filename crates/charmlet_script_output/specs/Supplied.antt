-- Objects that a script supplies.
use Rattle.std.specs.Prelude.{ℕ, ◌≤◌, List}
use Rattle.charmlet_model.specs.declared.kind.Kind.{Kind}
use Rattle.charmlet_model.specs.declared.state.State as states
use Rattle.charmlet_model.specs.Shelves.{count_of}
use Rattle.charmlet_script.specs.declared.script.Line.{Line}
use Rattle.charmlet_script.specs.Script.{blanks_of}
use Rattle.charmlet_chare.specs.declared.chare.Chare.{Ghosts}
use Rattle.charmlet_stock.specs.declared.stock.Stock.{Stock}
use Rattle.charmlet_stock.specs.Stock.{blanks_in}

-- there are as many objects of each kind as the lines supply
abbrev pub AreEnough : {C : Type 0} → (C → states.State) → List C → List Line → Type 0
AreEnough state objects lines = (kind : Kind) → blanks_of kind lines ≤ count_of state objects kind

-- how many blanks of a kind are still to be supplied
abbrev pub blanks_left : {C : Type 0} {G : Ghosts C} → Stock C G → Kind → ℕ
blanks_left source kind = blanks_in source kind
