-- How elements are shared out among replayers.
use Rattle.std.specs.Prelude.{ℕ, ◌%◌}
use Rattle.charmlet_model.specs.declared.names.Elem.{Elem}
use Rattle.charmlet_model.specs.Core.{home}

-- the worker of an element: worker w has the shelves of the processors p with p mod workers = w
abbrev pub worker_of : ℕ → ℕ → Elem → ℕ
worker_of processors workers x = home x processors % workers
