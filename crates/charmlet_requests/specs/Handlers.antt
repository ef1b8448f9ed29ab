-- Names of handlers.
use Rattle.std.specs.Prelude.{◌≡◌, ℕ, List, Option, Some, None}
use Rattle.std.specs.BTreeMap.{get_by_text}
use Rattle.charmlet_model.specs.declared.names.Elem.{Elem}
use Rattle.charmlet_model.specs.World.{World, version_of_array}
use Rattle.charmlet_requests.specs.declared.handlers.Handler.{Handler}
use Rattle.charmlet_requests.specs.declared.handlers.Handlers.{Handlers}

-- the handler that is registered under a name, if there is one
abbrev pub handler_of : Handlers → List ℕ → Option Handler
handler_of handlers name = get_by_text handlers.by_name name

-- where a request to a handler goes, and at which entry; without a handler, to an element of an
-- array that isn't in the manifest
abbrev pub IsTarget : World → ℕ → Option Handler → Elem → ℕ → Type 0
IsTarget w index (Some handler) to entry = (to ≡ record { array = handler.array; index = index })
    × (entry ≡ handler.entry)
IsTarget w index None to entry = version_of_array w to.array ≡ None
