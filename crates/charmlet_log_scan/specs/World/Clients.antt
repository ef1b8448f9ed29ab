-- The clients' rows, in the order in which the clients came.
use Rattle.std.specs.Prelude.{◌≡◌, ℕ, List, [], ◌∷◌, Some, nat_eq, slice_get, unwrap_or}
use Rattle.std.specs.BTreeMap.{insert_entry}
use Rattle.std.specs.Map.{lookup}
use Rattle.std.specs.Ordering.{nat_cmp}
use Rattle.charmlet_world.specs.Client.Client.{Rows}
use Rattle.charmlet_world.specs.Seen.{new_client}

-- the rows of the client
abbrev pub client_in : List (ℕ × Rows) → ℕ → Rows
client_in entries client = unwrap_or (lookup (nat_eq client) entries) new_client

-- where the rows of the client stand
abbrev pub IsPlace : List (ℕ × Rows) → ℕ → ℕ → Type 0
IsPlace entries place client = slice_get entries place ≡ Some (client, client_in entries client)

-- the same entries, their keys rising: the list that a tree of them would be
abbrev pub risen_clients : List (ℕ × Rows) → List (ℕ × Rows)
risen_clients [] = []
risen_clients (e ∷ es) = insert_entry nat_cmp (risen_clients es) e.0 e.1
