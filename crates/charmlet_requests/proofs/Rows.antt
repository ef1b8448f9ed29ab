-- The present rows of clients.
use Rattle.std.proofs.Common.{◌≡◌, ℕ, List, Option, ap, ◌∙◌}
use Rattle.std.specs.Prelude.{option_map, unwrap_or}
use Rattle.std.specs.Ordering.{nat_cmp}
use Rattle.std.specs.BTreeMap.{is_at}
use Rattle.std.specs.Map.{lookup}
use Rattle.std.proofs.lemmas.Map.Made.{lookup-map_values}
use Rattle.charmlet_model.specs.Row.{no_client}
use Rattle.charmlet_model.specs.World.{row_of}
use Rattle.charmlet_world.specs.Client.Client.{Rows}
use Rattle.charmlet_world.specs.Seen.{present_rows}

-- the present row of what is kept of a client
pub row_in : (clients : List (ℕ × Rows)) (c : ℕ) (o : Option Rows) → lookup (is_at (nat_cmp c)) clients ≡ o →
    row_of (present_rows clients) c ≡ unwrap_or (option_map (λ (rows : Rows). rows.present) o) no_client
row_in clients c o is =
    ap (λ found. unwrap_or found no_client)
    (lookup-map_values (λ (rows : Rows). rows.present) (is_at (nat_cmp c)) clients ∙ ap (option_map (λ (rows : Rows). rows.present)) is)
