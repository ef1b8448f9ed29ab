-- A client's row in the present world and in the durable one, and what is kept for them.
use Rattle.std.specs.Prelude.{ℕ, ◌+◌, ◌≤◌, Bool, List, [], ◌∷◌, ◌++◌, length, if◌then◌else◌, Option, None}
use Rattle.charmlet_model.specs.declared.client.ClientRow.{ClientRow}

-- the row in the present world, and the one in the durable world
pub record Rows : Type 0 where
  pub present : ClientRow
  pub durable : ClientRow

-- the same row in both worlds
abbrev pub same_rows : ClientRow → Rows
same_rows row = record { present = row; durable = row }

-- another present row, and the same durable one
abbrev pub with_present : Rows → ClientRow → Rows
with_present rows row = record { present = row; durable = rows.durable }

-- the present row is the durable one
abbrev pub flushed : Rows → Rows
flushed rows = same_rows rows.present

-- ---- what is kept

-- the first items as the durable row has them: each with its reply if that is durable
abbrev pub shown : List Bool → List (Option (List ℕ)) → List (Option (List ℕ))
shown [] items = []
shown (b ∷ bs) [] = []
shown (b ∷ bs) (item ∷ items) = (if b then item else None) ∷ shown bs items

-- the durable row: its last number, the items that the present window has dropped, and those that
-- it still has
abbrev pub durable_row : ClientRow → ℕ → List (Option (List ℕ)) → List Bool → ClientRow
durable_row present last dropped durable =
    record { last = last; window = dropped ++ shown durable present.window }

-- both windows have at most eight items, and the last ones of the durable window are the first ones
-- of the present one
pub record IsWithin (window dropped : List (Option (List ℕ))) (durable : List Bool) : Type 0 where
  pub few : length window ≤ 8
  pub few_durable : length dropped + length durable ≤ 8
  pub shared : length durable ≤ length window
