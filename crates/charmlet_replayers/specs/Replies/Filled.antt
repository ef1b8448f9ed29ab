-- Rows that are filled with replies.
use Rattle.std.specs.Prelude.{◌≡◌, ℕ, List, [], ◌∷◌, if◌then◌else◌, Option, Some, None}
use Rattle.std.specs.BTreeMap.{is_at}
use Rattle.std.specs.Map.{lookup, set_value}
use Rattle.std.specs.Ordering.{nat_cmp}
use Rattle.charmlet_model.specs.declared.client.ClientRow.{ClientRow}
use Rattle.charmlet_model.specs.declared.event.Event.{Event}
use Rattle.charmlet_model.specs.Row.{in_window, reply_to, with_reply}
use Rattle.charmlet_model.specs.World.{World, client_of, row_of, world}
use Rattle.charmlet_recovery.specs.Replays.{blank_rows, last_reply}
use Rattle.charmlet_replayers.specs.declared.replies.reply.Reply.{Reply}

-- the words are put over what the row has for the request, if that is in the window
abbrev pub with_words : ClientRow → ℕ → List ℕ → ClientRow
with_words row number words = if in_window row number then with_reply row number words else row

-- the same in the row that was found, if there is one
abbrev pub put_at : List (ℕ × ClientRow) → Reply → Option ClientRow → List (ℕ × ClientRow)
put_at rows r None = rows
put_at rows r (Some row) =
    set_value (is_at (nat_cmp r.client)) rows (with_words row r.number r.words)

-- a reply is put into its client's row
abbrev pub put_reply : List (ℕ × ClientRow) → Reply → List (ℕ × ClientRow)
put_reply rows r = put_at rows r (lookup (is_at (nat_cmp r.client)) rows)

-- replies are put into rows, one after the other
abbrev pub filled : List (ℕ × ClientRow) → List Reply → List (ℕ × ClientRow)
filled rows [] = rows
filled rows (r ∷ rs) = filled (put_reply rows r) rs

-- The rows are those of the world after the history, but for the words of the replies that the
-- history gives.
pub record AreButForReplies (w : World) (history : List Event)
    (rows : List (ℕ × ClientRow)) : Type 0 where
  pub blank : blank_rows rows ≡ blank_rows (world w history).clients
  pub others : (client number : ℕ) → last_reply client number w history ≡ None →
      reply_to (row_of rows client) number ≡ reply_to (client_of (world w history) client) number
