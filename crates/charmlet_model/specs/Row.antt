-- A client's row: the number of its last request, and a window with an item for each of its last
-- ones, the oldest first.
use Rattle.std.specs.Prelude.{ℕ, ◌+◌, ◌-◌, ◌==◌, nat_lt, nat_le, ◌&&◌, ◌||◌, Bool, List, [], ◌∷◌, ◌++◌, length, drop, slice_index_or, slice_set, if◌then◌else◌, Option, Some, None, is_some, is_none}
use Rattle.charmlet_model.specs.declared.client.ClientRow.{ClientRow}
use Rattle.charmlet_model.specs.Reaction.{greatest}

-- an item is a reply, or none if the request has no reply yet
abbrev pub Item : Type 0
Item = Option (List ℕ)

-- the row of a client that has made no request
abbrev pub no_client : ClientRow
no_client = record { last = 0; window = [] }

-- the number just below the window, or 0
abbrev pub below : ClientRow → ℕ
below row = row.last - length row.window

-- the number is in the window
abbrev pub in_window : ClientRow → ℕ → Bool
in_window row number = nat_lt (below row) number && nat_le number row.last

-- the place in the window of the item for one of its numbers
abbrev pub item_place : ClientRow → ℕ → ℕ
item_place row number = number - below row - 1

-- the item for one of its numbers
abbrev pub item_of : ClientRow → ℕ → Item
item_of row number = slice_index_or row.window (item_place row number) None

-- the reply to the number in the window, if there is one
abbrev pub reply_to : ClientRow → ℕ → Item
reply_to row number = if in_window row number then item_of row number else None

-- the number is in the window, and has no reply yet
abbrev pub awaits : ClientRow → ℕ → Bool
awaits row number = in_window row number && is_none (item_of row number)

-- there is room for one more request: fewer than eight items, or the oldest one has its reply
abbrev pub has_place : ClientRow → Bool
has_place row = nat_lt (length row.window) 8 || is_some (slice_index_or row.window 0 None)

-- the number follows the last one
abbrev pub follows_last : ClientRow → ℕ → Bool
follows_last row number = (number == row.last + 1) && nat_le number greatest

-- a request that can be accepted has the next number, and the window has room for it
abbrev pub is_next : ClientRow → ℕ → Bool
is_next row number = follows_last row number && has_place row

-- a full window drops its oldest item
abbrev pub with_place : List Item → List Item
with_place window = if nat_lt (length window) 8 then window else drop 1 window

-- the client's next request is accepted
abbrev pub with_request : ClientRow → ℕ → ClientRow
with_request row number = record { last = number; window = with_place row.window ++ None ∷ [] }

-- the reply to a request of the window is kept
abbrev pub with_reply : ClientRow → ℕ → List ℕ → ClientRow
with_reply row number reply = record {
  last = row.last;
  window = slice_set row.window (item_place row number) (Some reply);
}
