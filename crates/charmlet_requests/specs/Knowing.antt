-- What a client knows about its requests, as a row of its own.
use Rattle.std.specs.Prelude.{◌≡◌, ◌⊎◌, ℕ, zero, suc, ◌+◌, ◌-◌, ◌≤◌, nat_lt, Bool, true, false, List, length, drop, if◌then◌else◌}
use Rattle.charmlet_model.specs.declared.client.ClientRow.{ClientRow}
use Rattle.charmlet_model.specs.declared.told.Told.{Told}
use Rattle.charmlet_model.specs.declared.told.Told.TheVariants.{Unknown, Accepted, Replied, Past}
use Rattle.charmlet_model.specs.Row.{awaits, below, with_reply, with_request}

-- the window of a row has at most eight items, and none for a number below 1
pub record IsWindowed (row : ClientRow) : Type 0 where
  pub few : length row.window ≤ 8
  pub numbered : length row.window ≤ row.last

-- the greater of two numbers
abbrev pub greater : ℕ → ℕ → ℕ
greater a b = if nat_lt a b then b else a

-- all requests up to this number are past
abbrev pub passed : ClientRow → ℕ → ClientRow
passed row number = record {
  last = greater row.last number;
  window = drop (number - below row) row.window;
}

-- n more requests were accepted
abbrev pub gone_on : ClientRow → ℕ → ClientRow
gone_on row zero = row
gone_on row (suc more) = gone_on (with_request row (row.last + 1)) more

-- all requests up to this number were accepted, so those below a window of eight are past
abbrev pub reached : ClientRow → ℕ → ClientRow
reached row number = gone_on (passed row (number - 8)) (number - (passed row (number - 8)).last)

-- the reply to a request is known
abbrev pub with_known_reply : ClientRow → ℕ → List ℕ → ClientRow
with_known_reply row number reply = if awaits row number then with_reply row number reply else row

-- what is known after this was told about a request
abbrev pub heard : ClientRow → ℕ → Told → ClientRow
heard row number Unknown = row
heard row number Accepted = reached row number
heard row number (Replied reply) = with_known_reply (reached row number) number reply
heard row number Past = passed row number

-- The second of two answers about a request says no less than the first, and no other words:
-- Unknown, Accepted, Replied and Past rise.
abbrev pub IsNoLess : Told → Told → Type 0
IsNoLess Unknown later = Unit {0}
IsNoLess Accepted Unknown = ⊥
IsNoLess Accepted later = Unit {0}
IsNoLess (Replied reply) later = (later ≡ Replied reply) ⊎ (later ≡ Past)
IsNoLess Past later = later ≡ Past

-- the answer says nothing of the request
abbrev pub is_unknown : Told → Bool
is_unknown Unknown = true
is_unknown _ = false
