-- The messages that processors are to deliver.
use Rattle.std.specs.Prelude.{◌≡◌, ℕ, List, Option, Some, None, IfSome}
use Rattle.std.specs.Ordering.{nat_cmp}
use Rattle.std.specs.BTreeMap.{insert_entry, is_at}
use Rattle.std.specs.List.Sorted.{IsStrictlySortedBy}
use Rattle.std.specs.Map.{keys_of, lookup}
use Rattle.charmlet_model.specs.declared.names.MsgId.{MsgId}

-- each processor that has a message, with that message's id
pub record Assignments : Type 0 where
  pub entries : List (ℕ × MsgId)

-- all entries, one of which may be kept apart from the others
abbrev pub all_entries : Option (ℕ × MsgId) → List (ℕ × MsgId) → List (ℕ × MsgId)
all_entries None others = others
all_entries (Some first) others = insert_entry nat_cmp others first.0 first.1

-- the processors of the others rise, and the one that is kept apart isn't among them
pub record AreApart (first : Option (ℕ × MsgId)) (others : List (ℕ × MsgId)) : Type 0 where
  pub rising : IsStrictlySortedBy nat_cmp (keys_of others)
  pub apart : IfSome first (λ e. lookup (is_at (nat_cmp e.0)) others ≡ None)
