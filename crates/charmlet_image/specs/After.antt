-- How lists are read whose items depend on those before them: they have to rise, say, or to be
-- distinct.
use Rattle.std.specs.Prelude.{ℕ, zero, suc, Bool, List, [], ◌∷◌, ◌++◌}
use Rattle.charmlet_model.specs.declared.names.MsgId.{MsgId}
use Rattle.charmlet_model.specs.declared.message.Message.{Message}
use Rattle.charmlet_record.specs.Reading.{Reads, ◌>>=◌, yield, checked, read_within, Kinds, read_id, read_message_of}

-- that many items, one after the other; what may come next depends on the items before it
unfoldable pub read_after : {X : Type 0} → (List X → Reads X) → ℕ → List X → Reads (List X)
read_after read zero before = yield before
read_after read (suc n) before = do
  x ← read before
  read_after read n (before ++ x ∷ [])

-- such a list: its length in four bytes, from low to high, and then its items
unfoldable pub read_list_after : {X : Type 0} → ℕ → ℕ → (List X → Reads X) → Reads (List X)
read_list_after low high read = read_within low high 4 >>= λ count. read_after read count []

-- a message whose id has to pass a test
unfoldable pub read_message_if : (MsgId → Bool) → Kinds → Reads Message
read_message_if test kinds = checked test (read_id kinds) >>= read_message_of kinds
