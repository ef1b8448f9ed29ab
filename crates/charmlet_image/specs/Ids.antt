-- Ids of messages as a table keeps them.
use Rattle.std.specs.Prelude.{Bool, not, List}
use Rattle.std.specs.List.{list_any}
use Rattle.charmlet_model.specs.declared.names.MsgId.{MsgId}
use Rattle.charmlet_model.specs.Names.{same_id}

-- none of the ids is this one
abbrev pub is_absent : List MsgId → MsgId → Bool
is_absent ids id = not (list_any (same_id id) ids)
