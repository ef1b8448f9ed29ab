use Rattle.std.proofs.Common.{take}
use Rattle.charmlet_shard.proofs.Entries.{Brought}
use Rattle.charmlet_shard.proofs.restored_shard.RestoredShard.restore_all.Given as goal

-- the entries so far came back
abbrev pub invariant-loop-entry : goal.invariant-loop-entry
invariant-loop-entry g l = Brought l.manifest l.fn.self (take l.entry-index l.entries) l.self
