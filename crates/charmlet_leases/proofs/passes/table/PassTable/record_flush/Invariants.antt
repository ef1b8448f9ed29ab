use Rattle.charmlet_history.specs.Kept.{core_in}
use Rattle.charmlet_leases.specs.Passes.Passes.{event_count, held_by}
use Rattle.charmlet_leases.proofs.passes.table.PassTable.record_flush.Given as goal

-- what the pass then holds
abbrev pub ghosts-write_flush : goal.ghosts-write_flush
ghosts-write_flush g a = record { value = record (held_by a.fragment.now.1) { flushed = event_count (core_in a._history.now) } }
