use Rattle.charmlet_leases.specs.Passes.Passes.{held_by, with_answer}
use Rattle.charmlet_leases.proofs.passes.table.PassTable.status.Given as goal

-- what the pass then holds
abbrev pub ghosts-write_told : goal.ghosts-write_told
ghosts-write_told g a = record { value = with_answer (held_by a.fragment.now.1) a._pass.now a._number a._told.now }
