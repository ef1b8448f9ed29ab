use Rattle.charmlet_leases.specs.Passes.Passes.{held_by, with_request}
use Rattle.charmlet_leases.proofs.passes.table.PassTable.request.Given as goal

-- what the pass then holds
abbrev pub ghosts-write_accept : goal.ghosts-write_accept
ghosts-write_accept g a = record { value = with_request (held_by a.fragment.now.1) a._pass.now a._request.now a._told.now }
