use Rattle.charmlet_leases.proofs.seats.table.SeatTable.commit.Given as goal

-- what the seat then holds
abbrev pub ghosts-write_ids : goal.ghosts-write_ids
ghosts-write_ids g a = record { value = a._ids.now.items }
