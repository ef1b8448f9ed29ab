use Rattle.charmlet_workers.proofs.work.assign_oldest.Given as goal

-- a count of its own
abbrev pub ghosts-assign_counted : goal.ghosts-assign_counted
ghosts-assign_counted g a = record { name = a.blank.name; parts = a.blank.parts }
