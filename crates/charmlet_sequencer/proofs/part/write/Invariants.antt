use Rattle.charmlet_sequencer.specs.Part.{part_on}
use Rattle.charmlet_sequencer.proofs.part.write.Given as goal

-- what stands on the shelf
abbrev pub ghosts-write_part : goal.ghosts-write_part
ghosts-write_part g a = record { value = part_on a._shelf.now }
