use Rattle.std.proofs.Common.{◌≡◌, ◌-◌, [], map}
use Rattle.charmlet_image.specs.After.{read_after}
use Rattle.charmlet_image.specs.Reading.{read_entry}
use Rattle.charmlet_image.specs.Views.{ArePacked, entry_said}
use Rattle.charmlet_image.proofs.entries.entries_of.Given as goal

abbrev pub invariant-loop : goal.invariant-loop
invariant-loop l = record {
  gives : read_after (read_entry l.manifest) (l.count - l.counter) (map (entry_said l.manifest) l.entries.items) l.reader ≡ read_after (read_entry l.manifest) l.count [] l.fn.reader;
  packed : ArePacked l.manifest l.entries.items;
}
