use Rattle.std.proofs.Common.{◌≡◌, ◌-◌, length}
use Rattle.charmlet_record.specs.Reading.{read_times}
use Rattle.charmlet_record.proofs.Loops.{with_front}
use Rattle.charmlet_image.specs.Reading.{read_item}
use Rattle.charmlet_image.proofs.clients.items_of.Given as goal

abbrev pub invariant-loop : goal.invariant-loop
invariant-loop l = (with_front l.window (read_times read_item (l.count - l.counter) l.reader) ≡ read_times read_item l.count l.fn.reader) × (length l.window ≡ l.counter)
