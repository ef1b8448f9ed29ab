use Rattle.std.proofs.Common.{◌≡◌, ◌-◌, []}
use Rattle.charmlet_image.specs.After.{read_after}
use Rattle.charmlet_image.specs.Reading.{read_client}
use Rattle.charmlet_image.proofs.clients.clients_of.Given as goal

abbrev pub invariant-loop : goal.invariant-loop
invariant-loop l = read_after (read_client l.mark) (l.count - l.counter) l.clients.items l.reader ≡ read_after (read_client l.mark) l.count [] l.fn.reader
