use Rattle.std.proofs.Common.{◌≡◌, ◌-◌, ◌≤◌, length}
use Rattle.charmlet_record.specs.Reading.{read_caught_up, read_positioned, read_times}
use Rattle.charmlet_record.proofs.Loops.{with_front}
use Rattle.charmlet_image.proofs.catch_up.deliveries_of.Given as goal

abbrev pub invariant-loop : goal.invariant-loop
invariant-loop l =
    (with_front l.deliveries.items (read_times (read_positioned l.following (read_caught_up l.manifest)) (l.count - l.counter) l.reader) ≡ read_times (read_positioned l.following (read_caught_up l.manifest)) l.count l.fn.reader)
    × (length l.reader ≤ length l.fn.reader)
