use Rattle.std.proofs.Common.{◌≡◌, ◌-◌, ◌≤◌, [], length, map}
use Rattle.charmlet_image.specs.After.{read_after}
use Rattle.charmlet_image.specs.Positioned.{read_positioned_pending}
use Rattle.charmlet_image.proofs.pending.messages_of.Given as goal

abbrev pub invariant-loop : goal.invariant-loop
invariant-loop l = record {
  read : read_after (read_positioned_pending l.following l.manifest) (l.count - l.counter) l.messages.items l.reader ≡ read_after (read_positioned_pending l.following l.manifest) l.count [] l.fn.reader;
  ids : l.seen.keys ≡ map (λ p. p.item.id) l.messages.items;
  fewer : length l.reader ≤ length l.fn.reader;
}
