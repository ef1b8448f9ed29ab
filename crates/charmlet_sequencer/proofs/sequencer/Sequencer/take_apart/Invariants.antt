use Rattle.std.proofs.Common.{◌≡◌, ◌+◌, vec_len}
use Rattle.std.specs.List.{AllByRecursion}
use Rattle.charmlet_migrate.specs.Moving.{IsIdle}
use Rattle.charmlet_sequencer.proofs.Endings.{AreBack, left_in}
use Rattle.charmlet_sequencer.proofs.sequencer.Sequencer.take_apart.Given as goal

-- each part is still in the authority, or its shelf is back; as many parts as shelves are gone; and no
-- delivery is under way on those that are left
abbrev pub invariant-loop-locked : goal.invariant-loop-locked
invariant-loop-locked g l =
    record {
      back : AreBack 0 l.initial.parts l.parts l.slots.items;
      count : left_in l.parts + vec_len l.initial.shelves ≡ left_in l.initial.parts + vec_len l.shelves;
      idle : AllByRecursion IsIdle l.shelves.items;
    }

abbrev pub decreases-loop-locked : goal.decreases-loop-locked
decreases-loop-locked g l = vec_len l.shelves
