use Rattle.std.proofs.Common.{◌≡◌, ◌≤◌, ◌++◌, length}
use Rattle.std.specs.Vec.{vec_capacity}
use Rattle.charmlet_sequencer.proofs.Reopened.{parts_of}
use Rattle.charmlet_sequencer.proofs.opened.open_store.Given as goal

-- the first shelves are there, each with its part of the authority, and there is room for the others
abbrev pub invariant-loop-shelf : goal.invariant-loop-shelf
invariant-loop-shelf g l =
    record {
      shelves : l.shelves.items ++ l.shelf-iterator.rest.items ≡ l.initial.shelf-iterator.rest.items;
      parts : l.parts ≡ parts_of l.shelves.items;
      left : l.shelf-iterator.rest.len ≡ length l.shelf-iterator.rest.items;
      room : length l.initial.shelf-iterator.rest.items ≤ vec_capacity l.shelves;
    }
