use Rattle.std.proofs.Common.{◌≡◌, ◌++◌, map}
use Rattle.charmlet_model.specs.declared.message.Message.{Message}
use Rattle.charmlet_model.specs.Core.{present}
use Rattle.charmlet_history.specs.Kept.{core_in}
use Rattle.charmlet_workers.proofs.looks.pending_in.Given as goal

-- the ids of what is left go after those so far
abbrev pub invariant-loop-id : goal.invariant-loop-id
invariant-loop-id l = record {
  can_next : goal.iterator-loop-id.can_next l.id-iterator;
  is_finite : goal.iterator-loop-id.is_finite l.id-iterator;
  so_far : l.ids.items ++ map (λ (m : Message). m.id) l.id-iterator ≡ map (λ (m : Message). m.id) (present (core_in l.fn.history)).pending;
}
