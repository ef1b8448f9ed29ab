use Rattle.std.proofs.Common.{◌≡◌, ◌++◌, map}
use Rattle.charmlet_model.specs.declared.message.Message.{Message}
use Rattle.charmlet_store.specs.Store.{world_in}
use Rattle.charmlet_store.proofs.store.Store.pending.Given as goal

-- the ids of what is left go after those so far
abbrev pub invariant-loop-id : goal.invariant-loop-id
invariant-loop-id g l = record {
  can_next : (goal.iterator-loop-id g).can_next l.id-iterator;
  is_finite : (goal.iterator-loop-id g).is_finite l.id-iterator;
  so_far : l.ids.items ++ map (λ (m : Message). m.id) l.id-iterator ≡ map (λ (m : Message). m.id) (world_in l.self).pending;
}
