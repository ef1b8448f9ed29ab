use Rattle.std.proofs.Common.{◌+◌, ◌≤◌, length}
use Rattle.std.specs.Vec.{vec_capacity, vec_len}
use Rattle.charmlet_model.specs.Core.{present}
use Rattle.charmlet_history.specs.Kept.{core_in}
use Rattle.charmlet_store.proofs.Lifting.{IsTaken}
use Rattle.charmlet_store.proofs.dismantled.lift_all.Given as goal

-- what was taken is in the list, what is left is on the shelves, and there is room for it
abbrev pub invariant-loop-elem : goal.invariant-loop-elem
invariant-loop-elem g l = record {
  taken : IsTaken g.C.Chare.state (present (core_in l.history)) (core_in l.history).places l.elem-iterator l.shelves l.residents.items;
  room : vec_len l.residents + length l.elem-iterator ≤ vec_capacity l.residents;
}
