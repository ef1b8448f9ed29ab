use Rattle.std.proofs.Common.{◌≡◌, ◌+◌, ◌<◌, ◌^◌, length}
use Rattle.std.specs.Prelude.{count_by}
use Rattle.charmlet_model.specs.declared.message.Message.{Message}
use Rattle.charmlet_model.specs.Core.{blank_for}
use Rattle.charmlet_history.specs.Kept.{core_in}
use Rattle.charmlet_history.specs.Wanting.{is_of_kind, wanted_in}
use Rattle.charmlet_history.proofs.history.History.wanted_blanks.Given as goal

-- those of what is left come to those so far, and the count has room for all that is left
abbrev pub invariant-loop-id : goal.invariant-loop-id
invariant-loop-id l = record {
  can_next : goal.iterator-loop-id.can_next l._id-iterator;
  is_finite : goal.iterator-loop-id.is_finite l._id-iterator;
  so_far : l.wanted + count_by (λ (m : Message). is_of_kind (blank_for (core_in l.fn.self) m) l.kind) l._id-iterator ≡ wanted_in (core_in l.fn.self) l.kind;
  room : l.wanted + length l._id-iterator < 2 ^ 64;
}
