use Rattle.std.proofs.Common.{◌≡◌, ◌≤◌, take}
use Rattle.std.specs.Prelude.{count_by}
use Rattle.charmlet_model.specs.declared.message.Message.{Message}
use Rattle.charmlet_dump.specs.Constructing.{blank_in, is_of_kind}
use Rattle.charmlet_dump.proofs.constructions.constructions.Given as goal

-- those among the messages so far are counted, no more than these
abbrev pub invariant-loop-message : goal.invariant-loop-message
invariant-loop-message l = record {
  so_far : l.count ≡ count_by (λ (m : Message). is_of_kind (blank_in l.world m) l.kind) (take l.message-index l.message-items);
  room : l.count ≤ l.message-index;
}
