use Rattle.std.proofs.Common.{◌≡◌, ◌++◌, length}
use Rattle.std.specs.List.{All, flat_map}
use Rattle.charmlet_pup.specs.Fields.{number_bytes}
use Rattle.charmlet_model.specs.declared.message.Message.{Message}
use Rattle.charmlet_model.specs.Spelling.{spell_message}
use Rattle.charmlet_record.specs.Limits.{AreFewWords}
use Rattle.charmlet_persist.proofs.snapshot.pending.append_pending.Given as goal

-- what is left goes after what was written, and is short
abbrev pub invariant-loop-id : goal.invariant-loop-id
invariant-loop-id l = record {
  can_next : (goal.iterator-loop-id).can_next l.id-iterator;
  is_finite : (goal.iterator-loop-id).is_finite l.id-iterator;
  bytes : l.out.items ++ flat_map spell_message l.id-iterator ≡ (l.fn.out.items ++ number_bytes 4 (length l.fn.pending)) ++ flat_map spell_message l.fn.pending;
  short : All (λ (m : Message). AreFewWords m.words) l.id-iterator;
}
