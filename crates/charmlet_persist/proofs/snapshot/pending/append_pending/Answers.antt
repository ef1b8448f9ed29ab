use Rattle.std.proofs.Common.{◌∷◌, length, sym, ◌∙◌, append_assoc}
use Rattle.std.specs.List.{flat_map}
use Rattle.std.proofs.lemmas.List.Elements.{All-head, All-tail, All-same}
use Rattle.charmlet_pup.specs.Fields.{number_bytes}
use Rattle.charmlet_model.specs.declared.message.Message.{Message}
use Rattle.charmlet_model.specs.Spelling.{spell_message}
use Rattle.charmlet_record.specs.Limits.{AreFewWords}
use Rattle.charmlet_world.specs.Waiting.{message_of}
use Rattle.charmlet_persist.proofs.SnapshotLemmas.Lists.{all_appended, one_appended}
use Rattle.charmlet_persist.proofs.snapshot.pending.append_pending.Goals as goal

pub append_pending_message-requires : goal.append_pending_message-requires
append_pending_message-requires c =
    let m : Message = message_of c.in-Some.id c.in-Some.pending_message.now in
    All-head (λ (m : Message). AreFewWords m.words) m c.next.new.self (All-same (λ (m : Message). AreFewWords m.words) (m ∷ c.next.new.self) c.loop-id.id-iterator (sym c.in-Some.ensures.steps) c.loop-id.invariant.short)

pub loop-id-preserved : goal.loop-id-preserved
loop-id-preserved c =
    let m : Message = message_of c.in-Some.id c.in-Some.pending_message.now in
    record {
      can_next = tt;
      is_finite = tt;
      bytes = one_appended spell_message c.loop-id.out.items _ c.loop-id.id-iterator m c.next.new.self c.append_pending_message.new.out.items c.in-Some.ensures.steps c.loop-id.invariant.bytes c.in_ok-append_pending_message.ensures;
      short = All-tail (λ (m : Message). AreFewWords m.words) m c.next.new.self (All-same (λ (m : Message). AreFewWords m.words) (m ∷ c.next.new.self) c.loop-id.id-iterator (sym c.in-Some.ensures.steps) c.loop-id.invariant.short);
    }

pub returns : goal.returns
returns c =
    all_appended spell_message c.loop-id.out.items _ c.loop-id.id-iterator c.in-None.ensures.steps.0 c.loop-id.invariant.bytes
    ∙ append_assoc c.args.out.now.items (number_bytes 4 (length c.args.pending)) (flat_map spell_message c.args.pending)
