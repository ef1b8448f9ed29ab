use Rattle.std.proofs.Common.{◌++◌, ◌∷◌, [], sym, ap, ◌∙◌}
use Rattle.charmlet_model.specs.declared.names.MsgId.{MsgId}
use Rattle.charmlet_image.proofs.Ids.{message_has_id}
use Rattle.charmlet_image.proofs.pending.read_new_message.Goals as goal

pub returns-clause-noted : goal.returns-clause-noted
returns-clause-noted c =
    let id = message_has_id c.args.manifest.now c.in_ok-id.id c.read_id.new.reader (c.in_ok-message.message, c.read_message_of.new.reader) c.in_ok-message.ensures in
    c.in_ok-note.ensures.noted c.if-not-branch.false ∙ ap (λ (i : MsgId). c.args.seen.now.keys ++ i ∷ []) (sym id)
