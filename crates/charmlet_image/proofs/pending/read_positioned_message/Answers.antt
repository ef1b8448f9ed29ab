use Rattle.charmlet_image.specs.After.{read_message_if}
use Rattle.charmlet_image.specs.Ids.{is_absent}
use Rattle.charmlet_image.proofs.AfterLemmas.{message_if_within}
use Rattle.charmlet_record.proofs.Reach.{rest_within}
use Rattle.charmlet_image.proofs.pending.read_positioned_message.Goals as goal

pub returns-clause-fewer : goal.returns-clause-fewer
returns-clause-fewer c =
    let test = is_absent c.args.seen.now.keys in
    rest_within (read_message_if test c.args.manifest.now) c.args.reader.now (c.in_ok-item.item, c.read_new_message.new.reader) (message_if_within test c.args.manifest.now) c.in_ok-item.ensures.gives
