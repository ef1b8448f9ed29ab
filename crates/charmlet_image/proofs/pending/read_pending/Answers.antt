use Rattle.std.proofs.Common.{arith}
use Rattle.charmlet_record.specs.Reading.{read_number}
use Rattle.charmlet_record.proofs.Reach.{number_within, rest_within}
use Rattle.charmlet_image.proofs.pending.read_pending.Goals as goal

pub messages_of-requires : goal.messages_of-requires
messages_of-requires c =
    let few = rest_within (read_number 4) c.args.reader.now (c.in_ok-count.count, c.u32.new.self) (number_within 4) c.in_ok-count.ensures in
    omega (arith, few, c.requires)
