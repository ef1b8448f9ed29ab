use Rattle.std.proofs.Common.{arith}
use Rattle.charmlet_record.specs.Reading.{read_number}
use Rattle.charmlet_record.proofs.Reach.{number_within, rest_within}
use Rattle.charmlet_image.proofs.catch_up.read_catch_up.Goals as goal

pub deliveries_of-requires : goal.deliveries_of-requires
deliveries_of-requires c =
    let few = rest_within (read_number 4) c.args.reader.now (c.in_ok-count.count, c.u32.new.self) (number_within 4) c.in_ok-count.ensures in
    omega (arith, few, c.requires)
