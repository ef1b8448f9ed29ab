use Rattle.charmlet_record.specs.Reading.{read_caught_up}
use Rattle.charmlet_record.proofs.Reach.{caught_up_within, rest_within}
use Rattle.charmlet_image.proofs.catch_up.read_positioned_delivery.Goals as goal

pub returns-clause-fewer : goal.returns-clause-fewer
returns-clause-fewer c =
    rest_within (read_caught_up c.args.manifest.now) c.args.reader.now (c.in_ok-item.item, c.read_caught_up.new.reader) (caught_up_within c.args.manifest.now) c.in_ok-item.ensures
