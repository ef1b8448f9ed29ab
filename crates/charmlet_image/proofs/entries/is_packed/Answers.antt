use Rattle.charmlet_image.proofs.PackedSizes.{sum_size}
use Rattle.charmlet_image.proofs.entries.is_packed.Goals as goal

pub returns-in-Sum : goal.returns-in-Sum
returns-in-Sum c = rw c.in-Sum.is (sum_size c.args.bytes.now)
