use Rattle.std.proofs.Common.{rules}
use Rattle.charmlet_program_tests.proofs.tests.program.full.sealed.Goals as goal

pub image_of-image-requires-after_bounds : goal.image_of-image-requires-after_bounds
image_of-image-requires-after_bounds g c κs =
    let fit = c.into_parts-history.ensures.fit in
    record { count = search rules; idle = search rules; objects = search rules }
