use Rattle.charmlet_stock.specs.Stock.{blanks_in}
use Rattle.charmlet_recover.proofs.Answered.{enough_for_half}
use Rattle.charmlet_threads_tests.proofs.tests.replay.answers.replay_plainly.Goals as goal

pub replay-requires-clause-half : goal.replay-requires-clause-half
replay-requires-clause-half g c κs =
    let found = c.args.found.now in
    let s = c.requires.reads.0 in
    let is = c.requires.reads.1.found in
    (found.bytes.items, s, c.in-Ok.ensures.half s is, enough_for_half (blanks_in c.args.stock) found.half s (c.in-Ok.ensures.answer s is))
