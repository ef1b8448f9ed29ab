use Rattle.std.proofs.Common.{ℕ, ◌+◌, ◌≤◌, arith}
use Rattle.charmlet_stock.specs.Stock.{blanks_in}
use Rattle.charmlet_recover.proofs.Answered.{enough_for_half}
use Rattle.charmlet_threads_tests.proofs.tests.replay.answers.replay_by_workers.Goals as goal

-- blanks that suffice for an image and its log suffice for the image
fewer : (image caught_up log given : ℕ) → image + caught_up + log ≤ given → image + caught_up + 0 ≤ given
fewer image caught_up log given enough = omega (arith, enough)

pub replay_by-requires-clause-half : goal.replay_by-requires-clause-half
replay_by-requires-clause-half g c κs within =
    let found = c.args.found.now in
    let s = c.requires.reads.0 in
    let is = c.requires.reads.1.found in
    let enough = enough_for_half (blanks_in c.args.stock) found.half s (c.in-Ok.ensures.answer s is) in
    (found.bytes.items, s, c.in-Ok.ensures.half s is, λ kind. fewer _ _ _ _ (enough kind))
