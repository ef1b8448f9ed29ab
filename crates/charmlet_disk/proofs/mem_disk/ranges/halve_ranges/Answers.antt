use Rattle.std.proofs.Common.{ℕ, ◌/◌, get_or, arith}
use Rattle.std.proofs.lemmas.List.{get_or_default}
use Rattle.std.proofs.lemmas.List.Edits.{map_over_more}
use Rattle.charmlet_disk.proofs.mem_disk.ranges.halve_ranges.Goals as goal

pub loop-k-preserved : goal.loop-k-preserved
loop-k-preserved c =
    let ranges = c.loop-k.ranges in
    let range = get_or ranges c.loop-k.k (0, 0) in
    map_over_more (λ (r : ℕ × ℕ). (r.0, r.1 / 2)) c.args.ranges.now ranges c.loop-k.k range c.loop-k-test.true c.loop-k.invariant
    (get_or_default ranges c.loop-k.k (0, 0) range (omega (arith, c.loop-k-test.true, c.loop-k.auto.ranges)))
