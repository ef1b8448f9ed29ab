use Rattle.std.proofs.Common.{arith}
use Rattle.charmlet_disk.specs.Ends.{last_end-more, range_end-le}
use Rattle.charmlet_disk.proofs.mem_disk.ranges.end_of.Goals as goal

pub range_end-requires : goal.range_end-requires
range_end-requires c = omega (arith, range_end-le c.args.ranges.now c.loop-offset.offset-index (0, 0) c.loop-offset-test.true, c.requires)

pub loop-offset-preserved : goal.loop-offset-preserved
loop-offset-preserved c = omega (arith, c.loop-offset.invariant, last_end-more c.args.ranges.now c.loop-offset.offset-index (0, 0) c.loop-offset-test.true)
