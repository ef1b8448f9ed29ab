use Rattle.std.proofs.Common.{sym, arith}
use Rattle.std.proofs.lemmas.List.{take_all, length-take}
use Rattle.charmlet_reference.proofs.recovery.recovered.top_of.Goals as goal

pub returns-then-bytes-le-TOP_SIZE : goal.returns-then-bytes-le-TOP_SIZE
returns-then-bytes-le-TOP_SIZE c = c.read_top.ensures c.args.bytes.now (sym (take_all 25 c.args.bytes.now (omega arith)))

pub slice_bounds-read_top-end : goal.slice_bounds-read_top-end
slice_bounds-read_top-end c = omega (arith, length-take 25 c.args.bytes.now)
