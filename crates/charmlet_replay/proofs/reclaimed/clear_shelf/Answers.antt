use Rattle.std.proofs.Common.{arith}
use Rattle.charmlet_replay.proofs.Cleared.{next_cleared, next_out, one_fewer}
use Rattle.charmlet_replay.proofs.reclaimed.clear_shelf.Goals as goal

pub give_back-requires-after_bounds : goal.give_back-requires-after_bounds
give_back-requires-after_bounds g c κs within =
    next_out g.C.Chare.state c.in-Some.field-0-0 c.in-Some.resident c.objects.shelf c.lift_any.new.self c.in-Some.ensures.some.0 c.in-Some.ensures.some.1 c.lift_any.ensures.others
    c.args.shelf.now c.args.stock.now c.objects.stock c.objects.invariant

pub objects-smaller : goal.objects-smaller
objects-smaller g c =
    let fewer = one_fewer g.C.Chare.state c.in-Some.field-0-0 c.in-Some.resident c.objects.shelf c.lift_any.new.self c.in-Some.ensures.some.0 c.in-Some.ensures.some.1 c.lift_any.ensures.others in
    omega (arith, fewer)

pub objects-preserved : goal.objects-preserved
objects-preserved g c =
    next_cleared g.C.Chare.state c.in-Some.field-0-0 c.in-Some.resident c.objects.shelf c.lift_any.new.self c.in-Some.ensures.some.0 c.in-Some.ensures.some.1 c.lift_any.ensures.others
    c.args.shelf.now c.args.stock.now c.objects.stock c.objects.invariant c.give_back.new.self c.give_back.ensures.census c.give_back.ensures.keeping
