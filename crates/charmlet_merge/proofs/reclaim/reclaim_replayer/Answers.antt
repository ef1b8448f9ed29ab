use Rattle.std.proofs.Common.{arith}
use Rattle.charmlet_merge.proofs.reclaim.reclaim_replayer.Goals as goal

pub absorb-requires-clause-room : goal.absorb-requires-clause-room
absorb-requires-clause-room g c κs within = λ kind.
    let room = c.requires.room kind in
    let all = c.gather.ensures.all kind in
    omega (arith, room, all)

pub returns-clause-back : goal.returns-clause-back
returns-clause-back g c = λ kind.
    let all = c.gather.ensures.all kind in
    let blanks = c.absorb.ensures.absorbed.blanks kind in
    let retired = c.absorb.ensures.absorbed.retired kind in
    omega (arith, all, blanks, retired)
