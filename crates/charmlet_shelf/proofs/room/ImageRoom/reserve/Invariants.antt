use Rattle.std.proofs.Common.{vec_len}
use Rattle.charmlet_shelf.proofs.room.ImageRoom.reserve.Given as goal

abbrev pub decreases-loop-size : goal.decreases-loop-size
decreases-loop-size l = vec_len l.self.sizes
