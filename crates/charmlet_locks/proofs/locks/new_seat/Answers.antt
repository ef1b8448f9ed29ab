use Rattle.std.proofs.Common.{rules}
use Rattle.charmlet_locks.specs.declared.rule.GhostPlaces.TheVariants.{Vacant}
use Rattle.charmlet_locks.proofs.Keeps.{sits}
use Rattle.charmlet_locks.proofs.locks.new_seat.Goals as goal

pub load_new_seat-requires : goal.load_new_seat-requires
load_new_seat-requires g c = (search rules, sits g.N.Numbering.number c.args.table.now.shared.table_id.slots 0 Vacant)
