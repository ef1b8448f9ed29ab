use Rattle.std.proofs.Common.{rules, subst, sym, ◌∙◌, replicate, None}
use Rattle.atomic_table.specs.Table.{opening}
use Rattle.charmlet_locks.specs.declared.rule.GhostPlaces.TheVariants.{Vacant}
use Rattle.charmlet_locks.specs.Home.{IsKept}
use Rattle.charmlet_locks.proofs.Keeps.{opens, begins}
use Rattle.charmlet_locks.proofs.room.LockRoom.new.Goals as goal

pub vacant-requires : goal.vacant-requires
vacant-requires g c = subst (λ words. IsKept g.N.Numbering.number (opening words (replicate c.args.count None) Vacant)) (sym (c.as_slice.ensures.value ∙ c.in_ok-words.ensures)) (opens g.N.Numbering.number c.args.count)

pub swap-requires : goal.swap-requires
swap-requires g c = (search rules, search rules, begins g.N.Numbering.number c.in_ok-table.table.shared.table_id.slots c.in_ok-table.seat.id 1 0 c.in_ok-table.seat.me (search rules))
