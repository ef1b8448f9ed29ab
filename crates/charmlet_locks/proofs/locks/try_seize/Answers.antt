use Rattle.std.proofs.Common.{rules, arith, eqb, subst, sym}
use prog.Atomic.{either}
use mathlib.Core.Option.{none}
use Rattle.atomic_table.specs.Table.{Allows, step}
use Rattle.charmlet_locks.specs.Home.{IsKept, Takes}
use Rattle.charmlet_locks.proofs.Keeps.{takes_place}
use Rattle.charmlet_locks.proofs.locks.try_seize.Goals as goal

pub compare_exchange-found-requires : goal.compare_exchange-found-requires
compare_exchange-found-requires g c =
    let seat = c.args.seat.now in
    let slots = c.args.table.now.shared.table_id.slots in (
      search rules,
      search rules,
      subst (λ w. Allows (IsKept g.N.Numbering.number) slots seat.id seat.me w (λ n. either (eqb n 0) 1 n) (Takes g.N.Numbering.number (step slots w 0 1 none) seat.me)) (sym c.word_index-word.ensures)
          (takes_place g.N.Numbering.number slots seat.id c.args.place 1 seat.me (search rules) (λ e. absurd (omega arith))),
    )
