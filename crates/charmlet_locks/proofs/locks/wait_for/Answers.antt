use Rattle.std.proofs.Common.{rules, arith, eqb, subst, sym, ap}
use prog.Atomic.{either}
use mathlib.Core.Option.{none}
use Rattle.atomic_table.specs.Table.{Allows, step}
use Rattle.charmlet_locks.specs.Home.{IsKept, Takes, Stays, HoldsPlace}
use Rattle.charmlet_locks.proofs.Keeps.{takes_place, notes}
use Rattle.charmlet_locks.proofs.locks.wait_for.Goals as goal

pub compare_exchange-found-requires : goal.compare_exchange-found-requires
compare_exchange-found-requires g c =
    let seat = c.loop.seat in
    let slots = c.args.table.now.shared.table_id.slots in (
      search rules,
      search rules,
      subst (λ w. Allows (IsKept g.N.Numbering.number) slots seat.id seat.me w (λ n. either (eqb n 0) 2 n) (Takes g.N.Numbering.number (step slots w 0 2 none) seat.me)) (sym c.word_index-word.ensures)
          (takes_place g.N.Numbering.number slots seat.id c.args.place 2 seat.me (search rules) (λ e. absurd (omega arith))),
    )

pub compare_exchange-requires : goal.compare_exchange-requires
compare_exchange-requires g c =
    let seat = c.compare_exchange-found.new.seat in
    let slots = c.args.table.now.shared.table_id.slots in (
      search rules,
      search rules,
      subst (λ w. Allows (IsKept g.N.Numbering.number) slots seat.id seat.me w (λ n. either (eqb n 1) 2 n) (Stays (step slots w 1 2 none) seat.me)) (sym c.word_index-word.ensures)
          (notes g.N.Numbering.number slots seat.id c.args.place seat.me (search rules)),
    )

pub returns-then-found-eq-FREE-clause-holds : goal.returns-then-found-eq-FREE-clause-holds
returns-then-found-eq-FREE-clause-holds g c = subst (λ more. HoldsPlace g.N.Numbering.number c.args.place more c.compare_exchange-found.new.seat.me) (ap (λ m. m.1) c.loop.invariant.me)
    (c.compare_exchange-found.ensures.2.0 c.if-found-eq-FREE.true c.args.place c.word_index-word.ensures)
