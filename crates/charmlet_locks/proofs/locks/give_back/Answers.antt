use Rattle.std.proofs.Common.{rules, arith, ◌≡◌, ◌-◌, ◌+◌, ◌<◌, subst, sym, ap}
use mathlib.Core.Option.{none}
use Rattle.atomic_table.specs.Table.{Allows, rest, step}
use Rattle.charmlet_locks.specs.Home.{Gives, HoldsFrom, IsKept}
use Rattle.charmlet_locks.specs.declared.rule.GhostPlaces.TheVariants.{Begun}
use Rattle.charmlet_locks.proofs.Keeps.{HoldsFirst, gives_place, held_first}
use Rattle.charmlet_locks.proofs.locks.give_back.Goals as goal

pub swap-requires : goal.swap-requires
swap-requires g c =
    let seat = c.loop-place.seat in
    let slots = c.args.table.now.shared.table_id.slots in
    let place = c.loop-place.place in
    let less : place < c.args.count = search rules in
    let it : HoldsFirst g.N.Numbering.number place (c.args.count - place) seat.me.1 = held_first g.N.Numbering.number place (c.args.count - place) seat.me.1 (omega (arith, less)) c.loop-place.invariant.held in
    let begun : seat.me.0 ≡ Begun = c.loop-place.invariant.begun less in (
      search rules,
      search rules,
      subst (λ w. Allows (IsKept g.N.Numbering.number) slots seat.id seat.me w (λ _. 0) (Gives (step slots w 0 0 none) seat.me)) (sym c.word_index-word.ensures)
          (gives_place g.N.Numbering.number slots seat.id place 0 0 it.value (rest seat.me.1) seat.me (search rules) it.named (λ i. (begun i, it.is i))),
    )

pub loop-place-preserved : goal.loop-place-preserved
loop-place-preserved g c =
    let seat = c.loop-place.seat in
    let place = c.loop-place.place in
    let less : place < c.args.count = search rules in
    let it : HoldsFirst g.N.Numbering.number place (c.args.count - place) seat.me.1 = held_first g.N.Numbering.number place (c.args.count - place) seat.me.1 (omega (arith, less)) c.loop-place.invariant.held in
    let fewer : (c.args.count - place) - 1 ≡ c.args.count - (place + 1) = omega arith in
    record {
      table = search rules;
      within = omega (arith, less);
      held = subst (HoldsFrom g.N.Numbering.number (place + 1) (c.args.count - (place + 1))) (sym (ap (λ m. m.1) c.swap.ensures.2)) (subst (λ n. HoldsFrom g.N.Numbering.number (place + 1) n (rest seat.me.1)) fewer it.others);
      begun = λ _. ap (λ m. m.0) c.swap.ensures.2;
    }
