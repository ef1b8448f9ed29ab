use Rattle.std.proofs.Common.{rules, ◌≡◌, ◌<◌, ◌∷◌, Some, subst, sym, ◌∙◌, ap}
use mathlib.Core.Option.{none}
use Rattle.atomic_table.specs.Table.{Allows, rest, step}
use Rattle.charmlet_locks.specs.Home.{IsKept, Gives}
use Rattle.charmlet_locks.specs.declared.rule.GhostPlaces.TheVariants.{Begun}
use Rattle.charmlet_locks.proofs.Keeps.{next_vacancy, gives_place}
use Rattle.charmlet_locks.proofs.room.LockRoom.put.Goals as goal

pub swap-requires : goal.swap-requires
swap-requires g c =
    let t = c.self.inside in
    let seat = c.exchange.new.seat in
    let slots = t.table.shared.table_id.slots in
    let less : t.filled < slots = search rules in
    let view = c.self.invariant.5 (search rules) in
    let me : seat.me ≡ (Begun, (t.filled, Some c.args.value) ∷ rest t.seat.me.1) = c.exchange.ensures.3 ∙ ap (λ v. (v, (t.filled, Some c.args.value) ∷ rest t.seat.me.1)) view in (
      search rules,
      search rules,
      subst (λ w. Allows (IsKept g.N.Numbering.number) slots seat.id seat.me w (λ _. 0) (Gives (step slots w 0 0 none) seat.me)) (sym c.word_index.ensures)
          (gives_place g.N.Numbering.number slots seat.id t.filled 0 0 c.args.value (rest t.seat.me.1) seat.me less (search rules) me),
    )

pub invariant_of-self : goal.invariant_of-self
invariant_of-self g c =
    let t = c.self.inside in
    let less : t.filled < t.count = search rules in
    let before = c.self.invariant.6 in (
      search rules,
      search rules,
      search rules,
      search rules,
      search rules,
      (λ _. ap (λ m. m.0) c.swap.ensures.2),
      ap (λ m. m.1) c.swap.ensures.2 ∙ ap rest (ap (λ m. m.1) c.exchange.ensures.3) ∙ ap rest (before ∙ next_vacancy t.filled t.count less),
    )
