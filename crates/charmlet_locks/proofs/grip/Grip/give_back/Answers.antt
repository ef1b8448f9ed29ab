use Rattle.std.proofs.Common.{rules, ◌≡◌, ◌∙◌, [], subst, sym, ap}
use mathlib.Core.Option.{none}
use Rattle.atomic_table.specs.Table.{Allows, rest, step}
use Rattle.charmlet_locks.specs.Home.{IsKept, Gives, value_in}
use Rattle.charmlet_locks.specs.Locks.{number_of}
use Rattle.charmlet_locks.proofs.Keeps.{gives_place}
use Rattle.charmlet_locks.proofs.grip.Grip.give_back.Goals as goal

pub swap-requires : goal.swap-requires
swap-requires g c =
    let t = c.self.inside in
    let seat = t.seat in
    let slots = t.table.now.shared.table_id.slots in
    let has = c.self.invariant.4 in
    let is : g.N.Numbering.number has.0 ≡ t.place = sym (ap (λ m. number_of g.N.Numbering.number (value_in m.1)) has.1) ∙ ap (λ s. s.number) c.self.view_is ∙ c.requires ∙ sym (ap (λ s. s.place) c.self.view_is) in (
      search rules,
      search rules,
      subst (λ w. Allows (IsKept g.N.Numbering.number) slots seat.id seat.me w (λ _. 0) (Gives (step slots w 0 0 none) seat.me)) (sym c.word_index-word.ensures)
          (gives_place g.N.Numbering.number slots seat.id t.place 0 0 has.0 [] seat.me (search rules) is has.1),
    )

pub into_badge-requires : goal.into_badge-requires
into_badge-requires g c = ap (λ m. m.1) c.swap.ensures.2 ∙ ap (λ m. rest m.1) c.self.invariant.4.1
