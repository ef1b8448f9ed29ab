use Rattle.std.proofs.Common.{rules, ◌∷◌, Some, sym, ◌∙◌, ap}
use Rattle.atomic_table.specs.Table.{rest}
use Rattle.charmlet_locks.proofs.grip.Grip.get_mut.Goals as goal

pub slot_mut-requires : goal.slot_mut-requires
slot_mut-requires g c =
    let has = c.self.invariant.4 in
    (search rules, (Some has.0, ap (λ m. m.1) has.1 ∙ ap (λ l. (c.self.inside.place, Some has.0) ∷ rest l) (sym (ap (λ m. m.1) has.1))))
