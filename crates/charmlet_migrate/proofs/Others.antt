-- What a move leaves, done or refused.
use Rattle.std.proofs.Common.{◌≡◌, ℕ, ◌==◌, true, false, cond, refl}
use Rattle.std.specs.Prelude.{Some}
use Rattle.std.specs.BTreeMap.{insert_entry}
use Rattle.charmlet_model.specs.declared.names.Elem.{Elem}
use Rattle.charmlet_model.specs.Names.{elem_cmp}
use Rattle.charmlet_model.specs.World.{record_of}
use Rattle.charmlet_model.specs.Core.{Blanks, Core, Move, Stepped, Steps, place_of, place_or_home, present}
use Rattle.charmlet_model.specs.Shelves.{if_here}
use Rattle.charmlet_delivery.proofs.Places.{stepped_core}
use Rattle.charmlet_migrate.proofs.Carried.{shown_as_before}

-- the processors, what is assigned to them, and what the shelves of all but two of them show
pub record LeavesOthers (p q : ℕ) (core next : Core) : Type 0 where
  pub processors : next.processors ≡ core.processors
  pub assigned : next.assigned ≡ core.assigned
  pub elsewhere : (k : ℕ) → (p == k) ≡ false → (q == k) ≡ false → (x : Elem) → if_here (place_of next x) k (record_of (present next) x) ≡ if_here (place_of core x) k (record_of (present core) x)

pub move_leaves : (core : Core) (blanks : Blanks) (x : Elem) (p q : ℕ) → place_of core x ≡ Some p → (last : Stepped) → Steps core blanks (Move x q) last → LeavesOthers p q core last.core
move_leaves core blanks x p q place last steps =
    stepped_core (LeavesOthers p q core) core blanks (Move x q) unchanged (record { processors = refl; assigned = refl; elsewhere = λ k not_p not_q y. refl })
    (elim (place_or_home core x == q) as (λ b. LeavesOthers p q core (cond b core (record core { places = insert_entry elem_cmp core.places x q }))) [
      | true ↦ unchanged
      | false ↦ record { processors = refl; assigned = refl; elsewhere = shown_as_before core.places (present core) x p place q }
    ])
    last steps
  where
    unchanged : LeavesOthers p q core core
    unchanged = record { processors = refl; assigned = refl; elsewhere = λ k not_p not_q y. refl }
