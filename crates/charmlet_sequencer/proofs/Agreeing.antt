-- What is under way on a shelf that is lent to the sequencer.
use Rattle.std.proofs.Common.{◌≡◌, ℕ, List, refl, subst}
use Rattle.std.specs.Prelude.{Option, Some, None, IfSome, slice_get}
use Rattle.charmlet_model.specs.Core.{Core, assigned_to}
use Rattle.charmlet_chare.specs.declared.chare.Chare.{Ghosts}
use Rattle.charmlet_history.specs.declared.history.History.{History}
use Rattle.charmlet_history.specs.Kept.{core_in}
use Rattle.charmlet_shelf.specs.Due.{Due}
use Rattle.charmlet_shelf.specs.Shelf.{View}
use Rattle.charmlet_stock.specs.declared.stock.Stock.{Stock}
use Rattle.charmlet_stock.specs.Stock.{census_of}
use Rattle.charmlet_delivery.specs.Turns.{Turns}
use Rattle.charmlet_delivery.specs.UnderWay.{IsUnderWay, due_in}
use Rattle.charmlet_delivery.specs.Workplace.{ShowsPart, workplace_of}
use Rattle.charmlet_sequencer.specs.Authority.{IsAuthorityIn, IsAuthorityOf, IsDueOn}
use Rattle.charmlet_sequencer.specs.Part.{Part, part_on}
use Rattle.charmlet_sequencer.proofs.Authorities.{free, ready}

due_by : (core : Core) (p : ℕ) (o : Option Due) → IfSome o (IsUnderWay core p) → (o ≡ None → assigned_to core p ≡ None) → IsDueOn core p o
due_by core p None some none = none refl
due_by core p (Some due) some none = some

-- it is what is assigned to its processor
pub due_there : {C : Type 0} {G : Ghosts C} (history : History) (stock : Stock C G) (parts : List (Option Part)) → IsAuthorityOf history stock parts → (shelf : View) (fragment : ℕ × Option Part) → fragment ≡ (shelf.number, Some (part_on shelf)) →
    slice_get parts fragment.0 ≡ Some fragment.1 → IsDueOn (core_in history) shelf.number (due_in shelf.phase)
due_there history stock parts authority shelf fragment fragment_is agrees =
    let there : slice_get parts shelf.number ≡ Some (Some (part_on shelf)) = subst (λ (s : ℕ × Option Part). slice_get parts s.0 ≡ Some s.1) fragment_is agrees in
    due_by (core_in history) shelf.number (due_in shelf.phase) (ready history stock parts authority shelf there).due (free history stock parts authority shelf there)

-- it is on a processor, and shows its part of the world
pub part_there : {C : Type 0} {G : Ghosts C} (history : History) (stock : Stock C G) (parts : List (Option Part)) → IsAuthorityOf history stock parts → (shelf : View) (fragment : ℕ × Option Part) → fragment ≡ (shelf.number, Some (part_on shelf)) →
    slice_get parts fragment.0 ≡ Some fragment.1 → ShowsPart history shelf
part_there history stock parts authority shelf fragment fragment_is agrees =
    let there : slice_get parts shelf.number ≡ Some (Some (part_on shelf)) = subst (λ (s : ℕ × Option Part). slice_get parts s.0 ≡ Some s.1) fragment_is agrees in
    (ready history stock parts authority shelf there).shelf

-- and so it is after a part of a delivery
pub due_after : {C : Type 0} {G : Ghosts C} (history : History) (stock : Stock C G) (parts : List (Option Part)) → IsAuthorityOf history stock parts → (shelf : View) (fragment : ℕ × Option Part) → fragment ≡ (shelf.number, Some (part_on shelf)) →
    slice_get parts fragment.0 ≡ Some fragment.1 → (next : History) (last : View) (after : Stock C G) → Turns (workplace_of history shelf stock) (workplace_of next last after) → IsDueOn (core_in next) shelf.number (due_in last.phase)
due_after history stock parts authority shelf fragment fragment_is agrees next last after turns =
    let there : slice_get parts shelf.number ≡ Some (Some (part_on shelf)) = subst (λ (s : ℕ × Option Part). slice_get parts s.0 ≡ Some s.1) fragment_is agrees in
    subst (λ n. IsDueOn (core_in next) n (due_in last.phase)) turns.number
    (due_by (core_in next) last.number (due_in last.phase) turns.consistent.due (turns.free (free history stock parts authority shelf there)))

-- what the authority has, of what is seen of the sequencer
pub authority_in : {C : Type 0} {G : Ghosts C} (history : History) (stock : Stock C G) (parts : List (Option Part)) → IsAuthorityOf history stock parts → IsAuthorityIn (core_in history) (census_of stock) parts
authority_in history stock parts authority = record { count = authority.count; shows = authority.shows; dues = authority.dues; counted = authority.census }
