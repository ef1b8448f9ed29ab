-- The census of a stock once a blank was taken for a move.
use Rattle.std.proofs.Common.{◌≡◌, ◌+◌, ◌-◌, ◌<◌, sym, ap, ◌∙◌, arith}
use Rattle.charmlet_model.specs.declared.kind.Kind.{Kind}
use Rattle.charmlet_chare.specs.declared.chare.Chare.{Ghosts}
use Rattle.charmlet_shelf.specs.Count.{objects_on}
use Rattle.charmlet_shelf.specs.Shelf.{View}
use Rattle.charmlet_stock.specs.declared.by_kind.ByKind.{ByKind}
use Rattle.charmlet_stock.specs.declared.pile.Tally.{Tally}
use Rattle.charmlet_stock.specs.declared.stock.Stock.{Stock}
use Rattle.charmlet_stock.specs.ByKind.{at, with_at}
use Rattle.charmlet_stock.specs.Pile.{with_one_back, with_one_retired, with_out}
use Rattle.charmlet_stock.specs.Stock.{blanks_in, census_of, tally_in}
use Rattle.charmlet_stock.proofs.Room.{at_again, by_kind, changed_again, with_same}
use Rattle.charmlet_migrate.specs.Moving.{held_in_both}

-- the blank that was taken comes back
back_again : (t : Tally) → 0 < t.in_stock → with_one_back (with_out t 1) ≡ t
back_again t some = λ i. record { supplied = t.supplied; in_stock = add_one i; retired = t.retired }
  where
    add_one : t.in_stock - 1 + 1 ≡ t.in_stock
    add_one = omega arith

-- of one kind, once a blank became an element's object and its old object is retired
abbrev pub moved_tally : Tally → Tally
moved_tally t = with_one_retired (with_out t 1)

module _ {C : Type 0} {G : Ghosts C} (first mid last : Stock C G) (kind : Kind) (taken : census_of mid ≡ with_at (census_of first) kind (with_out (tally_in first kind) 1)) (its : Kind) (same : its ≡ kind) where
  mid_tally : tally_in mid kind ≡ with_out (tally_in first kind) 1
  mid_tally = ap (λ (v : ByKind Tally). at v kind) taken ∙ at_again (census_of first) kind (with_out (tally_in first kind) 1)

  pub retired_then : census_of last ≡ with_at (census_of mid) its (with_one_retired (tally_in mid its)) → census_of last ≡ with_at (census_of first) kind (moved_tally (tally_in first kind))
  retired_then gone =
      changed_again (census_of first) (census_of mid) (census_of last) kind (with_out (tally_in first kind) 1) (moved_tally (tally_in first kind)) taken
      (gone ∙ ap (λ k. with_at (census_of mid) k (with_one_retired (tally_in mid k))) same ∙ ap (λ (t : Tally). with_at (census_of mid) kind (with_one_retired t)) mid_tally)

  pub given_then : 0 < blanks_in first kind → census_of last ≡ with_at (census_of mid) its (with_one_back (tally_in mid its)) → census_of last ≡ census_of first
  given_then some given =
      changed_again (census_of first) (census_of mid) (census_of last) kind (with_out (tally_in first kind) 1) (with_one_back (with_out (tally_in first kind) 1)) taken
      (given ∙ ap (λ k. with_at (census_of mid) k (with_one_back (tally_in mid k))) same ∙ ap (λ (t : Tally). with_at (census_of mid) kind (with_one_back t)) mid_tally)
      ∙ ap (with_at (census_of first) kind) (back_again (tally_in first kind) some)
      ∙ sym (with_same (census_of first) kind)

module _ {C : Type 0} {G : Ghosts C} (first last : Stock C G) (kind : Kind) (moved : census_of last ≡ with_at (census_of first) kind (moved_tally (tally_in first kind))) where
  -- a blank of the kind is gone, and an object of the kind is retired, so that as many are held
  pub moved_held : (source destination left come : View) → ((j : Kind) → objects_on left j + objects_on come j ≡ objects_on source j + objects_on destination j) → 0 < blanks_in first kind →
      held_in_both left come last ≡ held_in_both source destination first
  moved_held source destination left come as_many some = λ i j. each j i
    where
      each : (j : Kind) → held_in_both left come last j ≡ held_in_both source destination first j
      each =
          by_kind (census_of first) (census_of last) kind (moved_tally (tally_in first kind)) moved
          (λ j t. objects_on left j + (objects_on come j + t.in_stock + t.retired) ≡ held_in_both source destination first j)
          (let objects = as_many kind in omega arith)
          (λ j apart. let objects = as_many j in omega arith)

-- in a stock with the same census as many are held
pub same_held : {C : Type 0} {G : Ghosts C} (source destination : View) (first last : Stock C G) → census_of last ≡ census_of first → held_in_both source destination last ≡ held_in_both source destination first
same_held source destination first last same = ap (λ (v : ByKind Tally). λ j. objects_on source j + (objects_on destination j + (at v j).in_stock + (at v j).retired)) same
