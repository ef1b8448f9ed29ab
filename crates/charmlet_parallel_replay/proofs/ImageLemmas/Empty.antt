-- Replayers who have nothing yet.
use Rattle.std.proofs.Common.{◌≡◌, ℕ, ◌+◌, false, List, [], ◌∷◌, ◌++◌, refl, sym, ap, ◌∙◌}
use Rattle.std.specs.List.{All, AllByRecursion}
use Rattle.std.proofs.lemmas.List.Elements.{All-from_recursion, recursion_from_All}
use Rattle.charmlet_model.specs.declared.kind.Kind.{Kind}
use Rattle.charmlet_chare.specs.declared.chare.Chare.{Ghosts}
use Rattle.charmlet_stock.specs.declared.pile.Tally.{Tally}
use Rattle.charmlet_stock.specs.declared.stock.Stock.{Stock}
use Rattle.charmlet_stock.specs.ByKind.{for_all}
use Rattle.charmlet_stock.specs.Pile.{nothing, supplied_more}
use Rattle.charmlet_stock.specs.Stock.{blanks_in, keeping_of, supplied_to, tally_in}
use Rattle.charmlet_replay.specs.Unused.{IsUnused}

module _ {C : Type 0} {G : Ghosts C} (stock : Stock C G) (none : (kind : Kind) → tally_in stock kind ≡ nothing) where
  pub none_supplied : (kind : Kind) → supplied_to stock kind ≡ 0
  none_supplied kind = ap (λ (t : Tally). t.supplied) (none kind)

  pub none_there : (kind : Kind) → blanks_in stock kind ≡ 0
  none_there kind = ap (λ (t : Tally). t.in_stock) (none kind)

  -- of a new stock nothing was used
  pub new_unused : keeping_of stock ≡ for_all false → IsUnused stock
  new_unused keeping = record {
    all = λ kind. none kind ∙ sym (ap (supplied_more nothing) (none_supplied kind));
    keeping = keeping;
  }

-- one more is as all are
pub all_more : {X : Type 0} (P : X → Type 0) (xs : List X) (x : X) → All P xs → P x → All P (xs ++ x ∷ [])
all_more {X} P xs x all one = All-from_recursion P (xs ++ x ∷ []) (grown xs (recursion_from_All P xs all))
  where
    grown : (ys : List X) → AllByRecursion P ys → AllByRecursion P (ys ++ x ∷ [])
    grown [] h = (one, tt)
    grown (y ∷ ys) h = (h.0, grown ys h.1)
