-- What is in a stock once nothing is left on shelves.
use Rattle.std.proofs.Common.{◌≡◌, ℕ, ◌+◌, true, List, [], refl, ap, ◌∙◌, arith}
use Rattle.charmlet_model.specs.declared.kind.Kind.{Kind}
use Rattle.charmlet_chare.specs.declared.chare.Chare.{Ghosts}
use Rattle.charmlet_shelf.specs.Shelf.{View}
use Rattle.charmlet_stock.specs.declared.stock.Stock.{Stock}
use Rattle.charmlet_stock.specs.ByKind.{each_of, for_all}
use Rattle.charmlet_stock.specs.Pile.{nothing, supplied_more, with_retired_back}
use Rattle.charmlet_stock.specs.Stock.{blanks_in, census_of, keeping_of, supplied_to, tally_in}
use Rattle.charmlet_migrate.specs.Moving.{objects_among}
use Rattle.charmlet_stock.specs.Absorption.Absorbed.{retired_in}
use Rattle.charmlet_replay.proofs.Cleared.{IsDismissing, all_supplied}

-- all that was supplied is a blank, or retired
pub all_in : {C : Type 0} {G : Ghosts C} (start stock : Stock C G) (left : List View) → IsDismissing start left stock → left ≡ [] → (kind : Kind) → blanks_in stock kind + retired_in stock kind ≡ supplied_to start kind
all_in start stock left so_far none kind =
    let as_many : supplied_to stock kind ≡ supplied_to start kind = ap (λ (f : Kind → ℕ). f kind) so_far.supplied in
    let all : supplied_to stock kind ≡ objects_among [] kind + blanks_in stock kind + retired_in stock kind =
    so_far.counted kind ∙ ap (λ vs. objects_among vs kind + blanks_in stock kind + retired_in stock kind) none in
    omega (arith, as_many, all)

-- and once the retired are blanks again, all are
pub all_blank : {C : Type 0} {G : Ghosts C} (stock taken last : Stock C G) → ((kind : Kind) → supplied_to stock kind ≡ blanks_in stock kind + retired_in stock kind) → keeping_of stock ≡ for_all true →
    census_of taken ≡ each_of with_retired_back (census_of stock) → census_of last ≡ census_of taken → (kind : Kind) → tally_in last kind ≡ supplied_more nothing (supplied_to stock kind)
all_blank stock taken last all keeping back same kind =
    all_supplied stock stock taken last []
    (record {
      idle = λ k d within. absurd (let never : ⊥ = omega (arith, within) in never);
      counted = λ k. let one = all k in omega (arith, one);
      supplied = refl;
      keeping = keeping;
    }) refl back same kind
