-- What replayers drew from a stock of which nothing was used.
use Rattle.std.proofs.Common.{◌≡◌, ℕ, ◌+◌, List, [], ◌∷◌, refl, sym, ap, ◌∙◌, arith}
use Rattle.std.specs.List.{All, AllByRecursion}
use Rattle.std.proofs.lemmas.List.Elements.{recursion_from_All}
use Rattle.std.proofs.lemmas.List.Sums.{sum_by-cons}
use Rattle.charmlet_model.specs.declared.kind.Kind.{Kind}
use Rattle.charmlet_chare.specs.declared.chare.Chare.{Ghosts}
use Rattle.charmlet_stock.specs.declared.by_kind.ByKind.{ByKind}
use Rattle.charmlet_stock.specs.declared.pile.Tally.{Tally}
use Rattle.charmlet_stock.specs.declared.stock.Stock.{Stock}
use Rattle.charmlet_stock.specs.ByKind.{at}
use Rattle.charmlet_stock.specs.Stock.{blanks_in, census_of, supplied_to, tally_in}
use Rattle.charmlet_stock.specs.Absorption.Absorbed.{retired_in}
use Rattle.charmlet_parallel_replay.specs.replayer.Replayer.{Replayer}
use Rattle.charmlet_replayers.specs.Dispatch.Keeping.{IsHeldReplayer, KeepsAll, supplied_by}
use Rattle.charmlet_parallel_replay.specs.Combined.{drawn_by_replayers}
use Rattle.charmlet_replay.specs.Unused.{IsUnused}
use Rattle.charmlet_replay.proofs.Begun.{unused_counts}
use Rattle.charmlet_parallel_replay.specs.Image.Filled.{IsEmptyReplayer}

module _ {C : Type 0} {G : Ghosts C} where
  -- nothing was supplied to replayers who have nothing yet
  pub none_supplied : (processors : ℕ) (replayers : List (Replayer C G)) → All (IsEmptyReplayer processors) replayers → (kind : Kind) → supplied_by replayers kind ≡ 0
  none_supplied processors replayers empty kind = by replayers (recursion_from_All (IsEmptyReplayer processors) replayers empty)
    where
      by : (ls : List (Replayer C G)) → AllByRecursion (IsEmptyReplayer processors) ls → supplied_by ls kind ≡ 0
      by [] h = refl
      by (replayer ∷ ls) h =
          let sum = sum_by-cons (λ (replayer : Replayer C G). supplied_to replayer.restored.stock kind) replayer ls in
          let here = h.0.bare kind in
          let rest = by ls h.1 in
          omega (arith, sum, here, rest)

  pub all_held : (processors : ℕ) (replayers : List (Replayer C G)) → All (IsEmptyReplayer processors) replayers → All IsHeldReplayer replayers
  all_held processors replayers empty v d less = (empty v d less).held

  module _ (blanks stock : Stock C G) (unused : IsUnused blanks) (census : census_of stock ≡ census_of blanks) where
    same_tally : (kind : Kind) → tally_in stock kind ≡ tally_in blanks kind
    same_tally kind = ap (λ (v : ByKind Tally). at v kind) census

    -- it has the blanks that were given, all that was supplied
    pub same_blanks : (kind : Kind) → blanks_in stock kind ≡ blanks_in blanks kind
    same_blanks kind = ap (λ (t : Tally). t.in_stock) (same_tally kind)

    pub same_supplied : (kind : Kind) → supplied_to stock kind ≡ supplied_to blanks kind
    same_supplied kind = ap (λ (t : Tally). t.supplied) (same_tally kind)

    pub none_retired : (kind : Kind) → retired_in stock kind ≡ 0
    none_retired kind = ap (λ (t : Tally). t.retired) (same_tally kind) ∙ (unused_counts blanks unused kind).1

    all_blanks : (kind : Kind) → supplied_to stock kind ≡ blanks_in stock kind
    all_blanks kind = same_supplied kind ∙ (unused_counts blanks unused kind).0 ∙ sym (same_blanks kind)

    -- what isn't in the stock, the replayers drew
    pub shared_none : (replayers : List (Replayer C G)) → ((kind : Kind) → supplied_by replayers kind ≡ 0) → (kind : Kind) → supplied_to stock kind ≡ drawn_by_replayers replayers kind + blanks_in stock kind + retired_in stock kind
    shared_none replayers none kind =
        let nothing = none kind in
        let same : drawn_by_replayers replayers kind ≡ supplied_by replayers kind = refl in
        let all = all_blanks kind in
        let retired = none_retired kind in
        omega (arith, nothing, same, all, retired)

    module _ (left : Stock C G) (olds news : List (Replayer C G)) (none : (kind : Kind) → supplied_by olds kind ≡ 0) (keeps : KeepsAll stock left olds news) where
      pub supplied_left : (kind : Kind) → supplied_to left kind ≡ supplied_to blanks kind
      supplied_left kind = ap (λ (t : Tally). t.supplied) (keeps.drawn kind) ∙ same_supplied kind

      pub shared_left : (kind : Kind) → supplied_to left kind ≡ drawn_by_replayers news kind + blanks_in left kind + retired_in left kind
      shared_left kind =
          let nothing = none kind in
          let same : drawn_by_replayers news kind ≡ supplied_by news kind = refl in
          let all = all_blanks kind in
          let retired : retired_in left kind ≡ 0 = ap (λ (t : Tally). t.retired) (keeps.drawn kind) ∙ none_retired kind in
          let supplied : supplied_to left kind ≡ supplied_to stock kind = ap (λ (t : Tally). t.supplied) (keeps.drawn kind) in
          let total = keeps.total kind in
          omega (arith, nothing, same, all, retired, supplied, total)
