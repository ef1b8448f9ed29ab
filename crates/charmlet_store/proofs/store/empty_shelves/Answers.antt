use Rattle.std.proofs.Common.{arith, ◌≡◌, ◌+◌, List, ◌∷◌, [], length, get_or, sym, ap, ◌∙◌, ⊎_elim}
use Rattle.std.proofs.lemmas.Bool.{cases_lt}
use Rattle.std.proofs.lemmas.List.{get_or_append_left, get_or_push, length_push}
use Rattle.charmlet_shelf.specs.Shelf.{View}
use Rattle.charmlet_migrate.specs.Copying.{empty_shelf}
use Rattle.charmlet_store.proofs.store.empty_shelves.Goals as goal

-- src/store.rt:299:5
pub loop-processor-preserved : goal.loop-processor-preserved
loop-processor-preserved g c =
    let items = c.in_ok-push.ensures.items in
    let before : List View = c.loop-processor.shelves.items in
    let processor = c.loop-processor.processor in
    let old : length before ≡ processor = sym (c.loop-processor.shelves.ok.0) ∙ c.loop-processor.invariant.count in
    record {
      count = c.push.new.self.ok.0 ∙ ap length items ∙ length_push before c.new.result ∙ ap (λ n. n + 1) old;
      empty = λ k shelf within. ap (λ (l : List View). get_or l k shelf) items ∙ ⊎_elim
          (λ below. get_or_append_left before (c.new.result ∷ []) shelf k below ∙ c.loop-processor.invariant.empty k shelf (omega (arith, below, old)))
          (λ above. let last : length before ≡ k = omega (arith, above, within, old) in
          get_or_push before c.new.result shelf k last ∙ c.new.ensures ∙ ap empty_shelf (sym old ∙ last))
          (cases_lt k (length before));
    }
