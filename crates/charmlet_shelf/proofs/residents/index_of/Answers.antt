use Rattle.std.proofs.Common.{◌≡◌, refl, sym, ap, ◌∙◌}
use Rattle.std.specs.Prelude.{Some, None, IfSome, is_some}
use Rattle.charmlet_shelf.specs.Risen.{StandsAt}
use Rattle.charmlet_shelf.proofs.Risen.{found_risen, none_from_test, stands_found}
use Rattle.charmlet_shelf.proofs.residents.index_of.Goals as goal

pub returns-clause-some : goal.returns-clause-some
returns-clause-some g c =
    let es = c.args.residents.now.entries in
    elim c.get_index_of.result as (λ o. c.get_index_of.result ≡ o → IfSome o (StandsAt es c.args.elem)) [
      | None ↦ λ _. tt
      | Some i ↦ λ is. stands_found c.args.elem es i c.get_index_of.ensures.unique (sym c.get_index_of.ensures.index ∙ is)
    ] refl

pub returns-clause-none : goal.returns-clause-none
returns-clause-none g c = λ none. found_risen c.args.elem c.args.residents.now.entries ∙ none_from_test _ (sym c.get_index_of.ensures.found ∙ ap is_some none)
