use Rattle.std.proofs.Common.{◌≡◌, ◌∙◌}
use Rattle.std.specs.Prelude.{IsSorted}
use Rattle.std.specs.Map.{keys_of}
use Rattle.charmlet_model.specs.Names.{elem_cmp}
use Rattle.charmlet_shelf.specs.Risen.{risen}
use Rattle.charmlet_persist.proofs.FuzzyCheckpointLemmas.Tables.{on_ok, risen_already, risen_same, sorted_rises}
use Rattle.charmlet_persist.proofs.fuzzy_checkpoint.entries.rise.Goals as goal

pub returns-clause-same : goal.returns-clause-same
returns-clause-same c = risen_same c.args.table.now.entries c.sort_unstable_keys.new.self.entries c.sort_unstable_keys.ensures.reordered.2

pub returns-clause-ok : goal.returns-clause-ok
returns-clause-ok c =
    let es = c.sort_unstable_keys.new.self.entries in
    on_ok c.sort_unstable_keys.result (IsSorted elem_cmp (keys_of es)) (es ≡ risen c.args.table.now.entries)
    (λ sorted. risen_already es (sorted_rises (keys_of es) sorted c.sort_unstable_keys.ensures.unique)
    ∙ risen_same c.args.table.now.entries es c.sort_unstable_keys.ensures.reordered.2) c.sort_unstable_keys.ensures.sorted
