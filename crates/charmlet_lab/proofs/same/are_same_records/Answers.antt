use Rattle.charmlet_model.specs.Names.{elem_cmp}
use Rattle.charmlet_model.proofs.Maps.{elem_exact, elem_total}
use Rattle.charmlet_lab.proofs.Maps.{not_same, same_if_both}
use Rattle.charmlet_lab.proofs.same.are_same_records.Goals as goal

pub returns-then-has_records : goal.returns-then-has_records
returns-then-has_records c =
    same_if_both elem_cmp elem_total elem_exact c.has_records-then-has_records.result c.args.one.now.records c.args.other.now.records c.requires.one c.requires.other (c.has_records.ensures.0 c.if-has_records.true) c.has_records-then-has_records.ensures

pub returns-else-has_records : goal.returns-else-has_records
returns-else-has_records c = not_same elem_cmp elem_total elem_exact c.has_records.result c.args.one.now.records c.args.other.now.records c.requires.one c.if-has_records.false c.has_records.ensures
