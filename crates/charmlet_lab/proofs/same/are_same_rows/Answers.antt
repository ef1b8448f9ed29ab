use Rattle.std.specs.Cmp.{nat_cmp_total}
use Rattle.std.specs.Ordering.{nat_cmp}
use Rattle.std.proofs.lemmas.Map.Lookups.{exact_unsigned}
use Rattle.charmlet_lab.proofs.Maps.{not_same, same_if_both}
use Rattle.charmlet_lab.proofs.same.are_same_rows.Goals as goal

pub returns-then-has_rows : goal.returns-then-has_rows
returns-then-has_rows c =
    same_if_both nat_cmp nat_cmp_total exact_unsigned c.has_rows-then-has_rows.result c.args.one.now.clients c.args.other.now.clients c.requires.one c.requires.other (c.has_rows.ensures.0 c.if-has_rows.true) c.has_rows-then-has_rows.ensures

pub returns-else-has_rows : goal.returns-else-has_rows
returns-else-has_rows c = not_same nat_cmp nat_cmp_total exact_unsigned c.has_rows.result c.args.one.now.clients c.args.other.now.clients c.requires.one c.if-has_rows.false c.has_rows.ensures
