use Rattle.charmlet_model.specs.declared.kind.Kind.TheVariants as kinds
use Rattle.charmlet_stock.proofs.stock.Stock.keep_retired.Goals as goal

pub keep_retired-requires-after_bounds : goal.keep_retired-requires-after_bounds
keep_retired-requires-after_bounds g c κs within = c.requires kinds.Counter

pub keep_retired-requires-2-after_bounds : goal.keep_retired-requires-2-after_bounds
keep_retired-requires-2-after_bounds g c κs within = c.requires kinds.Ring

pub keep_retired-requires-3-after_bounds : goal.keep_retired-requires-3-after_bounds
keep_retired-requires-3-after_bounds g c κs within = c.requires kinds.Account

pub keep_retired-requires-4-after_bounds : goal.keep_retired-requires-4-after_bounds
keep_retired-requires-4-after_bounds g c κs within = c.requires kinds.Sum

pub keep_retired-requires-5-after_bounds : goal.keep_retired-requires-5-after_bounds
keep_retired-requires-5-after_bounds g c κs within = c.requires kinds.Tree

pub keep_retired-requires-6-after_bounds : goal.keep_retired-requires-6-after_bounds
keep_retired-requires-6-after_bounds g c κs within = c.requires kinds.Tape
