use Rattle.charmlet_stock.specs.Stock.{blanks_in}
use Rattle.charmlet_parallel_replay.proofs.repeated.replay_by.Goals as goal

pub returns-in-Ok-clause-ok : goal.returns-in-Ok-clause-ok
returns-in-Ok-clause-ok g c = λ bytes s is. c.upgrade_store.ensures.ok c.args.processors (blanks_in c.args.blanks) s (c.in-Ok.ensures.ok bytes s is)
