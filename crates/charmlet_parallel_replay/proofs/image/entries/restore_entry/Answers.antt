use Rattle.charmlet_parallel_replay.proofs.ImageLemmas.Keeping.{keeps_on}
use Rattle.charmlet_parallel_replay.proofs.image.entries.restore_entry.Goals as goal

pub returns-clause-keeps : goal.returns-clause-keeps
returns-clause-keeps g c =
    keeps_on c.args.stock.now c.draw_if.new.stock c.args.restored.now c.draw_if.new.restored c.restore.new.self c.draw_if.ensures.keeps c.restore.ensures.held c.restore.ensures.processors c.restore.ensures.supplied
