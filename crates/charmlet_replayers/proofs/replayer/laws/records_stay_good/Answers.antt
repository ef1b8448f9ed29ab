use Rattle.charmlet_replayers.proofs.ReplayerLemmas.StaysGood.{catch-ups-stay-good, replayers-have-blanks, parts-are-good, tasks-stay-good}
use Rattle.charmlet_replayers.proofs.ReplayerLemmas.TaskWords.{tasks-have-words}
use Rattle.charmlet_replayers.proofs.replayer.laws.records_stay_good.Goals as goal

pub returns : goal.returns
returns c = record { parts = parts-are-good; catch_ups = catch-ups-stay-good; tasks = tasks-stay-good; words = tasks-have-words; blanks = replayers-have-blanks }
