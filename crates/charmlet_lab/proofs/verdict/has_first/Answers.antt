use Rattle.charmlet_model.specs.Sound.{new_world}
use Rattle.charmlet_lab.specs.Rounds.{arrays_of}
use Rattle.charmlet_lab.proofs.Folded.{legal_front}
use Rattle.charmlet_lab.proofs.verdict.has_first.Goals as goal

pub world_after-requires : goal.world_after-requires
world_after-requires g c = legal_front (new_world (arrays_of c.args.script.now)) c.args.events.now c.event_count-count.result c.requires.legal
