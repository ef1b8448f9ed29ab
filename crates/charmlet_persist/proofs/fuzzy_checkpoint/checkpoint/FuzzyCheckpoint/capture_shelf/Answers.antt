use Rattle.std.proofs.Common.{sym, subst}
use Rattle.charmlet_history.specs.Kept.{core_in}
use Rattle.charmlet_persist.specs.FuzzyCheckpoint.Checkpoint.{IsRunning, Run}
use Rattle.charmlet_persist.proofs.FuzzyCheckpointLemmas.Images.{taken_running}
use Rattle.charmlet_persist.proofs.FuzzyCheckpointLemmas.Notes.{either_way}
use Rattle.charmlet_persist.proofs.fuzzy_checkpoint.checkpoint.FuzzyCheckpoint.capture_shelf.Goals as goal

pub returns-clause-running : goal.returns-clause-running
returns-clause-running c =
    let core = core_in c.args.history.now in
    let run : Run = c.args.self.now in
    either_way c.capture_images.result _ _ (IsRunning core c.capture_images.new.self) c.capture_images.ensures.ok c.capture_images.ensures.err
    (λ made. subst (IsRunning core) (sym made) (taken_running core run c.args.images.items c.facts.ensures.sound c.requires.shown c.requires.running))
    (λ same. subst (IsRunning core) (sym same) c.requires.running)
