use Rattle.std.proofs.Common.{◌∙◌}
use Rattle.charmlet_state_tests.proofs.tests.world.worlds.some_move.Goals as goal

pub returns : goal.returns
returns c = record {
  shows = c.relocate.ensures.world c.args.plain.now c.requires.shows;
  fit = c.requires.fit;
  none = c.relocate.ensures.promised ∙ c.requires.none;
}
