use Rattle.charmlet_engine.proofs.Lives.{beginnings_are_remembered, lives_are_remembered, present_is_remembered}
use Rattle.charmlet_engine.proofs.laws.lives_are_remembered.Goals as goal

pub returns : goal.returns
returns c = record { beginnings = beginnings_are_remembered; lives = lives_are_remembered; present = present_is_remembered }
