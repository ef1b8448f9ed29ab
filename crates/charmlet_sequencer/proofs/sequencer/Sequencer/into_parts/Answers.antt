use Rattle.charmlet_sequencer.proofs.sequencer.Sequencer.into_parts.Goals as goal

pub returns-clause-of : goal.returns-clause-of
returns-clause-of g c = c.self.invariant.0.of
