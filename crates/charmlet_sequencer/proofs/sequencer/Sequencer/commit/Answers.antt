use Rattle.std.proofs.Common.{subst, rules}
use Rattle.charmlet_model.specs.Core.{Commit, Done}
use Rattle.charmlet_model.specs.Run.{Goes}
use Rattle.charmlet_history.specs.Delivered.{commit_answer}
use Rattle.charmlet_shelf.specs.Shelf.{View}
use Rattle.charmlet_delivery.specs.Workplace.{store_with}
use Rattle.charmlet_sequencer.specs.Sequencer.{SequencerShown, KeepsObjects, store_of}
use Rattle.charmlet_sequencer.specs.Together.{shown_by}
use Rattle.charmlet_sequencer.proofs.Calls.{at_work, sequencer_again, keeps_objects}
use Rattle.charmlet_sequencer.proofs.sequencer.Sequencer.commit.Goals as goal

pub commit-committed-requires-clause-consistent : goal.commit-committed-requires-clause-consistent
commit-committed-requires-clause-consistent g c κs within =
    let h = c.self.inside in
    let s = c.locked.inside in
    at_work g.B.RuntimeName.opening g.B.RuntimeName.before g.B.RuntimeName.processors g.B.RuntimeName.generation h.history h.stock h.parts h.halves c.self.invariant s.shelf s.fragment c.locked.invariant.0 c.agree.ensures.agrees

pub invariant_of-self : goal.invariant_of-self
invariant_of-self g c =
    let h = c.self.inside in
    let s = c.locked.inside in
    let done = c.commit-committed in
    sequencer_again g.B.RuntimeName.opening g.B.RuntimeName.before g.B.RuntimeName.processors g.B.RuntimeName.generation h.history h.stock h.parts h.halves c.self.invariant s.shelf s.fragment c.locked.invariant.0 c.agree.ensures.agrees
    done.new.history done.new.shelf done.new.stock done.ensures.turns (Commit s.shelf.number) (commit_answer done.result) tt done.ensures.goes
    c.facts.ensures.sound c.facts-2.ensures.sound c.write.new.parts (search rules)

pub invariant_of-self-2 : goal.invariant_of-self-2
invariant_of-self-2 g c =
    let h = c.self.inside in
    let s = c.locked.inside in
    let done = c.commit-committed in
    sequencer_again g.B.RuntimeName.opening g.B.RuntimeName.before g.B.RuntimeName.processors g.B.RuntimeName.generation h.history h.stock h.parts h.halves c.self.invariant s.shelf s.fragment c.locked.invariant.0 c.agree.ensures.agrees
    done.new.history done.new.shelf done.new.stock done.ensures.turns (Commit s.shelf.number) (commit_answer done.result) tt done.ensures.goes
    c.facts.ensures.sound c.facts-2.ensures.sound c.write.new.parts (search rules)

pub returns-clause-goes : goal.returns-clause-goes
returns-clause-goes g c =
    let h = c.self.inside in
    let s = c.locked.inside in
    let done = c.commit-committed in
    let after = store_with done.new.history done.new.stock in
    subst (λ (x : SequencerShown _ × View). Goes (store_of x.0) (Commit x.1.number) Done after) (λ i. (c.self.view_is i, c.locked.view_is i))
    (subst (λ r. Goes (store_with h.history h.stock) (Commit s.shelf.number) (commit_answer r) after) c.in_default-committed.is done.ensures.goes)

pub returns-clause-objects : goal.returns-clause-objects
returns-clause-objects g c =
    let h = c.self.inside in
    let s = c.locked.inside in
    let done = c.commit-committed in
    subst (λ (x : SequencerShown _ × View). KeepsObjects x.0 (shown_by done.new.history done.new.stock h.halves) x.1 done.new.shelf) (λ i. (c.self.view_is i, c.locked.view_is i))
    (keeps_objects g.B.RuntimeName.opening g.B.RuntimeName.before g.B.RuntimeName.processors g.B.RuntimeName.generation h.history h.stock h.parts h.halves c.self.invariant s.shelf s.fragment c.locked.invariant.0 c.agree.ensures.agrees
    done.new.history done.new.shelf done.new.stock done.ensures.turns)
