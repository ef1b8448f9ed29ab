use Rattle.std.proofs.Common.{◌≡◌, subst, rules}
use Rattle.std.specs.Prelude.{OnErr}
use Rattle.charmlet_model.specs.Core.{Assign}
use Rattle.charmlet_model.specs.Run.{Goes}
use Rattle.charmlet_shelf.specs.Shelf.{View}
use Rattle.charmlet_delivery.specs.UnderWay.{due_in}
use Rattle.charmlet_delivery.specs.Workplace.{done_or_refused, store_with}
use Rattle.charmlet_history.specs.Kept.{core_in}
use Rattle.charmlet_sequencer.specs.Authority.{IsDueOn}
use Rattle.charmlet_sequencer.specs.Sequencer.{SequencerShown, KeepsObjects, store_of}
use Rattle.charmlet_sequencer.specs.Together.{shown_by}
use Rattle.charmlet_sequencer.proofs.Agreeing.{due_after}
use Rattle.charmlet_sequencer.proofs.Calls.{at_work, both_same, sequencer_again, keeps_objects, refused_same}
use Rattle.charmlet_sequencer.proofs.sequencer.Sequencer.assign.Goals as goal

pub assign-assigned-requires-after_bounds : goal.assign-assigned-requires-after_bounds
assign-assigned-requires-after_bounds g c κs within =
    let h = c.self.inside in
    let s = c.locked.inside in
    at_work g.B.RuntimeName.opening g.B.RuntimeName.before g.B.RuntimeName.processors g.B.RuntimeName.generation h.history h.stock h.parts h.halves c.self.invariant s.shelf s.fragment c.locked.invariant.0 c.agree.ensures.agrees

pub invariant_of-self : goal.invariant_of-self
invariant_of-self g c =
    let h = c.self.inside in
    let s = c.locked.inside in
    let done = c.assign-assigned in
    sequencer_again g.B.RuntimeName.opening g.B.RuntimeName.before g.B.RuntimeName.processors g.B.RuntimeName.generation h.history h.stock h.parts h.halves c.self.invariant s.shelf s.fragment c.locked.invariant.0 c.agree.ensures.agrees
    done.new.history done.new.shelf done.new.stock done.ensures.turns (Assign s.shelf.number c.args.id) (done_or_refused done.result) tt done.ensures.goes
    c.facts.ensures.sound c.facts-2.ensures.sound c.write.new.parts (search rules)

pub returns-clause-goes : goal.returns-clause-goes
returns-clause-goes g c =
    let s = c.locked.inside in
    let done = c.assign-assigned in
    let after = store_with done.new.history done.new.stock in
    subst (λ (x : SequencerShown _ × View). Goes (store_of x.0) (Assign x.1.number c.args.id) (done_or_refused done.result) after) (λ i. (c.self.view_is i, c.locked.view_is i)) done.ensures.goes

pub returns-clause-due : goal.returns-clause-due
returns-clause-due g c =
    let h = c.self.inside in
    let s = c.locked.inside in
    let done = c.assign-assigned in
    subst (λ (v : View). IsDueOn (core_in done.new.history) v.number (due_in done.new.shelf.phase)) c.locked.view_is
    (due_after h.history h.stock h.parts c.self.invariant.1.authority s.shelf s.fragment c.locked.invariant.0 c.agree.ensures.agrees done.new.history done.new.shelf done.new.stock done.ensures.turns)

pub returns-clause-objects : goal.returns-clause-objects
returns-clause-objects g c =
    let h = c.self.inside in
    let s = c.locked.inside in
    let done = c.assign-assigned in
    subst (λ (x : SequencerShown _ × View). KeepsObjects x.0 (shown_by done.new.history done.new.stock h.halves) x.1 done.new.shelf) (λ i. (c.self.view_is i, c.locked.view_is i))
    (keeps_objects g.B.RuntimeName.opening g.B.RuntimeName.before g.B.RuntimeName.processors g.B.RuntimeName.generation h.history h.stock h.parts h.halves c.self.invariant s.shelf s.fragment c.locked.invariant.0 c.agree.ensures.agrees
    done.new.history done.new.shelf done.new.stock done.ensures.turns)

pub returns-clause-err : goal.returns-clause-err
returns-clause-err g c =
    let h = c.self.inside in
    let s = c.locked.inside in
    let done = c.assign-assigned in
    subst (λ (x : SequencerShown _ × View). OnErr done.result ((shown_by done.new.history done.new.stock h.halves ≡ x.0) × (done.new.shelf ≡ x.1))) (λ i. (c.self.view_is i, c.locked.view_is i))
    (both_same (shown_by done.new.history done.new.stock h.halves ≡ shown_by h.history h.stock h.halves) (done.new.shelf ≡ s.shelf) done.result
    (refused_same g.B.RuntimeName.opening g.B.RuntimeName.before g.B.RuntimeName.processors g.B.RuntimeName.generation h.history h.stock h.parts h.halves c.self.invariant s.shelf s.fragment c.locked.invariant.0 c.agree.ensures.agrees
    done.new.history done.new.shelf done.new.stock done.ensures.turns (Assign s.shelf.number c.args.id) done.result tt done.ensures.goes done.ensures.err)
    done.ensures.err)
