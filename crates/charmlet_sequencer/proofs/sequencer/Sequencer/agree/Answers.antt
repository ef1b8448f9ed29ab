use Rattle.std.proofs.Common.{◌<◌, subst}
use Rattle.charmlet_model.specs.Core.{present}
use Rattle.charmlet_shelf.specs.Shelf.{View}
use Rattle.charmlet_delivery.specs.UnderWay.{due_in}
use Rattle.charmlet_delivery.specs.Workplace.{ShowsOn}
use Rattle.charmlet_sequencer.specs.Authority.{IsDueOn}
use Rattle.charmlet_sequencer.specs.Sequencer.{SequencerShown}
use Rattle.charmlet_sequencer.proofs.Agreeing.{due_there, part_there}
use Rattle.charmlet_sequencer.proofs.sequencer.Sequencer.agree.Goals as goal

pub returns-clause-on : goal.returns-clause-on
returns-clause-on g c =
    let h = c.self.inside in
    let s = c.locked.inside in
    subst (λ (x : SequencerShown _ × View). x.1.number < x.0.core.processors) (λ i. (c.self.view_is i, c.locked.view_is i))
    (part_there h.history h.stock h.parts c.self.invariant.1.authority s.shelf s.fragment c.locked.invariant.0 c.agree.ensures.agrees).on

pub returns-clause-shows : goal.returns-clause-shows
returns-clause-shows g c =
    let h = c.self.inside in
    let s = c.locked.inside in
    subst (λ (x : SequencerShown _ × View). ShowsOn x.1.number x.1.records x.0.core.places (present x.0.core)) (λ i. (c.self.view_is i, c.locked.view_is i))
    (part_there h.history h.stock h.parts c.self.invariant.1.authority s.shelf s.fragment c.locked.invariant.0 c.agree.ensures.agrees).objects

pub returns-clause-due : goal.returns-clause-due
returns-clause-due g c =
    let h = c.self.inside in
    let s = c.locked.inside in
    subst (λ (x : SequencerShown _ × View). IsDueOn x.0.core x.1.number (due_in x.1.phase)) (λ i. (c.self.view_is i, c.locked.view_is i))
    (due_there h.history h.stock h.parts c.self.invariant.1.authority s.shelf s.fragment c.locked.invariant.0 c.agree.ensures.agrees)
