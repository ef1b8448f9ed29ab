use Rattle.std.proofs.Common.{◌≡◌, Some, sym, subst, rules}
use Rattle.std.specs.Prelude.{OnErr, OnOk}
use Rattle.charmlet_model.specs.Core.{Move, place_of}
use Rattle.charmlet_model.specs.Run.{Goes}
use Rattle.charmlet_shelf.specs.Shelf.{View}
use Rattle.charmlet_delivery.specs.Workplace.{done_or_refused, store_with}
use Rattle.charmlet_sequencer.specs.Relocating.{Carries, KeepsObjectsOfBoth}
use Rattle.charmlet_sequencer.specs.Sequencer.{SequencerShown, store_of}
use Rattle.charmlet_sequencer.specs.Together.{shown_by}
use Rattle.charmlet_sequencer.proofs.Relocations.{carries_if, lent_shelf, sequencer_moved, unmoved_same}
use Rattle.charmlet_sequencer.proofs.sequencer.Sequencer.relocate.Goals as goal

pub move_between-moved-requires-clause-place : goal.move_between-moved-requires-clause-place
move_between-moved-requires-clause-place g c κs within =
    subst (λ (x : SequencerShown _ × View). place_of x.0.core c.args.elem ≡ Some x.1.number) (sym (λ i. (c.self.view_is i, c.from.view_is i))) c.requires.place

pub move_between-moved-requires-clause-source : goal.move_between-moved-requires-clause-source
move_between-moved-requires-clause-source g c κs within =
    let h = c.self.inside in
    let s = c.from.inside in
    lent_shelf g.B.RuntimeName.opening g.B.RuntimeName.before g.B.RuntimeName.processors g.B.RuntimeName.generation h.history h.stock h.parts h.halves c.self.invariant s.shelf s.fragment c.from.invariant.0 c.agree.ensures.agrees

pub move_between-moved-requires-clause-destination : goal.move_between-moved-requires-clause-destination
move_between-moved-requires-clause-destination g c κs within =
    let h = c.self.inside in
    let s = c.to.inside in
    lent_shelf g.B.RuntimeName.opening g.B.RuntimeName.before g.B.RuntimeName.processors g.B.RuntimeName.generation h.history h.stock h.parts h.halves c.self.invariant s.shelf s.fragment c.to.invariant.0 (search rules)

pub invariant_of-self : goal.invariant_of-self
invariant_of-self g c =
    let h = c.self.inside in
    let a = c.from.inside in
    let b = c.to.inside in
    let done = c.move_between-moved in
    sequencer_moved g.B.RuntimeName.opening g.B.RuntimeName.before g.B.RuntimeName.processors g.B.RuntimeName.generation h.history h.stock h.parts h.halves c.self.invariant a.shelf b.shelf a.fragment b.fragment c.from.invariant.0 c.to.invariant.0 c.agree.ensures.agrees (search rules)
    done.new.history done.new.stock c.args.elem done.result done.ensures.goes
    (search rules) (search rules) c.facts.ensures.sound c.facts-2.ensures.sound done.new.source done.new.destination done.ensures.source done.ensures.destination done.ensures.source_others done.ensures.destination_others done.ensures.held done.ensures.supplied done.ensures.keeping
    c.write-2.new.parts (search rules)

pub returns-clause-goes : goal.returns-clause-goes
returns-clause-goes g c =
    let done = c.move_between-moved in
    let after = store_with done.new.history done.new.stock in
    subst (λ (x : SequencerShown _ × View). Goes (store_of x.0) (Move c.args.elem x.1.number) (done_or_refused done.result) after) (λ i. (c.self.view_is i, c.to.view_is i)) done.ensures.goes

pub returns-clause-ok : goal.returns-clause-ok
returns-clause-ok g c =
    let h = c.self.inside in
    let a = c.from.inside in
    let b = c.to.inside in
    let done = c.move_between-moved in
    let its = lent_shelf g.B.RuntimeName.opening g.B.RuntimeName.before g.B.RuntimeName.processors g.B.RuntimeName.generation h.history h.stock h.parts h.halves c.self.invariant in
    subst (λ (x : View × View). OnOk done.result (Carries c.args.elem x.0 x.1 done.new.source done.new.destination)) (λ i. (c.from.view_is i, c.to.view_is i))
    (carries_if h.history done.new.history h.stock done.new.stock c.args.elem a.shelf b.shelf done.new.source done.new.destination c.facts.ensures.sound (search rules) (search rules)
    (its a.shelf a.fragment c.from.invariant.0 c.agree.ensures.agrees) (its b.shelf b.fragment c.to.invariant.0 (search rules)) done.ensures.source done.ensures.destination done.ensures.source_others done.ensures.destination_others done.result done.ensures.goes)

pub returns-clause-objects : goal.returns-clause-objects
returns-clause-objects g c =
    let h = c.self.inside in
    let done = c.move_between-moved in
    subst (λ (x : SequencerShown _ × View × View). KeepsObjectsOfBoth x.0 (shown_by done.new.history done.new.stock h.halves) x.1 x.2 done.new.source done.new.destination) (λ i. (c.self.view_is i, c.from.view_is i, c.to.view_is i))
    (record { held = done.ensures.held; supplied = done.ensures.supplied })

pub returns-clause-err : goal.returns-clause-err
returns-clause-err g c =
    let h = c.self.inside in
    let a = c.from.inside in
    let b = c.to.inside in
    let done = c.move_between-moved in
    subst (λ (x : SequencerShown _ × View × View). OnErr done.result ((shown_by done.new.history done.new.stock h.halves ≡ x.0) × (done.new.source ≡ x.1) × (done.new.destination ≡ x.2))) (λ i. (c.self.view_is i, c.from.view_is i, c.to.view_is i))
    (unmoved_same h.history done.new.history h.stock done.new.stock h.halves c.args.elem a.shelf b.shelf done.new.source done.new.destination done.result done.ensures.goes done.ensures.err)
