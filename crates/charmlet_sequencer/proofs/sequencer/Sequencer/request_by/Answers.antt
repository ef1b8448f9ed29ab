use Rattle.std.proofs.Common.{refl, subst}
use Rattle.std.specs.Prelude.{IfOk, take}
use Rattle.charmlet_model.specs.Core.{Request}
use Rattle.charmlet_model.specs.Run.{Goes}
use Rattle.charmlet_model.specs.Told.{Holds}
use Rattle.charmlet_stock.specs.Stock.{blanks_in}
use Rattle.charmlet_history.specs.Kept.{core_in, plenty, told_or_refused}
use Rattle.charmlet_persist.proofs.WritesLemmas.Quietness.{quiet_step}
use Rattle.charmlet_delivery.specs.Workplace.{store_with}
use Rattle.charmlet_delivery.proofs.Leaving.{request_leaves}
use Rattle.charmlet_sequencer.specs.Sequencer.{SequencerShown, store_of}
use Rattle.charmlet_sequencer.proofs.Calls.{other_authority, other_opened, request_generation, tied_again, told_holds}
use Rattle.charmlet_sequencer.proofs.sequencer.Sequencer.request_by.Goals as goal

pub invariant_of-self : goal.invariant_of-self
invariant_of-self g c =
    let h = c.self.inside in
    let r = c.args.request.now in
    let client = c.args.pass.now.pass.client in
    let core = core_in h.history in
    let next = c.request-told.new.history in
    let step = Request client r.number r.to r.entry r.words.now in
    let answer = told_or_refused c.request-told.result in
    let steps = c.request-told.ensures.steps plenty in
    let each = request_leaves core client r.number r.to r.entry r.words.now in
    let authority = c.self.invariant.1.authority in
    let opened = c.self.invariant.0 in
    let sound = c.facts-2.ensures.sound in (
      other_opened h.history next h.stock h.parts authority sound g.B.RuntimeName.opening g.B.RuntimeName.before g.B.RuntimeName.processors g.B.RuntimeName.generation opened answer step each steps (request_generation core client r.number r.to r.entry r.words.now),
      tied_again h.history next h.stock h.stock h.parts h.halves c.self.invariant.1 h.parts c.facts.ensures.sound
          (quiet_step core plenty step (record { answer = answer; core = core_in next; blanks = plenty }) tt steps) refl
          (other_authority h.history next h.stock h.parts authority sound g.B.RuntimeName.opening g.B.RuntimeName.before g.B.RuntimeName.processors g.B.RuntimeName.generation opened answer step each steps),
    )

pub returns-clause-goes : goal.returns-clause-goes
returns-clause-goes g c =
    let h = c.self.inside in
    let r = c.args.request.now in
    let step = Request c.args.pass.now.pass.client r.number r.to r.entry r.words.now in
    let after = store_with c.request-told.new.history h.stock in
    subst (λ (v : SequencerShown _). Goes (store_of v) step (told_or_refused c.request-told.result) after) c.self.view_is (c.request-told.ensures.steps (blanks_in h.stock))

pub returns-clause-holds : goal.returns-clause-holds
returns-clause-holds g c =
    let h = c.self.inside in
    let r = c.args.request.now in
    let client = c.args.pass.now.pass.client in
    subst (λ (v : SequencerShown _). IfOk c.request-told.result (λ told. Holds v.core.opening (take v.core.durable v.core.history) client r.number told)) c.self.view_is
    (told_holds (core_in h.history) (core_in c.request-told.new.history) plenty (Request client r.number r.to r.entry r.words.now) client r.number c.request-told.result (refl, refl) (c.request-told.ensures.steps plenty))
