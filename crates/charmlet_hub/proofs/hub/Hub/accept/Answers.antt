use Rattle.std.proofs.Common.{sym, ◌≡◌, subst}
use Rattle.std.specs.Prelude.{OnErr, is_some}
use Rattle.charmlet_model.specs.Core.{Request}
use Rattle.charmlet_model.specs.Run.{Goes}
use Rattle.charmlet_history.specs.Kept.{told_or_refused}
use Rattle.charmlet_sequencer.specs.Sequencer.{store_of}
use Rattle.charmlet_hub.specs.Hub.{HubShown, shown_by, store_in, while_busy}
use Rattle.charmlet_hub.proofs.Hubs.{hub_aside, refused_same}
use Rattle.charmlet_hub.proofs.Steps.{step_aside}
use Rattle.charmlet_hub.proofs.Busy.{busy_goes}
use Rattle.charmlet_hub.proofs.Checkpoints.{step_keeps}
use Rattle.charmlet_hub.proofs.hub.Hub.accept.Goals as goal

pub invariant_of-self : goal.invariant_of-self
invariant_of-self g c =
    let h = c.self.inside in
    let r = c.args.request.now in
    let done = c.request_by in
    let step = Request c.args.pass.now.pass.client r.number r.to r.entry r.words.now in (
      hub_aside h.sequencer done.new.self (is_some h.running) (is_some h.running) h.seats h.passes c.self.invariant.0 done.new.passes
          (step_aside h.sequencer.core (store_of h.sequencer).blanks step (record { answer = told_or_refused done.result; core = done.new.self.core; blanks = (store_of done.new.self).blanks }) tt done.ensures.goes)
          done.ensures.current,
      c.self.invariant.1,
      λ named. subst g.D.Disk.honest (sym c.request_by.ensures.disk) (c.self.invariant.2 named),
      step_keeps h.sequencer.core (store_of h.sequencer).blanks step (record { answer = told_or_refused done.result; core = done.new.self.core; blanks = (store_of done.new.self).blanks }) h.running h.tokens tt done.ensures.goes c.self.invariant.3,
    )

pub returns-clause-err : goal.returns-clause-err
returns-clause-err g c =
    let h = c.self.inside in
    let done = c.request_by in
    subst (λ (v : HubShown _). OnErr done.result (shown_by done.new.self (is_some h.running) h.seats done.new.passes ≡ v)) c.self.view_is
    (refused_same h.sequencer done.new.self (is_some h.running) h.seats h.passes done.new.passes c.args.pass.now done.new.pass done.result done.ensures.err done.ensures.answered.err done.ensures.kept)

pub returns-clause-goes : goal.returns-clause-goes
returns-clause-goes g c =
    let h = c.self.inside in
    let r = c.args.request.now in
    let done = c.request_by in
    subst (λ (v : HubShown _). Goes (store_in v) (Request c.args.pass.now.pass.client r.number r.to r.entry r.words.now) (told_or_refused done.result) (while_busy (is_some h.running) (store_of done.new.self))) c.self.view_is
    (busy_goes (is_some h.running) (store_of h.sequencer) (store_of done.new.self) (Request c.args.pass.now.pass.client r.number r.to r.entry r.words.now) (told_or_refused done.result) tt done.ensures.goes)
