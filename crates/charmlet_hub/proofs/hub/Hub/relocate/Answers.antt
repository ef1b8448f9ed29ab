use Rattle.std.proofs.Common.{◌≡◌, ◌∙◌, false, sym, subst}
use Rattle.std.specs.Prelude.{is_some}
use Rattle.charmlet_model.specs.Core.{Move}
use Rattle.charmlet_model.specs.Run.{Goes}
use Rattle.charmlet_delivery.specs.Workplace.{done_or_refused}
use Rattle.charmlet_sequencer.specs.Relocating.{KeepsObjectsOfBoth}
use Rattle.charmlet_sequencer.specs.Sequencer.{store_of}
use Rattle.charmlet_hub.specs.Hub.{HubShown, sequencer_in, store_in, while_busy}
use Rattle.charmlet_hub.proofs.Hubs.{hub_stepped}
use Rattle.charmlet_hub.proofs.Busy.{idle_goes}
use Rattle.charmlet_hub.proofs.Checkpoints.{none_keeps}
use Rattle.charmlet_hub.proofs.hub.Hub.relocate.Goals as goal

pub invariant_of-self : goal.invariant_of-self
invariant_of-self g c =
    let h = c.self.inside in
    let none : is_some h.running ≡ false = sym c.is_some.ensures ∙ c.if-is_some.false in
    let new = c.relocate-moved.new.self in (
      hub_stepped h.sequencer new (is_some h.running) (is_some h.running) h.seats h.passes c.self.invariant.0 (store_of h.sequencer).blanks (store_of new).blanks (Move c.args.elem c.args.to.now.number) (done_or_refused c.relocate-moved.result) c.facts.ensures.sound tt tt tt c.relocate-moved.ensures.goes,
      c.self.invariant.1,
      λ named. subst g.D.Disk.honest (sym c.relocate-moved.ensures.disk) (c.self.invariant.2 named),
      none_keeps h.sequencer.core new.core h.running h.tokens none c.self.invariant.3,
    )

pub returns-clause-goes : goal.returns-clause-goes
returns-clause-goes g c =
    let h = c.self.inside in
    let none : is_some h.running ≡ false = sym c.is_some.ensures ∙ c.if-is_some.false in
    let new = c.relocate-moved.new.self in
    let answer = done_or_refused c.relocate-moved.result in
    subst (λ (v : HubShown _). Goes (store_in v) (Move c.args.elem c.args.to.now.number) answer (while_busy (is_some h.running) (store_of new))) c.self.view_is
    (idle_goes (is_some h.running) (store_of h.sequencer) (store_of new) (Move c.args.elem c.args.to.now.number) answer none c.facts.ensures.idle c.facts-2.ensures.idle c.relocate-moved.ensures.goes)

pub returns-clause-objects : goal.returns-clause-objects
returns-clause-objects g c =
    subst (λ (v : HubShown _). KeepsObjectsOfBoth (sequencer_in v) c.relocate-moved.new.self c.args.from.now c.args.to.now c.relocate-moved.new.from c.relocate-moved.new.to) c.self.view_is c.relocate-moved.ensures.objects
