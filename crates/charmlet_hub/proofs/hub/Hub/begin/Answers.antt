use Rattle.std.proofs.Common.{◌≡◌, ◌≤◌, ◌∙◌, false, true, length, ap, sym, subst, arith}
use Rattle.std.specs.Prelude.{Option, is_some}
use Rattle.charmlet_model.specs.Core.{Core}
use Rattle.charmlet_leases.specs.Passes.Passes.{event_count}
use Rattle.charmlet_persist.specs.FuzzyCheckpoint.Checkpoint.{IsRunning, Run}
use Rattle.charmlet_hub.specs.Checkpoint.{IsCheckpoint, IsCheckpointed}
use Rattle.charmlet_hub.proofs.Hubs.{rebusied}
use Rattle.charmlet_hub.proofs.Checkpoints.{begins, none_is}
use Rattle.charmlet_hub.proofs.Steps.{few_assigned}
use Rattle.charmlet_hub.proofs.hub.Hub.begin.Goals as goal

pub invariant_of-self : goal.invariant_of-self
invariant_of-self g c =
    let h = c.self.inside in
    let core = h.sequencer.core in
    let run = c.in-Ok.running in
    let none : is_some h.running ≡ false = sym c.is_some.ensures ∙ c.if-is_some.false in
    let running : IsRunning core run = subst (λ (k : Core). IsRunning k run) c.history-2.ensures c.in-Ok.ensures.running in
    let made : run.room ≡ c.from-most.result = ap (λ (r : Run). r.room) c.in-Ok.ensures.begun in
    let most = c.from-most.ensures in
    let named = c.self.invariant.1 in
    let processors = c.facts.ensures.of.processors_are in
    let begun = c.event_count-begun.result in
    let when : run.begun ≡ begun = ap (λ (r : Run). r.begun) c.in-Ok.ensures.begun ∙ ap event_count (c.history-2.ensures ∙ sym c.history-3.ensures) ∙ sym c.event_count-begun.ensures.count in
    let few = few_assigned core c.facts.ensures.sound in
    let room : length core.assigned ≤ run.room = omega arith in (
      rebusied h.sequencer (is_some h.running) true h.seats h.passes c.self.invariant.0,
      c.self.invariant.1,
      c.self.invariant.2,
      subst (IsCheckpoint core run) (sym c.issue-fragment.ensures.authority)
          (begins core run h.tokens begun running when room (subst (λ (o : Option Run). IsCheckpointed core o h.tokens) (none_is h.running none) c.self.invariant.3)),
    )
