use Rattle.std.proofs.Common.{List, sym, subst}
use Rattle.std.specs.Prelude.{Option, is_some}
use Rattle.charmlet_persist.specs.FuzzyCheckpoint.Checkpoint.{Run}
use Rattle.charmlet_hub.specs.Checkpoint.{IsCheckpointed, Token}
use Rattle.charmlet_hub.proofs.Hubs.{hub_sealed, seal_events}
use Rattle.charmlet_hub.proofs.Checkpoints.{seal_keeps}
use Rattle.charmlet_hub.proofs.hub.Hub.seal.Goals as goal

pub invariant_of-self : goal.invariant_of-self
invariant_of-self g c =
    let h = c.self.inside in
    let done = c.seal_running-sealed in
    let new = done.new.sequencer in
    let sound = c.facts.ensures.sound in
    let same = seal_events h.sequencer new sound done.result done.ensures.sealed done.ensures.failed done.ensures.refused in (
      hub_sealed h.sequencer new (is_some h.running) (is_some done.new.running) h.seats h.passes c.self.invariant.0 same sound c.facts-2.ensures.sound,
      c.self.invariant.1,
      λ named. done.ensures.disk.honest.0 (c.self.invariant.2 named),
      subst (λ (x : Option Run × List (Option Token)). IsCheckpointed new.core x.0 x.1) (λ i. (sym done.ensures.running i, sym c.agree.ensures.authority i))
          (seal_keeps h.sequencer.core new.core h.running h.tokens same.opening same.before same.history same.places same.assigned c.self.invariant.3),
    )

pub invariant_of-self-in-Err : goal.invariant_of-self-in-Err
invariant_of-self-in-Err g c =
    let h = c.self.inside in
    let done = c.seal_running-sealed in
    let new = done.new.sequencer in
    let sound = c.facts.ensures.sound in
    let same = seal_events h.sequencer new sound done.result done.ensures.sealed done.ensures.failed done.ensures.refused in (
      hub_sealed h.sequencer new (is_some h.running) (is_some done.new.running) h.seats h.passes c.self.invariant.0 same sound c.facts-2.ensures.sound,
      c.self.invariant.1,
      λ named. done.ensures.disk.honest.0 (c.self.invariant.2 named),
      subst (λ (x : Option Run × List (Option Token)). IsCheckpointed new.core x.0 x.1) (λ i. (sym done.ensures.running i, sym c.agree.ensures.authority i))
          (seal_keeps h.sequencer.core new.core h.running h.tokens same.opening same.before same.history same.places same.assigned c.self.invariant.3),
    )
