use Rattle.std.proofs.Common.{◌≡◌, ◌≤◌, false, List, subst}
use Rattle.std.specs.Prelude.{Option}
use Rattle.charmlet_disk.specs.File.{CrashBytes, MayLeave}
use Rattle.charmlet_recovery.proofs.Outcomes.{kept_is_lawful}
use Rattle.charmlet_history.specs.Kept.{core_in}
use Rattle.charmlet_persist.specs.Writes.Rest.{HasOldOrSealed}
use Rattle.charmlet_persist.proofs.WritesLemmas.Turning.{rests_sealed}
use Rattle.charmlet_sequencer.specs.Authority.{IsAuthorityIn}
use Rattle.charmlet_sequencer.specs.Part.{Part}
use Rattle.charmlet_sequencer.specs.Sequencer.{IsOf, SequencerShown, is_lawful}
use Rattle.charmlet_sequencer.proofs.Agreeing.{authority_in}
use Rattle.charmlet_sequencer.proofs.sequencer.Sequencer.facts.Goals as goal

pub returns-clause-of : goal.returns-clause-of
returns-clause-of g c = subst (λ (v : SequencerShown _). IsOf g.B.RuntimeName.opening g.B.RuntimeName.before g.B.RuntimeName.processors v.core) c.self.view_is c.self.invariant.0.of

pub returns-clause-later : goal.returns-clause-later
returns-clause-later g c = subst (λ (v : SequencerShown _). g.B.RuntimeName.generation ≤ v.core.generation) c.self.view_is c.self.invariant.0.later

pub returns-clause-authority : goal.returns-clause-authority
returns-clause-authority g c =
    let h = c.self.inside in
    subst (λ (v : SequencerShown _). (parts : List (Option Part)) × IsAuthorityIn v.core v.census parts) c.self.view_is
    (h.parts, authority_in h.history h.stock h.parts c.self.invariant.1.authority)

pub returns-clause-lawful : goal.returns-clause-lawful
returns-clause-lawful g c =
    let h = c.self.inside in
    let core = core_in h.history in
    subst (λ (v : SequencerShown _). g.D.Disk.honest v.disk → (outcome : CrashBytes) → MayLeave (g.D.Disk.file v.disk) outcome → is_lawful v.core outcome) c.self.view_is
    (λ honest outcome left. kept_is_lawful core.opening core.before core.history core.durable outcome ((c.self.invariant.1.keeps honest).now outcome left))

pub returns-clause-stored : goal.returns-clause-stored
returns-clause-stored g c =
    let h = c.self.inside in
    let core = core_in h.history in
    let sound = c.facts.ensures.sound in
    let tied = c.self.invariant.1 in
    subst (λ (v : SequencerShown _). g.D.Disk.honest v.disk → v.core.halted ≡ false → (outcome : CrashBytes) → MayLeave (g.D.Disk.file v.disk) outcome → HasOldOrSealed v.core outcome) c.self.view_is
    (λ honest going outcome left. rests_sealed {G = g.D.Disk} core sound.legal sound.durable h.halves honest (tied.agrees going).going ((tied.keeps honest).rest going) outcome left)
