use Rattle.std.proofs.Common.{◌≡◌, ◌≢◌, false, subst}
use Rattle.std.specs.Prelude.{IfErr, OnOk}
use Rattle.charmlet_model.specs.declared.refusal.Refusal.TheVariants as refusals
use Rattle.charmlet_disk.specs.Disk.{LeavesOnly}
use Rattle.charmlet_disk.proofs.Moments.{weaker}
use Rattle.charmlet_halves.specs.Halves.{disk_of}
use Rattle.charmlet_history.specs.Kept.{core_in}
use Rattle.charmlet_persist.specs.Writes.Rest.{HasOldOrSealed, HasSealed, keeps_durable}
use Rattle.charmlet_recovery.proofs.Outcomes.{kept_is_lawful}
use Rattle.charmlet_sequencer.specs.Checkpointing.{IsSealedCore}
use Rattle.charmlet_sequencer.specs.Sequencer.{SequencerShown, is_lawful}
use Rattle.charmlet_sequencer.specs.Together.{shown_by}
use Rattle.charmlet_sequencer.proofs.Authorities.{authority_still}
use Rattle.charmlet_sequencer.proofs.Seals.{refused_core, sealed_leaves, sealed_opened, sealed_same, taken_current}
use Rattle.charmlet_sequencer.proofs.sequencer.Sequencer.seal_running.Goals as goal

pub invariant_of-self : goal.invariant_of-self
invariant_of-self g c =
    let h = c.self.inside in
    let done = c.write_running-sealed in
    let core = core_in h.history in
    let next = done.new.history in
    let back = done.ensures.disk.honest.1 in
    let refused = refused_core {G = g.D.Disk} h.history next h.halves done.new.halves done.result done.ensures.refused in (
      sealed_opened core (core_in next) done.result done.ensures.sealed done.ensures.failed refused g.B.RuntimeName.opening g.B.RuntimeName.before g.B.RuntimeName.processors g.B.RuntimeName.generation c.self.invariant.0,
      record {
        authority = authority_still h.history next h.stock h.parts c.self.invariant.1.authority c.facts-2.ensures.sound (sealed_leaves core (core_in next) done.result done.ensures.sealed done.ensures.failed refused);
        dropping = c.self.invariant.1.dropping;
        agrees = done.ensures.agrees;
        keeps = λ honest. done.ensures.kept (back honest);
        current = λ honest. taken_current {G = g.D.Disk} h.history next h.halves done.new.halves c.self.invariant.1.current done.result done.ensures.current done.ensures.refused done.ensures.device done.ensures.agrees (back honest);
      },
    )

pub returns-clause-any_moment : goal.returns-clause-any_moment
returns-clause-any_moment g c =
    let h = c.self.inside in
    let core = core_in h.history in
    let new = disk_of c.write_running-sealed.new.halves in
    subst (λ (v : SequencerShown _). g.D.Disk.honest v.disk → LeavesOnly g.D.Disk.moment g.D.Disk.since v.disk new (is_lawful v.core)) c.self.view_is
    (λ honest. weaker g.D.Disk.moment g.D.Disk.since (disk_of h.halves) new (keeps_durable core) (is_lawful core) (c.write_running-sealed.ensures.any_moment honest)
    (λ o kept. kept_is_lawful core.opening core.before core.history core.durable o kept))

pub returns-clause-stored : goal.returns-clause-stored
returns-clause-stored g c =
    let new = disk_of c.write_running-sealed.new.halves in
    subst (λ (v : SequencerShown _). g.D.Disk.honest v.disk → v.core.halted ≡ false → LeavesOnly g.D.Disk.moment g.D.Disk.since v.disk new (HasOldOrSealed v.core)) c.self.view_is c.write_running-sealed.ensures.stored

pub returns-clause-refused : goal.returns-clause-refused
returns-clause-refused g c =
    let h = c.self.inside in
    let done = c.write_running-sealed in
    subst (λ (v : SequencerShown _). IfErr done.result (λ refusal. refusal ≢ refusals.Device → shown_by done.new.history h.stock done.new.halves ≡ v)) c.self.view_is
    (sealed_same h.history done.new.history h.stock h.halves done.new.halves done.result done.ensures.refused)

pub returns-clause-sealed : goal.returns-clause-sealed
returns-clause-sealed g c =
    let done = c.write_running-sealed in
    subst (λ (v : SequencerShown _). OnOk done.result (IsSealedCore v.core (core_in done.new.history))) c.self.view_is done.ensures.sealed

pub returns-clause-image : goal.returns-clause-image
returns-clause-image g c =
    let done = c.write_running-sealed in
    subst (λ (v : SequencerShown _). g.D.Disk.honest v.disk → OnOk done.result (HasSealed g.D.Disk (core_in done.new.history) (disk_of done.new.halves))) c.self.view_is done.ensures.image
