use Rattle.std.proofs.Common.{◌≡◌, ◌≢◌, refl, ap, subst}
use Rattle.std.specs.Prelude.{IfErr, length}
use Rattle.charmlet_model.specs.declared.refusal.Refusal.TheVariants as refusals
use Rattle.charmlet_model.specs.Core.{Flush}
use Rattle.charmlet_model.specs.Run.{Goes}
use Rattle.charmlet_disk.specs.Disk.{LeavesOnly}
use Rattle.charmlet_disk.proofs.Moments.{weaker}
use Rattle.charmlet_halves.specs.Halves.{disk_of}
use Rattle.charmlet_history.specs.Kept.{core_in, counts_or_refused, plenty}
use Rattle.charmlet_persist.specs.Writes.Rest.{keeps_durable}
use Rattle.charmlet_recovery.proofs.Outcomes.{kept_is_lawful}
use Rattle.charmlet_stock.specs.Stock.{blanks_in}
use Rattle.charmlet_delivery.specs.Workplace.{store_with}
use Rattle.charmlet_delivery.proofs.Leaving.{flush_leaves}
use Rattle.charmlet_sequencer.specs.Sequencer.{SequencerShown, is_lawful, store_of}
use Rattle.charmlet_sequencer.specs.Together.{shown_by}
use Rattle.charmlet_sequencer.proofs.Calls.{flushed_same, other_authority, other_opened}
use Rattle.charmlet_sequencer.proofs.sequencer.Sequencer.flush.Goals as goal

pub invariant_of-self : goal.invariant_of-self
invariant_of-self g c =
    let h = c.self.inside in
    let done = c.flush-flushed in
    let next = done.new.history in
    let answer = counts_or_refused done.result in
    let each = flush_leaves (core_in h.history) in
    let authority = c.self.invariant.1.authority in
    let opened = c.self.invariant.0 in
    let sound = c.facts-2.ensures.sound in
    let back = done.ensures.disk.honest.1 in (
      other_opened h.history next h.stock h.parts authority sound g.B.RuntimeName.opening g.B.RuntimeName.before g.B.RuntimeName.processors g.B.RuntimeName.generation opened answer Flush each (done.ensures.steps plenty) refl,
      record {
        authority = other_authority h.history next h.stock h.parts authority sound g.B.RuntimeName.opening g.B.RuntimeName.before g.B.RuntimeName.processors g.B.RuntimeName.generation opened answer Flush each (done.ensures.steps plenty);
        dropping = c.self.invariant.1.dropping;
        agrees = done.ensures.agrees;
        keeps = λ honest. done.ensures.kept (back honest);
        current = λ honest going. done.ensures.current (back honest) going;
      },
    )

pub returns-clause-goes : goal.returns-clause-goes
returns-clause-goes g c =
    let h = c.self.inside in
    let after = store_with c.flush-flushed.new.history h.stock in
    subst (λ (v : SequencerShown _). Goes (store_of v) Flush (counts_or_refused c.flush-flushed.result) after) c.self.view_is (c.flush-flushed.ensures.steps (blanks_in h.stock))

pub returns-clause-any_moment : goal.returns-clause-any_moment
returns-clause-any_moment g c =
    let h = c.self.inside in
    let core = core_in h.history in
    let new = disk_of c.flush-flushed.new.halves in
    subst (λ (v : SequencerShown _). g.D.Disk.honest v.disk → LeavesOnly g.D.Disk.moment g.D.Disk.since v.disk new (is_lawful v.core)) c.self.view_is
    (λ honest. weaker g.D.Disk.moment g.D.Disk.since (disk_of h.halves) new (keeps_durable core) (is_lawful core) (c.flush-flushed.ensures.any_moment honest)
    (λ o kept. kept_is_lawful core.opening core.before core.history core.durable o kept))

pub returns-clause-err : goal.returns-clause-err
returns-clause-err g c =
    let h = c.self.inside in
    let done = c.flush-flushed in
    subst (λ (v : SequencerShown _). IfErr done.result (λ refusal. refusal ≢ refusals.Device → shown_by done.new.history h.stock done.new.halves ≡ v)) c.self.view_is
    (flushed_same h.history done.new.history h.stock h.halves done.new.halves done.result (done.ensures.steps plenty) done.ensures.refused)

pub returns-clause-idle : goal.returns-clause-idle
returns-clause-idle g c =
    let h = c.self.inside in
    let done = c.flush-flushed in
    subst (λ (v : SequencerShown _). v.core.durable ≡ length v.core.history → disk_of done.new.halves ≡ v.disk) c.self.view_is
    (λ all. ap disk_of (done.ensures.idle all))
