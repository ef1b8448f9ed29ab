use Rattle.std.proofs.Common.{length}
use Rattle.charmlet_disk.specs.File.{CrashBytes, MayLeave}
use Rattle.charmlet_disk.specs.Torn.{TearsHalf}
use Rattle.charmlet_disk.proofs.Moments.{started, goes_on}
use Rattle.charmlet_disk.proofs.Tears.{tears, not_torn, sync_narrows}
use Rattle.charmlet_disk.proofs.synced.write_and_sync.Goals as goal

pub returns-in_err-write_at-clause-any_moment : goal.returns-in_err-write_at-clause-any_moment
returns-in_err-write_at-clause-any_moment g c = λ honest.
    let laws = g.met.D.Disk g.world.𝓛 g.world.𝓜 g.world.𝓡 ((λ s x. x), (λ x. x), (λ x. x), (λ x. x)) in
    let old = c.args.disk.now in
    let settled = c.requires.settled honest in
    let P = TearsHalf (g.D.Disk.file old) c.args.half c.args.offset (length c.args.bytes.now) in
    let w = c.write_at.ensures in
    let at_start = started g.D.Disk.moment g.D.Disk.since old P (λ o left. not_torn _ _ _ _ settled o (laws.only_now old o honest left)) in
    goes_on g.D.Disk.moment g.D.Disk.since old old c.write_at.new.self P _ at_start (w.time honest)
    (λ o left. tears _ _ _ _ _ settled (c.requires.inside honest) (w.torn honest) (w.other honest) o left)

pub returns-clause-any_moment : goal.returns-clause-any_moment
returns-clause-any_moment g c = λ honest.
    let laws = g.met.D.Disk g.world.𝓛 g.world.𝓜 g.world.𝓡 ((λ s x. x), (λ x. x), (λ x. x), (λ x. x)) in
    let old = c.args.disk.now in
    let settled = c.requires.settled honest in
    let P = TearsHalf (g.D.Disk.file old) c.args.half c.args.offset (length c.args.bytes.now) in
    let w = c.write_at.ensures in
    let s = c.sync.ensures in
    let still = w.honest.0 honest in
    let mid = c.write_at.new.self in
    let written = λ (o : CrashBytes) (left : MayLeave (g.D.Disk.file mid) o). tears _ _ _ _ _ settled (c.requires.inside honest) (w.torn honest) (w.other honest) o left in
    let at_start = started g.D.Disk.moment g.D.Disk.since old P (λ o left. not_torn _ _ _ _ settled o (laws.only_now old o honest left)) in
    let later = goes_on g.D.Disk.moment g.D.Disk.since old old mid P _ at_start (w.time honest) written in
    goes_on g.D.Disk.moment g.D.Disk.since old mid c.sync.new.self P _ later (s.time still)
    (λ o left. written o (sync_narrows c.sync.result (g.D.Disk.file mid) (g.D.Disk.file c.sync.new.self) c.args.half (laws.reads_are_left mid still c.args.half) (s.durable still) (s.failed still) (s.other still) o left))
