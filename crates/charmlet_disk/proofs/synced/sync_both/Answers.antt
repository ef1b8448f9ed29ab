use Rattle.std.proofs.Common.{rules}
use Rattle.charmlet_model.specs.declared.half.Half.TheVariants.{Zero, One}
use Rattle.charmlet_disk.specs.File.{MayLeave}
use Rattle.charmlet_disk.proofs.Moments.{started, goes_on}
use Rattle.charmlet_disk.proofs.Tears.{sync_narrows}
use Rattle.charmlet_disk.proofs.synced.sync_both.Goals as goal

pub returns-in_err-sync-clause-unwritten : goal.returns-in_err-sync-clause-unwritten
returns-in_err-sync-clause-unwritten g c = λ honest.
    let laws = g.met.D.Disk g.world.𝓛 g.world.𝓜 g.world.𝓡 ((λ s x. x), (λ x. x), (λ x. x), (λ x. x)) in
    let old = c.args.disk.now in
    let P = MayLeave (g.D.Disk.file old) in
    let s = c.sync.ensures in
    let at_start = started g.D.Disk.moment g.D.Disk.since old P (λ o left. laws.only_now old o honest left) in
    let any_moment = goes_on g.D.Disk.moment g.D.Disk.since old old c.sync.new.self P _ at_start (s.time honest)
    (sync_narrows c.sync.result (g.D.Disk.file old) (g.D.Disk.file c.sync.new.self) Zero (laws.reads_are_left old honest Zero) (s.durable honest) (s.failed honest) (s.other honest)) in
    record { same = search rules; any_moment = any_moment }

pub returns-clause-unwritten : goal.returns-clause-unwritten
returns-clause-unwritten g c = λ honest.
    let laws = g.met.D.Disk g.world.𝓛 g.world.𝓜 g.world.𝓡 ((λ s x. x), (λ x. x), (λ x. x), (λ x. x)) in
    let old = c.args.disk.now in
    let mid = c.sync.new.self in
    let P = MayLeave (g.D.Disk.file old) in
    let s = c.sync.ensures in
    let still = s.honest.0 honest in
    let second = c.sync-2.ensures in
    let zero_synced = sync_narrows c.sync.result (g.D.Disk.file old) (g.D.Disk.file mid) Zero (laws.reads_are_left old honest Zero) (s.durable honest) (s.failed honest) (s.other honest) in
    let at_start = started g.D.Disk.moment g.D.Disk.since old P (λ o left. laws.only_now old o honest left) in
    let zero = goes_on g.D.Disk.moment g.D.Disk.since old old mid P _ at_start (s.time honest) zero_synced in
    let any_moment = goes_on g.D.Disk.moment g.D.Disk.since old mid c.sync-2.new.self P _ zero (second.time still)
    (λ o left. zero_synced o (sync_narrows c.sync-2.result (g.D.Disk.file mid) (g.D.Disk.file c.sync-2.new.self) One (laws.reads_are_left mid still One) (second.durable still) (second.failed still) (second.other still) o left)) in
    record { same = search rules; any_moment = any_moment }
