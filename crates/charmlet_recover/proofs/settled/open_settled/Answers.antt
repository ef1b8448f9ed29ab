use Rattle.std.proofs.Common.{ap, sym, subst, ◌∙◌}
use Rattle.charmlet_disk.specs.File.{File, MayBeLeft, MayLeave, clean}
use Rattle.charmlet_disk.proofs.Moments.{after_that}
use Rattle.charmlet_halves.proofs.Standing.{is_left}
use Rattle.charmlet_recover.proofs.settled.open_settled.Goals as goal

pub returns-in-Ok-clause-leaves : goal.returns-in-Ok-clause-leaves
returns-in-Ok-clause-leaves g c = λ honest.
    let laws = g.met.D.Disk g.world.𝓛 g.world.𝓜 g.world.𝓡 ((λ s x. x), (λ x. x), (λ x. x), (λ x. x)) in
    let old = c.args.disk in
    let mid = c.sync_both.new.disk in
    let files = g.D.Disk.file old in
    let synced = c.sync_both.ensures.unwritten honest in
    let settled = c.in-Ok.ensures.settled honest in
    let read = c.open.ensures.only_read (c.sync_both.ensures.disk.honest.0 honest) in
    record {
      settled = λ after half. read.same half ∙ settled half ∙ ap (λ (f : File). clean f.now) (sym (read.same half));
      unwritten = record {
        same = λ half. ap (λ (f : File). f.now) (read.same half) ∙ synced.same half;
        any_moment = after_that g.D.Disk.moment g.D.Disk.since old mid _ (MayLeave files) (MayLeave (g.D.Disk.file mid)) (MayLeave files) synced.any_moment read.any_moment (λ o left. left)
            (λ o left half. subst (MayBeLeft (files half)) (sym (is_left (g.D.Disk.file mid) settled o left half ∙ synced.same half)) (laws.reads_are_left old honest half));
      };
    }
