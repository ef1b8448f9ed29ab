use Rattle.charmlet_disk.proofs.Moments.{started}
use Rattle.charmlet_halves.specs.Halves.{disk_of}
use Rattle.charmlet_history.specs.Kept.{core_in}
use Rattle.charmlet_persist.specs.Writes.Rest.{HasOldOrSealed, keeps_durable}
use Rattle.charmlet_persist.proofs.WritesLemmas.Turning.{rests_sealed}
use Rattle.charmlet_sequencer.proofs.checkpoint.write_running.Goals as goal

pub returns-in_err-bytes-clause-any_moment : goal.returns-in_err-bytes-clause-any_moment
returns-in_err-bytes-clause-any_moment g c = λ honest.
    let laws = g.met.D.Disk g.world.𝓛 g.world.𝓜 g.world.𝓡 ((λ s x. x), (λ x. x), (λ x. x), (λ x. x)) in
    let disk = disk_of c.args.halves.now in
    started g.D.Disk.moment g.D.Disk.since disk (keeps_durable (core_in c.args.history.now)) (λ o left. (c.requires.kept honest).now o (laws.only_now disk o honest left))

pub returns-in_err-bytes-clause-stored : goal.returns-in_err-bytes-clause-stored
returns-in_err-bytes-clause-stored g c = λ honest going.
    let laws = g.met.D.Disk g.world.𝓛 g.world.𝓜 g.world.𝓡 ((λ s x. x), (λ x. x), (λ x. x), (λ x. x)) in
    let core = core_in c.args.history.now in
    let halves = c.args.halves.now in
    let disk = disk_of halves in
    let sound = c.facts.ensures.sound in
    started g.D.Disk.moment g.D.Disk.since disk (HasOldOrSealed core)
    (λ o left. rests_sealed {G = g.D.Disk} core sound.legal sound.durable halves honest (c.requires.agrees going).going ((c.requires.kept honest).rest going) o (laws.only_now disk o honest left))
