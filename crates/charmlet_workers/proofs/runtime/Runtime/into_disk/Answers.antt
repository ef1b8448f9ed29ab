use Rattle.std.proofs.Common.{sym, subst}
use Rattle.charmlet_disk.specs.File.{CrashBytes, MayLeave}
use Rattle.charmlet_model.specs.Core.{Core}
use Rattle.charmlet_sequencer.specs.Sequencer.{is_lawful}
use Rattle.charmlet_workers.specs.Runtime.{RuntimeShown, WasTrue}
use Rattle.charmlet_workers.proofs.runtime.Runtime.into_disk.Goals as goal

pub returns-clause-left : goal.returns-clause-left
returns-clause-left g c =
    let hub = c.into_inner-hub.result in
    let facts = c.facts.ensures in
    let lawful = subst (λ disk. g.D.Disk.honest disk → (outcome : CrashBytes) → MayLeave (g.D.Disk.file disk) outcome → is_lawful hub.core outcome) (sym c.into_disk.ensures) facts.lawful in
    let property = λ (core : Core). g.D.Disk.honest c.into_disk.result → (outcome : CrashBytes) → MayLeave (g.D.Disk.file c.into_disk.result) outcome → is_lawful core outcome in
    subst (λ (v : RuntimeShown). WasTrue v property) c.self.view_is
    (record { core = hub.core; moment = record { of = record { of = facts.of; later = facts.later }; sound = facts.sound }; was = lawful })

pub returns-clause-honest : goal.returns-clause-honest
returns-clause-honest g c = λ named. subst g.D.Disk.honest (sym c.into_disk.ensures) (c.facts.ensures.honest named)
