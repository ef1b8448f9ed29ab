use Rattle.std.proofs.Common.{rules}
use Rattle.charmlet_disk.proofs.AnyDiskLemmas.Timed.{in_failing, in_memory}
use Rattle.charmlet_disk.proofs.any_disk.AnyDiskDisk.sync.Goals as goal

pub returns-in-Memory-clause-time : goal.returns-in-Memory-clause-time
returns-in-Memory-clause-time c = search (rules, in_memory)

pub returns-in-Failing-clause-time : goal.returns-in-Failing-clause-time
returns-in-Failing-clause-time c = search (rules, in_failing)
