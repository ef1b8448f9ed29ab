use Rattle.charmlet_disk.proofs.Records.{elapses}
use Rattle.charmlet_disk.proofs.mem_disk.MemDiskDisk.sync.Goals as goal

pub returns-clause-time : goal.returns-clause-time
returns-clause-time c =
    elapses c.args.self.now c.try_sync-done.new.self c.try_sync-done.result c.try_sync-done.ensures.recorded c.try_sync-done.ensures.refused
