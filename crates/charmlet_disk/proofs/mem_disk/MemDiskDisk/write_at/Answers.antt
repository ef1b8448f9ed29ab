use Rattle.charmlet_disk.proofs.Records.{elapses}
use Rattle.charmlet_disk.proofs.mem_disk.MemDiskDisk.write_at.Goals as goal

pub returns-clause-time : goal.returns-clause-time
returns-clause-time c =
    elapses c.args.self.now c.try_write-done.new.self c.try_write-done.result c.try_write-done.ensures.recorded c.try_write-done.ensures.refused
