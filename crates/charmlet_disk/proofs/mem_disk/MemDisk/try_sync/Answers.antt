use Rattle.charmlet_model.specs.declared.half.Half.TheVariants.{Zero, One}
use Rattle.charmlet_disk.specs.MemDiskLaws.{files_are_sound}
use Rattle.charmlet_disk.proofs.mem_disk.MemDisk.try_sync.Goals as goal

pub sync_to-requires : goal.sync_to-requires
sync_to-requires c = files_are_sound c.args.self.now Zero

pub sync_to-requires-in-One : goal.sync_to-requires-in-One
sync_to-requires-in-One c = files_are_sound c.args.self.now One
