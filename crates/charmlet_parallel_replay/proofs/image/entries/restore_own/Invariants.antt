use Rattle.std.proofs.Common.{take}
use Rattle.charmlet_log_scan.specs.Partition.Parts.{is_of_worker}
use Rattle.charmlet_replayers.specs.Dispatch.Sharing.{worker_of}
use Rattle.charmlet_parallel_replay.proofs.ImageLemmas.Restoring.{OwnBrought}
use Rattle.charmlet_parallel_replay.proofs.image.entries.restore_own.Given as goal

-- its own of the entries so far came back
abbrev pub invariant-loop-entry : goal.invariant-loop-entry
invariant-loop-entry g l = OwnBrought (is_of_worker (worker_of l.fn.restored.processors l.workers) l.worker) l.manifest l.fn.stock l.fn.restored (take l.entry-index l.entries) l.stock l.restored
