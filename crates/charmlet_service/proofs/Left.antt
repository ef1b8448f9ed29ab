-- What is left of a runtime, by the disk whose honesty is known.
use Rattle.charmlet_disk.specs.declared.disk.Disk as disks
use Rattle.charmlet_workers.specs.Runtime.{RuntimeShown}
use Rattle.charmlet_service.specs.Serving.{IsRunOver}

-- where the disk that a runtime had was honest if an earlier one was, the same is left by that one
pub left_of : {D : Type 0} (G : disks.Ghosts D) {was had : Type 0} {shown : RuntimeShown} {last : D} → (was → had) → IsRunOver G had shown last → IsRunOver G was shown last
left_of G so over = record { left = over.left; honest = λ honest. over.honest (so honest) }
