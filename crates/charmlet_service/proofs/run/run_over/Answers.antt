use Rattle.charmlet_service.proofs.run.run_over.Goals as goal

pub returns : goal.returns
returns g c = record { left = c.into_disk-disk.ensures.left; honest = c.into_disk-disk.ensures.honest }
