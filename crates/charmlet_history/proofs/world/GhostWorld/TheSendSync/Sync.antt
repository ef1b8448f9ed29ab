-- It owns nothing, so threads may share it.
use denote.Param.Send.{IsSync, part_keyless}
use Rattle.charmlet_history.specs.contracts.world.GhostWorld.{the_row}
use Rattle.charmlet_history.proofs.world.GhostWorld.TheSendSync.Send.{send}

pub sync : IsSync the_row
sync = record { shared = λ d b o κ q. part_keyless the_row send q d b o }
