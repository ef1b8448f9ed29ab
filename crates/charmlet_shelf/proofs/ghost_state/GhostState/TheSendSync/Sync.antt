-- It owns nothing, so threads may share it.
use denote.Param.Send.{IsSync, part_keyless}
use Rattle.charmlet_shelf.specs.contracts.ghost_state.GhostState.{the_row}
use Rattle.charmlet_shelf.proofs.ghost_state.GhostState.TheSendSync.Send.{send}

pub sync : IsSync the_row
sync = record { shared = λ d b o κ q. part_keyless the_row send q d b o }
