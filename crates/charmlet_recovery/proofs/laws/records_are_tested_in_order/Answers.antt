use Rattle.charmlet_recovery.proofs.Rounds.{catch-up-on, pending-on, events-on, rounds-end}
use Rattle.charmlet_recovery.proofs.laws.records_are_tested_in_order.Goals as goal

pub returns : goal.returns
returns c = record { catch_up = catch-up-on; pending = pending-on; events = events-on; rounds = rounds-end }
