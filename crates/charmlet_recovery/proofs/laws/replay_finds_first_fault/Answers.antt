use Rattle.charmlet_recovery.proofs.AnyLog.{replay-finds, replayed-own, tests-own}
use Rattle.charmlet_recovery.proofs.laws.replay_finds_first_fault.Goals as goal

pub returns : goal.returns
returns c = record { first = replay-finds; records = replayed-own; tests = tests-own }
