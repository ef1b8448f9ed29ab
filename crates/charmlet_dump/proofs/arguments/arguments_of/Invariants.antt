use Rattle.std.proofs.Common.{◌≡◌, drop}
use Rattle.std.specs.Prelude.{map}
use Rattle.charmlet_dump.specs.Arguments.{asked_all, asked_in, nothing_asked}
use Rattle.charmlet_dump.proofs.arguments.arguments_of.Given as goal

-- the words left ask for what all of them do
abbrev pub invariant-loop-place : goal.invariant-loop-place
invariant-loop-place g l =
    asked_all nothing_asked (drop 1 (map g.S.AsStr.text l.words)) ≡ asked_all (asked_in l.asked) (drop l.place (map g.S.AsStr.text l.words))
