use Rattle.std.proofs.Common.{◌≡◌, drop}
use Rattle.std.specs.Prelude.{Some}
use Rattle.charmlet_dump.specs.Arguments.{number_after}
use Rattle.charmlet_dump.proofs.arguments.number_of.Given as goal

-- the digits left spell what all of them do
abbrev pub invariant-loop-digit : goal.invariant-loop-digit
invariant-loop-digit l = number_after (Some 0) l.digits ≡ number_after (Some l.number) (drop l.digit-index l.digits)
