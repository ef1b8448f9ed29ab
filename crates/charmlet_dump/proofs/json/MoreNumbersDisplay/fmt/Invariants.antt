use Rattle.std.proofs.Common.{take}
use Rattle.std.specs.Fmt.{HasWritten, IsPlainFormatter}
use Rattle.charmlet_dump.specs.Json.{more_numbers}
use Rattle.charmlet_dump.proofs.json.MoreNumbersDisplay.fmt.Given as goal

-- the numbers so far are written
abbrev pub invariant-loop-number : goal.invariant-loop-number
invariant-loop-number g l =
    IsPlainFormatter l.initial.f → HasWritten g.W.Write.write_str_gives l.initial.f (more_numbers (take l.number-index l.number-items)) l.f
