use Rattle.std.proofs.Common.{◌≡◌, ◌*◌, ◌-◌, ◌^◌, ◌≤◌, take}
use Rattle.charmlet_script.specs.Script.{blanks_of}
use Rattle.charmlet_script.proofs.script.total_blanks.Given as goal

-- the sum so far, which each line raises by a 32-bit number
abbrev pub invariant-loop-line : goal.invariant-loop-line
invariant-loop-line l = record {
  sum : l.total ≡ blanks_of l.kind (take l.line-index l.lines);
  small : l.total ≤ l.line-index * (2 ^ 32 - 1);
}
