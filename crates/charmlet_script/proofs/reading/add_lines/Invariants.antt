use Rattle.std.proofs.Common.{◌≡◌, ◌+◌, ◌≤◌, drop, length, map}
use Rattle.charmlet_script.specs.Script.{no_lines}
use Rattle.charmlet_script.specs.Reading.{AreFor, with_lines}
use Rattle.charmlet_script.proofs.reading.add_lines.Given as goal

-- the script so far with the lines that are left is the script with all lines
abbrev pub invariant-loop-index : goal.invariant-loop-index
invariant-loop-index l = record {
  reads : with_lines l.purpose l.script (l.index + 1) (map (λ line. line.now) (drop l.index l.lines)) ≡ with_lines l.purpose no_lines 1 (map (λ line. line.now) l.lines);
  lines : AreFor l.purpose.runner l.script.lines;
  few : length l.script.lines ≤ l.index;
}
