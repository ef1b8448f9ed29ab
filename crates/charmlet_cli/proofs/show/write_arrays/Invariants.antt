use Rattle.std.proofs.Common.{take}
use Rattle.std.specs.Io.KnownBytes.{Appends}
use Rattle.std.specs.List.{flat_map}
use Rattle.charmlet_cli.specs.FoundLines.{array_texts}
use Rattle.charmlet_script_output.specs.Writing.{in_lines}
use Rattle.charmlet_cli.proofs.show.write_arrays.Given as goal

-- the arrays so far are printed
abbrev pub invariant-loop-array : goal.invariant-loop-array
invariant-loop-array g l =
    Appends (g.W.Write.contents l.initial.writer) (g.W.Write.contents l.writer) (in_lines (flat_map array_texts (take l.array-index l.arrays)))
