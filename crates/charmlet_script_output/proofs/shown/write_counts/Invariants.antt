use Rattle.std.proofs.Common.{take}
use Rattle.std.specs.Io.KnownBytes.{Appends}
use Rattle.std.specs.List.{flat_map}
use Rattle.charmlet_script_output.specs.Writing.{in_lines}
use Rattle.charmlet_script_output.specs.Shown.{counted_texts}
use Rattle.charmlet_script_output.proofs.shown.write_counts.Given as goal

-- the kinds so far are printed
abbrev pub invariant-loop-counted : goal.invariant-loop-counted
invariant-loop-counted g l =
    Appends (g.W.Write.contents l.initial.writer) (g.W.Write.contents l.writer) (in_lines (flat_map counted_texts (take l.counted-index l.counts)))
