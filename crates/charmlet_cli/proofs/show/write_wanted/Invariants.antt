use Rattle.std.proofs.Common.{take}
use Rattle.std.specs.Io.KnownBytes.{Appends}
use Rattle.std.specs.List.{flat_map}
use Rattle.charmlet_cli.specs.FoundLines.{wanted_texts}
use Rattle.charmlet_script_output.specs.Writing.{in_lines}
use Rattle.charmlet_cli.proofs.show.write_wanted.Given as goal

-- the kinds so far are printed
abbrev pub invariant-loop-kind : goal.invariant-loop-kind
invariant-loop-kind g l =
    Appends (g.W.Write.contents l.initial.writer) (g.W.Write.contents l.writer) (in_lines (flat_map (wanted_texts l.wanted) (take l.kind-index l.kind-items)))
