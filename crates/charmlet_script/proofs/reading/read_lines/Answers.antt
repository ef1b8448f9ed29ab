use Rattle.std.proofs.Common.{◌∙◌, arith, inr, sym}
use Rattle.charmlet_script.proofs.Manifests.{manifest-of_lines, no_lines-declared}
use Rattle.charmlet_script.proofs.reading.read_lines.Goals as goal

pub finish-requires : goal.finish-requires
finish-requires c = record {
  declared = manifest-of_lines _ _ 1 _ c.in_ok-script.script no_lines-declared (inr (sym c.in_ok-has_array_line.ensures ∙ c.if-not-branch.false)) c.in_ok-script.ensures.reads;
  few = omega (arith, c.in_ok-script.ensures.few, c.requires);
}
