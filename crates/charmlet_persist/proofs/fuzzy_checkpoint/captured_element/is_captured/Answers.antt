use Rattle.std.proofs.Common.{sym, ap, ◌∙◌}
use Rattle.std.specs.Prelude.{is_some}
use Rattle.charmlet_shelf.proofs.Risen.{found_risen}
use Rattle.charmlet_persist.proofs.fuzzy_checkpoint.captured_element.is_captured.Goals as goal

pub returns : goal.returns
returns c = c.contains_key.ensures ∙ ap is_some (sym (found_risen c.args.elem c.args.table.now.entries))
