use Rattle.std.proofs.Common.{sym, ◌∙◌}
use Rattle.charmlet_script.proofs.Names.{is_text}
use Rattle.charmlet_script.proofs.name.name_of.Goals as goal

pub returns-in_default : goal.returns-in_default
returns-in_default c = absurd (c.in_default.ensures.cases.0 (is_text c.args.word.now (sym c.is_name.ensures ∙ c.if-not-is_name.false)))
