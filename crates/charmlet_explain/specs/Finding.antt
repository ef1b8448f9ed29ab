-- The first malformed line of a script.
use Rattle.std.specs.Prelude.{ℕ, Option, Some, None, Result, Ok, Err}
use Rattle.charmlet_model.specs.Texts.{Text}
use Rattle.charmlet_script.specs.Reading.{script_of, restart_script_of}
use Rattle.charmlet_script.specs.declared.runner.Runner.{Runner}
use Rattle.charmlet_script.specs.declared.reasons.setting.Purpose.{Purpose}
use Rattle.charmlet_script.specs.declared.reasons.setting.Purpose.TheVariants.{Run, Restart}

-- the malformed line that is named in the place of what a script holds
abbrev pub named_in : {T : Type 0} → Result T ℕ → Option ℕ
named_in (Ok script) = None
named_in (Err line) = Some line

-- the first malformed line of a script with these bytes, if there is one
abbrev pub malformed_line : Purpose → Runner → Text → Option ℕ
malformed_line Run runner bytes = named_in (script_of runner bytes)
malformed_line Restart runner bytes = named_in (restart_script_of runner bytes)
