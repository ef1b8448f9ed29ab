-- The lines of facts, in either form.
use Rattle.std.specs.Prelude.{List, [], ◌∷◌, ◌++◌}
use Rattle.std.specs.List.{flat_map}
use Rattle.charmlet_model.specs.Texts.{Text}
use Rattle.charmlet_dump.specs.declared.output.Form.{Form}
use Rattle.charmlet_dump.specs.declared.output.Form.TheVariants as forms
use Rattle.charmlet_dump.specs.Facts.{Fact}
use Rattle.charmlet_dump.specs.Json.{json_text}
use Rattle.charmlet_dump.specs.Plain.{plain_text}

-- the text of a fact in this form
abbrev pub fact_text : Form → Fact → Text
fact_text forms.Plain fact = plain_text fact
fact_text forms.Json fact = json_text fact

-- the line of a fact, with its line feed
abbrev pub fact_line : Form → Fact → Text
fact_line form fact = fact_text form fact ++ 10 ∷ []

-- each fact in a line
abbrev pub lines_of : Form → List Fact → Text
lines_of form = flat_map (fact_line form)
