-- The lines that show what is found in two halves.
use Rattle.std.specs.Prelude.{ℕ, List, [], ◌∷◌, ◌++◌, nat_lt, if◌then◌else◌, codes}
use Rattle.std.specs.Fmt.{decimal}
use Rattle.std.specs.List.{flat_map}
use Rattle.charmlet_model.specs.declared.kind_version.KindVersion.{KindVersion}
use Rattle.charmlet_model.specs.declared.kind.Kind.{Kind}
use Rattle.charmlet_model.specs.KindVersion.{kind_of_version, number_of_version}
use Rattle.charmlet_model.specs.Texts.{Text, half_text, kind_text}
use Rattle.charmlet_engine.specs.found.Found.{Found}
use Rattle.charmlet_engine.specs.wanted.Wanted.{Wanted}
use Rattle.charmlet_engine.specs.Wanted.{blanks_in}
use Rattle.charmlet_cli.specs.declared.found_lines.ArrayLine.{ArrayLine}
use Rattle.charmlet_cli.specs.declared.found_lines.HalfLine.{HalfLine}
use Rattle.charmlet_cli.specs.declared.found_lines.WantedLine.{WantedLine}
use Rattle.charmlet_script_output.specs.Shown.{all_kinds}

-- half H generation G base B log L
abbrev pub half_line_text : HalfLine → Text
half_line_text line =
    codes "half " ++ half_text line.half ++ codes " generation " ++ decimal line.generation
    ++ codes " base " ++ decimal line.base ++ codes " log " ++ decimal line.log

-- array A kind K version V
abbrev pub array_line_text : ArrayLine → Text
array_line_text line =
    codes "array " ++ decimal line.array ++ codes " kind " ++ kind_text (kind_of_version line.kind_version)
    ++ codes " version " ++ decimal (number_of_version line.kind_version)

-- wanted K C
abbrev pub wanted_line_text : WantedLine → Text
wanted_line_text line = codes "wanted " ++ kind_text line.kind ++ codes " " ++ decimal line.count

-- the half that is found
abbrev pub half_line : Found → HalfLine
half_line f = record { half = f.half; generation = f.generation; base = f.before; log = f.logged }

-- the line of an array
abbrev pub array_texts : ℕ × KindVersion → List Text
array_texts e = array_line_text (record { array = e.0; kind_version = e.1 }) ∷ []

-- the line of a kind, if any blanks of it are wanted
abbrev pub count_texts : Kind → ℕ → List Text
count_texts kind count = if nat_lt 0 count
    then wanted_line_text (record { kind = kind; count = count }) ∷ [] else []

-- the line of a kind, if blanks of it are wanted
abbrev pub wanted_texts : Wanted → Kind → List Text
wanted_texts wanted kind = count_texts kind (blanks_in wanted kind)

-- the half, then each array and each kind with wanted blanks, in rising order
abbrev pub found_texts : Found → List Text
found_texts f = half_line_text (half_line f) ∷ []
    ++ (flat_map array_texts f.manifest ++ flat_map (wanted_texts f.wanted) all_kinds)
