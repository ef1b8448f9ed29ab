-- What the laboratory prints.
use Rattle.std.specs.Prelude.{◌++◌, codes}
use Rattle.std.specs.Fmt.{decimal}
use Rattle.charmlet_model.specs.Texts.{Text}
use Rattle.charmlet_lab.specs.declared.line.LabLine.{LabLine}

-- `lab stops S outcomes O bad B`
abbrev pub lab_line_text : LabLine → Text
lab_line_text line = codes "lab stops " ++ decimal line.stops ++ codes " outcomes "
    ++ decimal line.outcomes ++ codes " bad " ++ decimal line.bad
