-- Named handlers.
use Rattle.std.specs.Prelude.{List, [], ◌∷◌, if◌then◌else◌, is_some, Option, Some, None}
use Rattle.std.specs.Str.{bytes_eq}
use Rattle.charmlet_model.specs.Texts.{Text}
use Rattle.charmlet_requests.specs.declared.handlers.Handler.{Handler}
use Rattle.charmlet_script.specs.declared.script.HandlerLine.{HandlerLine}

-- the handler that a name stands for, if there is one
abbrev pub Names : Type 0
Names = Text → Option Handler

-- the last of these lines with the name tells
abbrev pub named_by : List HandlerLine → Names
named_by [] name = None
named_by (line ∷ lines) name =
    if is_some (named_by lines name) then named_by lines name
    else if bytes_eq line.name name then Some (record { array = line.array; entry = line.entry })
    else None
