-- What the lines of a script print.
use Rattle.std.specs.Prelude.{ℕ, List, ◌++◌, length, codes}
use Rattle.std.specs.Fmt.{decimal}
use Rattle.std.specs.List.{flat_map}
use Rattle.std.specs.Option.{option_map_or}
use Rattle.std.specs.String.{string_bytes}
use Rattle.charmlet_model.specs.declared.names.Elem.{Elem}
use Rattle.charmlet_model.specs.declared.names.MsgId.{MsgId}
use Rattle.charmlet_model.specs.Texts.{Text, elem_text, id_text, kind_text}
use Rattle.charmlet_script.specs.declared.printed.Counted.{Counted}
use Rattle.charmlet_script.specs.declared.printed.Drained.{Drained}
use Rattle.charmlet_script.specs.declared.printed.Shown.{Shown}
use Rattle.charmlet_script.specs.declared.printed.Supplied.{Supplied}

-- supplied K N
abbrev pub supplied_text : Supplied → Text
supplied_text supplied = codes "supplied " ++ kind_text supplied.kind ++ codes " "
    ++ decimal supplied.count

-- drained K left P
abbrev pub drained_text : Drained → Text
drained_text drained = codes "drained " ++ decimal drained.delivered ++ codes " left "
    ++ decimal drained.left

-- how many messages an element sent and received
abbrev pub counts_text : ℕ → ℕ → Text
counts_text sent received = codes " sent " ++ decimal sent ++ codes " received " ++ decimal received

-- state A.I pe P sent S received R X, of an element on processor P whose packed state has the
-- digits X
abbrev pub standing_text : Elem → (processor sent received : ℕ) → Text → Text
standing_text elem processor sent received packed = codes "state " ++ elem_text elem ++ codes " pe "
    ++ decimal processor ++ counts_text sent received ++ codes " " ++ packed

-- state A.I none sent S received R, of an element that isn't there
abbrev pub absent_text : Elem → (sent received : ℕ) → Text
absent_text elem sent received = codes "state " ++ elem_text elem ++ codes " none"
    ++ counts_text sent received

-- what a state line prints, by whether the element is there
abbrev pub shown_text : Shown → Text
shown_text shown =
    option_map_or (λ standing. standing_text shown.elem standing.processor shown.sent shown.received
    (string_bytes standing.packed))
    shown.standing (absent_text shown.elem shown.sent shown.received)

-- pending P, and each id after a space
abbrev pub pending_text : List MsgId → Text
pending_text ids = codes "pending " ++ decimal (length ids)
    ++ flat_map (λ id. codes " " ++ id_text id) ids

-- census K supplied S shelves H stock T retired R
abbrev pub counted_text : Counted → Text
counted_text counted =
    codes "census " ++ kind_text counted.kind ++ codes " supplied " ++ decimal counted.supplied
    ++ codes " shelves " ++ decimal counted.on_shelves
    ++ codes " stock " ++ decimal counted.in_stock ++ codes " retired " ++ decimal counted.retired
