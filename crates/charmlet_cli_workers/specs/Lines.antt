-- Lines that workers don't run.
use Rattle.std.specs.Prelude.{Bool, true, false, List}
use Rattle.std.specs.List.{list_any}
use Rattle.charmlet_model.specs.declared.step.Step.TheVariants.{Deliver}
use Rattle.charmlet_script.specs.declared.script.Line.{Line}
use Rattle.charmlet_script.specs.declared.script.Line.TheVariants.{Step}

-- the line names what is delivered next
abbrev pub is_delivery : Line → Bool
is_delivery (Step (Deliver processor id)) = true
is_delivery _ = false

-- one of the lines does
abbrev pub has_delivery : List Line → Bool
has_delivery lines = list_any is_delivery lines
