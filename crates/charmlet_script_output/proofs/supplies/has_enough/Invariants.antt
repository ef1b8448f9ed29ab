use Rattle.std.proofs.Common.{◌≤◌, take}
use Rattle.std.specs.List.{AllByRecursion}
use Rattle.charmlet_model.specs.Shelves.{count_of}
use Rattle.charmlet_engine.specs.Wanted.{blanks_in}
use Rattle.charmlet_script_output.proofs.supplies.has_enough.Given as goal

-- of the kinds so far there are enough
abbrev pub invariant-loop-kind : goal.invariant-loop-kind
invariant-loop-kind g l = AllByRecursion (λ kind. blanks_in l.wanted kind ≤ count_of g.C.Chare.state l.objects kind) (take l.kind-index l.kind-items)
