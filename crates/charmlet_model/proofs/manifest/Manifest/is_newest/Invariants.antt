use Rattle.std.proofs.Common.{◌≡◌}
use Rattle.std.specs.List.{list_all}
use Rattle.charmlet_model.specs.KindVersion.{are_newest, is_newest}
use Rattle.charmlet_model.proofs.manifest.Manifest.is_newest.Given as goal

-- what is left says it of all
abbrev pub invariant-loop-kind_version : goal.invariant-loop-kind_version
invariant-loop-kind_version l = are_newest l.self ≡ list_all is_newest l.kind_version-iterator
