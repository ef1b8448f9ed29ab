-- Constructions that are pending.
use Rattle.std.specs.Prelude.{◌≡◌}
use Rattle.charmlet_model.specs.declared.kind.Kind.{Kind}
use Rattle.charmlet_model.specs.Core.{Core}
use Rattle.charmlet_history.specs.Wanting.{wanted_in}
use Rattle.charmlet_recover.specs.declared.wanted.Wanted.{Wanted}
use Rattle.charmlet_recover.specs.Wanted.{blanks_in}

-- so many blanks of each kind are those that the pending messages take, each of which constructs an
-- element that isn't there
abbrev pub AreConstructions : Core → Wanted → Type 0
AreConstructions core wanted = (kind : Kind) → blanks_in wanted kind ≡ wanted_in core kind
