use Rattle.std.proofs.Common.{◌≡◌, ◌+◌, drop}
use Rattle.charmlet_model.specs.declared.kind.Kind.{Kind}
use Rattle.charmlet_image.specs.Positioned.{items_of}
use Rattle.charmlet_recovery.specs.Blanks.{wanted_by_catch_up}
use Rattle.charmlet_recover.specs.Maps.{records_with}
use Rattle.charmlet_recover.specs.Wanted.{blanks_in}
use Rattle.charmlet_recover.proofs.catch_up.count_catch_up.Given as goal

-- the blanks so far, and those that the deliveries that are left need
abbrev pub invariant-loop-placed : goal.invariant-loop-placed
invariant-loop-placed l = (kind : Kind) →
    blanks_in l.wanted kind + wanted_by_catch_up l.manifest kind (records_with l.received.entries) (items_of (drop l.placed-index l.caught_up))
    ≡ wanted_by_catch_up l.manifest kind (records_with l.fn.received.entries) (items_of l.caught_up)
