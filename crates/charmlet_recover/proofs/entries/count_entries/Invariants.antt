use Rattle.std.proofs.Common.{◌≡◌, ◌+◌, drop, map}
use Rattle.charmlet_model.specs.declared.kind.Kind.{Kind}
use Rattle.charmlet_image.specs.Views.{entry_said}
use Rattle.charmlet_recovery.specs.Blanks.{wanted_by_records}
use Rattle.charmlet_recover.specs.Wanted.{blanks_in}
use Rattle.charmlet_recover.proofs.entries.count_entries.Given as goal

-- the blanks so far, and those that the entries that are left need
abbrev pub invariant-loop-entry : goal.invariant-loop-entry
invariant-loop-entry l = (kind : Kind) →
    blanks_in l.wanted kind + wanted_by_records l.manifest kind (map (entry_said l.manifest) (drop l.entry-index l.entries))
    ≡ wanted_by_records l.manifest kind (map (entry_said l.manifest) l.entries)
