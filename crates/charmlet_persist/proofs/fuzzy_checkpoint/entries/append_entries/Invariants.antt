use Rattle.std.proofs.Common.{◌≡◌, ◌++◌, All}
use Rattle.std.specs.Prelude.{IfSome}
use Rattle.std.specs.List.{flat_map}
use Rattle.charmlet_pup.specs.Fields.{number_bytes}
use Rattle.charmlet_persist.specs.FuzzyCheckpoint.Sealing.{IsShort, count_kept, spell_captured}
use Rattle.charmlet_persist.proofs.fuzzy_checkpoint.entries.append_entries.Given as goal

-- what is left goes after what was written, and is short
abbrev pub invariant-loop-elem : goal.invariant-loop-elem
invariant-loop-elem l = record {
  bytes : l.out.items ++ flat_map spell_captured l.elem-iterator ≡ (l.fn.out.items ++ number_bytes 4 (count_kept l.table.entries)) ++ flat_map spell_captured l.table.entries;
  short : All (λ e. IfSome e.1 IsShort) l.elem-iterator;
}
