-- One value for each kind.
use Rattle.charmlet_model.specs.declared.kind.Kind.{Kind}
use Rattle.charmlet_model.specs.declared.kind.Kind.TheVariants as kinds
use Rattle.charmlet_stock.specs.declared.by_kind.ByKind.{ByKind}

-- the value of a kind
abbrev pub at : {T : Type 0} → ByKind T → Kind → T
at values kinds.Counter = values.counters
at values kinds.Ring = values.rings
at values kinds.Account = values.accounts
at values kinds.Sum = values.sums
at values kinds.Tree = values.trees
at values kinds.Tape = values.tapes

-- another value for one kind
abbrev pub with_at : {T : Type 0} → ByKind T → Kind → T → ByKind T
with_at values kinds.Counter x = record values { counters = x }
with_at values kinds.Ring x = record values { rings = x }
with_at values kinds.Account x = record values { accounts = x }
with_at values kinds.Sum x = record values { sums = x }
with_at values kinds.Tree x = record values { trees = x }
with_at values kinds.Tape x = record values { tapes = x }

-- what is made of each value
abbrev pub each_of : {S T : Type 0} → (S → T) → ByKind S → ByKind T
each_of f values = record {
  counters = f values.counters;
  rings = f values.rings;
  accounts = f values.accounts;
  sums = f values.sums;
  trees = f values.trees;
  tapes = f values.tapes;
}

-- the same value for all kinds
abbrev pub for_all : {T : Type 0} → T → ByKind T
for_all x = record { counters = x; rings = x; accounts = x; sums = x; trees = x; tapes = x }
