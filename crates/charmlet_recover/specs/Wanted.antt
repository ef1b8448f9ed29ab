-- How many blanks are wanted of a kind.
use Rattle.std.specs.Prelude.{ℕ}
use Rattle.charmlet_model.specs.declared.kind.Kind.{Kind}
use Rattle.charmlet_model.specs.declared.kind.Kind.TheVariants as kinds
use Rattle.charmlet_recover.specs.declared.wanted.Wanted.{Wanted}

-- how many blanks of the kind are wanted
abbrev pub blanks_in : Wanted → Kind → ℕ
blanks_in wanted kinds.Counter = wanted.counters
blanks_in wanted kinds.Ring = wanted.rings
blanks_in wanted kinds.Account = wanted.accounts
blanks_in wanted kinds.Sum = wanted.sums
blanks_in wanted kinds.Tree = wanted.trees
blanks_in wanted kinds.Tape = wanted.tapes
