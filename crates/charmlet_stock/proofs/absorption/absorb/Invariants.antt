use Rattle.std.proofs.Common.{◌≡◌, ◌+◌}
use Rattle.charmlet_model.specs.declared.kind.Kind.{Kind}
use Rattle.charmlet_stock.specs.Stock.{blanks_in, census_of, keeping_of, supplied_to}
use Rattle.charmlet_stock.specs.Absorption.Absorbed.{all_blanks, retired_in}
use Rattle.charmlet_stock.proofs.absorption.absorb.Given as goal

-- some blanks went over
abbrev pub invariant-blanks : goal.invariant-blanks
invariant-blanks g l = record {
  blanks : (kind : Kind) → blanks_in l.source kind + blanks_in l.stock kind ≡ blanks_in l.fn.source kind + blanks_in l.fn.stock kind;
  retired : (kind : Kind) → retired_in l.source kind ≡ retired_in l.fn.source kind;
  retired_there : (kind : Kind) → retired_in l.stock kind ≡ retired_in l.fn.stock kind;
  supplied : (kind : Kind) → supplied_to l.stock kind ≡ supplied_to l.fn.stock kind;
  keeping : keeping_of l.source ≡ keeping_of l.fn.source;
  keeping_there : keeping_of l.stock ≡ keeping_of l.fn.stock;
}

abbrev pub decreases-blanks : goal.decreases-blanks
decreases-blanks g l = all_blanks (census_of l.source)

-- all blanks did, and some of the retired ones
abbrev pub invariant-retired : goal.invariant-retired
invariant-retired g l = record {
  blanks : (kind : Kind) → blanks_in l.stock kind ≡ blanks_in l.fn.source kind + blanks_in l.fn.stock kind;
  none : (kind : Kind) → retired_in l.source kind ≡ 0;
  retired : (kind : Kind) → blanks_in l.source kind + retired_in l.stock kind ≡ retired_in l.fn.source kind + retired_in l.fn.stock kind;
  supplied : (kind : Kind) → supplied_to l.stock kind ≡ supplied_to l.fn.stock kind;
  keeping_there : keeping_of l.stock ≡ keeping_of l.fn.stock;
}

abbrev pub decreases-retired : goal.decreases-retired
decreases-retired g l = all_blanks (census_of l.source)
