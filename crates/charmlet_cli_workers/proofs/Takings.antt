-- What is left of a stock from which objects are taken.
use Rattle.std.proofs.Common.{◌≡◌, ◌+◌, ◌-◌, ◌≤◌, ◌==◌, ⊎_elim, ℕ, cond, ap, ◌∙◌, arith}
use Rattle.std.specs.Cmp.{nat_eq_equiv}
use Rattle.charmlet_model.specs.declared.kind.Kind.{Kind}
use Rattle.charmlet_model.specs.Kind.{kind_number}
use Rattle.charmlet_stock.specs.declared.by_kind.ByKind.{ByKind}
use Rattle.charmlet_stock.specs.declared.pile.Tally.{Tally}
use Rattle.charmlet_stock.specs.ByKind.{at, with_at}
use Rattle.charmlet_stock.specs.Pile.{with_out}
use Rattle.charmlet_stock.specs.Stock.{part_of}
use Rattle.charmlet_stock.proofs.Room.{at_with}

-- so many of one kind are missing at most
pub left_of : (census : ByKind Tally) (kind : Kind) (count : ℕ) (k : Kind) → (at census k).in_stock ≤ (at (with_at census kind (with_out (at census kind) count)) k).in_stock + part_of kind count k
left_of census kind count k =
    let taken = with_at census kind (with_out (at census kind) count) in
    ⊎_elim
    (λ is.
    let here : (at taken k).in_stock ≡ (at census kind).in_stock - count = ap (λ (t : Tally). t.in_stock) is.1 in
    let part : part_of kind count k ≡ count = ap (λ b. cond b count 0) (ap (λ j. kind_number j == kind_number kind) is.0 ∙ nat_eq_equiv.refl (kind_number kind)) in
    let same : (at census k).in_stock ≡ (at census kind).in_stock = ap (λ j. (at census j).in_stock) is.0 in
    omega arith)
    (λ other. let same : (at taken k).in_stock ≡ (at census k).in_stock = ap (λ (t : Tally). t.in_stock) other.1 in omega arith)
    (at_with census kind (with_out (at census kind) count) k)
