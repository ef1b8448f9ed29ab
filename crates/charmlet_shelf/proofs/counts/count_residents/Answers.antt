use Rattle.std.proofs.Common.{rules, ◌≡◌, ◌+◌, ◌==◌, ℕ, cond, true, false, ◌∷◌, sym, ap, ◌∙◌, arith}
use Rattle.std.specs.Prelude.{sum_by}
use Rattle.std.proofs.lemmas.List.Sums.{sum_by-cons}
use Rattle.charmlet_model.specs.declared.state.Resident.{Resident}
use Rattle.charmlet_model.specs.Kind.{kind_number}
use Rattle.charmlet_model.specs.Reaction.{kind_of}
use Rattle.charmlet_model.specs.Shelves.{count_of, objects_of}
use Rattle.std.proofs.lemmas.Bool.{eq-eqb, ne_eqb}
use Rattle.charmlet_shelf.proofs.CountsLemmas.{count_risen}
use Rattle.charmlet_shelf.proofs.Risen.{rising_always}
use Rattle.charmlet_shelf.proofs.counts.count_residents.Goals as goal

pub loop-resident-preserved-then-kind-number : goal.loop-resident-preserved-then-kind-number
loop-resident-preserved-then-kind-number g c =
    let weight : Resident g.row.C.Denot → ℕ = λ r. cond (kind_number (kind_of (g.C.Chare.state r.object)) == kind_number c.args.kind) 1 0 in
    let resident = c.in-Some.resident.now in
    let items : c.loop-resident.resident-iterator ≡ resident ∷ c.next.new.self = search rules in
    let split : sum_by weight c.loop-resident.resident-iterator ≡ weight resident + sum_by weight c.next.new.self = ap (sum_by weight) items ∙ sum_by-cons weight resident c.next.new.self in
    let same : (kind_number (kind_of (g.C.Chare.state resident.object)) == kind_number c.args.kind) ≡ true = eq-eqb _ _ (sym c.kind.ensures ∙ c.if-kind-number.true ∙ c.number.ensures.value) in
    let one : weight resident ≡ 1 = ap (λ b. cond b 1 0) same in
    let before = c.loop-resident.invariant in
    omega arith

pub loop-resident-preserved : goal.loop-resident-preserved
loop-resident-preserved g c =
    let weight : Resident g.row.C.Denot → ℕ = λ r. cond (kind_number (kind_of (g.C.Chare.state r.object)) == kind_number c.args.kind) 1 0 in
    let resident = c.in-Some.resident.now in
    let items : c.loop-resident.resident-iterator ≡ resident ∷ c.next.new.self = search rules in
    let split : sum_by weight c.loop-resident.resident-iterator ≡ weight resident + sum_by weight c.next.new.self = ap (sum_by weight) items ∙ sum_by-cons weight resident c.next.new.self in
    let other : (kind_number (kind_of (g.C.Chare.state resident.object)) == kind_number c.args.kind) ≡ false = ne_eqb _ _ (λ is. c.if-kind-number.false (c.kind.ensures ∙ is ∙ sym c.number.ensures.value)) in
    let none : weight resident ≡ 0 = ap (λ b. cond b 1 0) other in
    let before = c.loop-resident.invariant in
    omega arith

pub returns-clause-count : goal.returns-clause-count
returns-clause-count g c =
    let es = c.args.residents.now.entries in
    let counted : c.loop-resident.count ≡ count_of g.C.Chare.state (objects_of es) c.args.kind = search rules in
    counted ∙ sym (count_risen c.args.kind g.C.Chare.state es c.len-len.ensures.unique)

pub returns-clause-ordered : goal.returns-clause-ordered
returns-clause-ordered g c = rising_always c.args.residents.now.entries
