use Rattle.std.proofs.Common.{◌≡◌, sym, ◌∙◌}
use Rattle.std.specs.Prelude.{Some}
use Rattle.charmlet_model.proofs.Maps.{same_from_test}
use Rattle.charmlet_shelf.proofs.Risen.{stands_here}
use Rattle.charmlet_shelf.proofs.residents.stands_at.Goals as goal

pub returns-in-Some : goal.returns-in-Some
returns-in-Some g c = λ same.
    let es = c.args.residents.now.entries in
    let key : c.in-Some.key.now ≡ c.args.elem = same_from_test c.in-Some.key.now c.args.elem (sym c.eq.ensures ∙ same) in
    stands_here c.args.elem c.in-Some.field-0-1.now es c.args.index c.len-len.ensures.unique
    (sym c.in-Some.ensures.entry ∙ (λ i. Some (key i, c.in-Some.field-0-1.now)))
