use Rattle.std.proofs.Common.{ℕ, ap, ◌∙◌}
use Rattle.charmlet_model.specs.declared.kind.Kind.{Kind}
use Rattle.charmlet_model.specs.Shelves.{count_of}
use Rattle.charmlet_stock.specs.declared.pile.Tally.{Tally}
use Rattle.charmlet_stock.specs.Pile.{supplied_more}
use Rattle.charmlet_replay.proofs.OpenHalves.{supplied_back, unused_back}
use Rattle.charmlet_recover.proofs.blanks.stock_from_objects.Goals as goal

pub returns-clause-unused : goal.returns-clause-unused
returns-clause-unused g c =
    let n = count_of g.C.Chare.state c.args.blanks.items in
    unused_back c.supply.new.self n (λ kind. c.in_ok-supply.ensures.ok kind ∙ ap (λ (t : Tally). supplied_more t (n kind)) (c.new-stock.ensures.tally kind)) (c.supply.ensures.keeping ∙ c.new-stock.ensures.keeping)

pub returns-clause-supplied : goal.returns-clause-supplied
returns-clause-supplied g c =
    let n = count_of g.C.Chare.state c.args.blanks.items in
    λ kind. ap (λ (count : Kind → ℕ). count kind) (supplied_back c.supply.new.self n (λ which. c.in_ok-supply.ensures.ok which ∙ ap (λ (t : Tally). supplied_more t (n which)) (c.new-stock.ensures.tally which)))
