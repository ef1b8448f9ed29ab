use Rattle.std.proofs.Common.{sym, ap, ◌∙◌, arith}
use Rattle.charmlet_model.specs.Shelves.{count_of}
use Rattle.charmlet_stock.specs.declared.pile.Tally.{Tally}
use Rattle.charmlet_stock.specs.Pile.{supplied_more}
use Rattle.charmlet_stock.proofs.Results.{when_ok}
use Rattle.charmlet_script_output.proofs.supplies.stock_from_supplies.Goals as goal

pub returns : goal.returns
returns g c = λ kind.
    let count = count_of g.C.Chare.state c.args.objects.items kind in
    let supplied = when_ok _ c.supply.result (sym c.is_err.ensures.value ∙ c.if-is_err.false) c.supply.ensures.ok kind in
    ap (λ (t : Tally). t.in_stock) (supplied ∙ ap (λ t. supplied_more t count) (c.new-stock.ensures.tally kind)) ∙ omega arith
