use Rattle.std.proofs.Common.{◌≡◌, ◌<◌, ◌≤◌, length, sym, ap, subst, ◌∙◌, rules}
use Rattle.charmlet_shelf.specs.Shelf.{View}
use Rattle.charmlet_hub.specs.Settling.{Settles, ended}
use Rattle.charmlet_hub.proofs.Endings.{all_settled, one_settled, shelves_ended}
use Rattle.charmlet_hub.proofs.hub.Hub.settle_all.Goals as goal

pub loop-i-preserved : goal.loop-i-preserved
loop-i-preserved g c =
    let i = c.loop-i.i in
    let x = c.index-shelves-i.result in
    let within : i < length c.loop-i.shelves = search rules in
    let settles = subst (λ (v : View). Settles c.loop-i.self v c.settle.new.self) (sym c.index-shelves-i.is) c.settle.ensures.settles in
    let end : c.settle.new.locked ≡ ended x = c.settle.ensures.shelf ∙ ap ended (sym c.index-shelves-i.is) in
    one_settled _ c.loop-i.self c.args.shelves.now c.loop-i.shelves i c.loop-i.invariant c.settle.new.self x c.settle.new.locked within c.index-shelves-i.is settles end c.settle.ensures.rest

pub returns-clause-settles : goal.returns-clause-settles
returns-clause-settles g c =
    let all : length c.args.shelves.now ≤ c.loop-i.i = search rules in
    all_settled _ c.loop-i.self c.args.shelves.now c.loop-i.shelves c.loop-i.i c.loop-i.invariant all

pub returns-clause-shelves : goal.returns-clause-shelves
returns-clause-shelves g c =
    let all : length c.args.shelves.now ≤ c.loop-i.i = search rules in
    shelves_ended _ c.loop-i.self c.args.shelves.now c.loop-i.shelves c.loop-i.i c.loop-i.invariant all
