use Rattle.std.proofs.Common.{◌≡◌, ◌<◌, List, length, sym, ap, subst, ◌∙◌, arith}
use Rattle.std.specs.Prelude.{Some, IfSome, slice_index_or}
use Rattle.charmlet_model.specs.Core.{Move}
use Rattle.charmlet_model.specs.Run.{Goes}
use Rattle.charmlet_delivery.specs.Kept.{core_in}
use Rattle.charmlet_shelf.specs.Shelf.{View}
use Rattle.charmlet_delivery.specs.Workplace.{done_or_refused, store_with}
use Rattle.charmlet_migrate.specs.StoreParts.{FitTogether}
use Rattle.charmlet_migrate.proofs.Moved.{back_item, front_item, is_shelf_of, joined_is, joined_is_so, moved_together, shelf_number}
use Rattle.charmlet_migrate.proofs.among.move_among.Given.{Over}
use Rattle.charmlet_migrate.proofs.among.move_among.Goals.{After-index-back-0, After-index-front-destination}
use Rattle.charmlet_migrate.proofs.among.move_among.Goals as goal

-- ---- its place is in the front part

module _ (g : Over) (c : After-index-back-0 g) where
  abbrev shelves : List View
  shelves = c.args.shelves.now

  abbrev source : View
  source = slice_index_or c.split_at_mut-front.result.0.now c.from-source.result c.index-front-source.result

  abbrev destination : View
  destination = slice_index_or c.split_at_mut-front.result.1.now 0 c.index-back-0.result

  within : c.from-destination.result < length shelves
  within = let one = c.requires.within in let is = c.from-destination.ensures in omega arith

  before : c.from-source.result < length shelves
  before = let less = within in let first = c.if-source-destination.true in omega arith

  source_is : source ≡ slice_index_or shelves c.from-source.result source
  source_is =
      let cut = c.split_at_mut-front in
      front_item shelves cut.result.0.now cut.result.1.now cut.ensures.value c.from-source.result c.from-destination.result cut.ensures.front_len c.if-source-destination.true within c.index-front-source.result source

  destination_is : destination ≡ slice_index_or shelves c.from-destination.result destination
  destination_is =
      let cut = c.split_at_mut-front in
      back_item shelves cut.result.0.now cut.result.1.now cut.ensures.value c.from-source.result c.from-destination.result cut.ensures.front_len c.if-source-destination.true within c.index-back-0.result destination

pub move_between-requires-clause-source : goal.move_between-requires-clause-source
move_between-requires-clause-source g c κs w =
    let at = (goal.at.move_between-requires-clause-source g c).After-index-back-0 in
    is_shelf_of c.args.history.now (shelves g at) c.args.stock.now c.requires.together c.from-source.result (source g at) (before g at) (source_is g at)

pub move_between-requires-clause-destination : goal.move_between-requires-clause-destination
move_between-requires-clause-destination g c κs w =
    let at = (goal.at.move_between-requires-clause-destination g c).After-index-back-0 in
    is_shelf_of c.args.history.now (shelves g at) c.args.stock.now c.requires.together c.from-destination.result (destination g at) (within g at) (destination_is g at)

pub returns-then-source-destination-clause-goes : goal.returns-then-source-destination-clause-goes
returns-then-source-destination-clause-goes g c =
    let at = (goal.at.returns-then-source-destination-clause-goes g c).After-index-back-0 in
    let number = shelf_number c.args.history.now (shelves g at) c.args.stock.now c.requires.together c.from-destination.result (destination g at) (within g at) (destination_is g at) in
    subst (λ n. Goes (store_with c.args.history.now c.args.stock.now) (Move c.args.elem n) (done_or_refused c.move_between.result) (store_with c.move_between.new.history c.move_between.new.stock)) (number ∙ c.from-destination.ensures) c.move_between.ensures.goes

pub returns-then-source-destination-clause-together : goal.returns-then-source-destination-clause-together
returns-then-source-destination-clause-together g c =
    let at = (goal.at.returns-then-source-destination-clause-together g c).After-index-back-0 in
    let cut = c.split_at_mut-front in
    let history = c.args.history.now in
    let stock = c.args.stock.now in
    let new = c.move_between.new in
    let moves = c.move_between.ensures in
    let number = shelf_number history (shelves g at) stock c.requires.together c.from-destination.result (destination g at) (within g at) (destination_is g at) in
    subst (λ last. FitTogether new.history last new.stock)
    (sym (joined_is (shelves g at) cut.result.0.now cut.result.1.now cut.ensures.value c.from-source.result c.from-destination.result cut.ensures.front_len c.if-source-destination.true (within g at) new.source new.destination))
    (moved_together history (shelves g at) stock c.requires.together c.facts.ensures c.from-source.result c.from-destination.result (before g at) (within g at) (let first = c.if-source-destination.true in λ same. omega arith)
    (source g at) (destination g at) (source_is g at) (destination_is g at)
    new.history new.stock c.args.elem (c.requires.place ∙ ap Some (sym c.from-source.ensures)) (done_or_refused c.move_between.result)
    (subst (λ n. Goes (store_with history stock) (Move c.args.elem n) (done_or_refused c.move_between.result) (store_with new.history new.stock)) number moves.goes)
    new.source new.destination moves.source moves.destination moves.source_others moves.destination_others moves.held moves.supplied)

-- ---- its place is the first of the back part

module _ (g : Over) (c : After-index-front-destination g) where
  abbrev shelves' : List View
  shelves' = c.args.shelves.now

  abbrev source' : View
  source' = slice_index_or c.split_at_mut-front-else-source-destination.result.1.now 0 c.index-back-0-else-source-destination.result

  abbrev destination' : View
  destination' = slice_index_or c.split_at_mut-front-else-source-destination.result.0.now c.from-destination.result c.index-front-destination.result

  within' : c.from-source.result < length shelves'
  within' =
      let core = core_in c.args.history.now in
      let on : c.args.place < core.processors = subst (λ o. IfSome o (λ p. p < core.processors)) c.requires.place (c.facts.ensures.sound.placed c.args.elem).on_processor in
      let count = c.requires.together.count in
      let is = c.from-source.ensures in
      omega arith

  less' : c.from-destination.result < c.from-source.result
  less' =
      let no_more = c.if-source-destination.false in
      let apart = c.requires.apart in
      let from = c.from-source.ensures in
      let to = c.from-destination.ensures in
      omega arith

  before' : c.from-destination.result < length shelves'
  before' = let less = within' in let first = less' in omega arith

  source_is' : source' ≡ slice_index_or shelves' c.from-source.result source'
  source_is' =
      let cut = c.split_at_mut-front-else-source-destination in
      back_item shelves' cut.result.0.now cut.result.1.now cut.ensures.value c.from-destination.result c.from-source.result cut.ensures.front_len less' within' c.index-back-0-else-source-destination.result source'

  destination_is' : destination' ≡ slice_index_or shelves' c.from-destination.result destination'
  destination_is' =
      let cut = c.split_at_mut-front-else-source-destination in
      front_item shelves' cut.result.0.now cut.result.1.now cut.ensures.value c.from-destination.result c.from-source.result cut.ensures.front_len less' within' c.index-front-destination.result destination'

pub move_between-requires-else-source-destination-clause-source : goal.move_between-requires-else-source-destination-clause-source
move_between-requires-else-source-destination-clause-source g c κs w =
    let at = (goal.at.move_between-requires-else-source-destination-clause-source g c).After-index-front-destination in
    is_shelf_of c.args.history.now (shelves' g at) c.args.stock.now c.requires.together c.from-source.result (source' g at) (within' g at) (source_is' g at)

pub move_between-requires-else-source-destination-clause-destination : goal.move_between-requires-else-source-destination-clause-destination
move_between-requires-else-source-destination-clause-destination g c κs w =
    let at = (goal.at.move_between-requires-else-source-destination-clause-destination g c).After-index-front-destination in
    is_shelf_of c.args.history.now (shelves' g at) c.args.stock.now c.requires.together c.from-destination.result (destination' g at) (before' g at) (destination_is' g at)

pub returns-else-source-destination-clause-goes : goal.returns-else-source-destination-clause-goes
returns-else-source-destination-clause-goes g c =
    let at = (goal.at.returns-else-source-destination-clause-goes g c).After-index-front-destination in
    let new = c.move_between-else-source-destination.new in
    let result = c.move_between-else-source-destination.result in
    let number = shelf_number c.args.history.now (shelves' g at) c.args.stock.now c.requires.together c.from-destination.result (destination' g at) (before' g at) (destination_is' g at) in
    subst (λ n. Goes (store_with c.args.history.now c.args.stock.now) (Move c.args.elem n) (done_or_refused result) (store_with new.history new.stock)) (number ∙ c.from-destination.ensures) c.move_between-else-source-destination.ensures.goes

pub returns-else-source-destination-clause-together : goal.returns-else-source-destination-clause-together
returns-else-source-destination-clause-together g c =
    let at = (goal.at.returns-else-source-destination-clause-together g c).After-index-front-destination in
    let cut = c.split_at_mut-front-else-source-destination in
    let history = c.args.history.now in
    let stock = c.args.stock.now in
    let new = c.move_between-else-source-destination.new in
    let result = c.move_between-else-source-destination.result in
    let moves = c.move_between-else-source-destination.ensures in
    let number = shelf_number history (shelves' g at) stock c.requires.together c.from-destination.result (destination' g at) (before' g at) (destination_is' g at) in
    subst (λ last. FitTogether new.history last new.stock)
    (sym (joined_is_so (shelves' g at) cut.result.0.now cut.result.1.now cut.ensures.value c.from-destination.result c.from-source.result cut.ensures.front_len (less' g at) (within' g at) new.destination new.source))
    (moved_together history (shelves' g at) stock c.requires.together c.facts.ensures c.from-source.result c.from-destination.result (within' g at) (before' g at) (let first = less' g at in λ same. omega arith)
    (source' g at) (destination' g at) (source_is' g at) (destination_is' g at)
    new.history new.stock c.args.elem (c.requires.place ∙ ap Some (sym c.from-source.ensures)) (done_or_refused result)
    (subst (λ n. Goes (store_with history stock) (Move c.args.elem n) (done_or_refused result) (store_with new.history new.stock)) number moves.goes)
    new.source new.destination moves.source moves.destination moves.source_others moves.destination_others moves.held moves.supplied)
