use Rattle.std.proofs.Common.{◌≡◌, ◌<◌, length, sym, ap, ◌∙◌, arith}
use Rattle.std.specs.Prelude.{Some, get_or, slice_set}
use Rattle.std.specs.BTreeMap.{insert_entry}
use Rattle.charmlet_model.specs.declared.state.Record.{Record}
use Rattle.charmlet_model.specs.Names.{elem_cmp}
use Rattle.charmlet_model.specs.Unpacked.{state_at}
use Rattle.charmlet_shelf.specs.declared.phase.Phase.TheVariants.{Idle}
use Rattle.charmlet_shard.specs.Home.{AreHome}
use Rattle.charmlet_shard.proofs.Results.{ok_then}
use Rattle.charmlet_shelf.specs.Shelf.{View}
use Rattle.charmlet_shard.proofs.AtHome.{absent_here, are_home, idle_here, rising_here, still_counted}
use Rattle.charmlet_shard.proofs.homes.place_at_home.Goals as goal

pub place_packed-requires-clause-rising : goal.place_packed-requires-clause-rising
place_packed-requires-clause-rising g c κs within =
    let shelves = c.args.shelves.now in
    let p = c.place_of_home-place.result in
    let known = c.requires.unknown in
    let less : p < length shelves = let count = known.1.count in let below = c.place_of_home-place.ensures.within in omega arith in
    rising_here shelves p less (get_or shelves p c.index-shelves-place.result) (ap (get_or shelves p) c.index-shelves-place.is) c.args.processors known.0 known.1

pub place_packed-requires-clause-absent : goal.place_packed-requires-clause-absent
place_packed-requires-clause-absent g c κs within =
    let shelves = c.args.shelves.now in
    let p = c.place_of_home-place.result in
    let known = c.requires.unknown in
    let less : p < length shelves = let count = known.1.count in let below = c.place_of_home-place.ensures.within in omega arith in
    absent_here shelves p less (get_or shelves p c.index-shelves-place.result) (ap (get_or shelves p) c.index-shelves-place.is) c.args.processors known.0 known.1 c.args.elem known.2

pub returns-clause-ok : goal.returns-clause-ok
returns-clause-ok g c = λ records are.
    let shelves = c.args.shelves.now in
    let p = c.place_of_home-place.result in
    let less : p < length shelves = let count = are.count in let below = c.place_of_home-place.ensures.within in omega arith in
    let x = c.args.elem in
    let r : Record = record { state = Some (state_at c.args.kind_version c.args.packed.now); sent = c.args.counts.sent; received = c.args.counts.received } in
    let old = get_or shelves p c.index-shelves-place.result in
    let idle : old.phase ≡ Idle = idle_here shelves p less old (ap (get_or shelves p) c.index-shelves-place.is) are.idle in
    let new = c.place_packed.new.shelf in
    ok_then (new ≡ record old { records = insert_entry elem_cmp old.records x r }) (AreHome c.args.processors (insert_entry elem_cmp records x r) (slice_set shelves p new)) c.place_packed.result
    (λ is. are_home shelves p less old (ap (get_or shelves p) c.index-shelves-place.is) c.args.processors records are x (sym c.place_of_home-place.ensures.home) r new
    (ap (λ (v : View). v.number) is) (ap (λ (v : View). v.phase) is ∙ idle) (ap (λ (v : View). v.records) is)) c.place_packed.ensures.ok

pub returns-clause-counted : goal.returns-clause-counted
returns-clause-counted g c =
    let shelves = c.args.shelves.now in
    let p = c.place_of_home-place.result in
    let known = c.requires.unknown in
    let less : p < length shelves = let count = known.1.count in let below = c.place_of_home-place.ensures.within in omega arith in
    still_counted shelves p less (get_or shelves p c.index-shelves-place.result) (ap (get_or shelves p) c.index-shelves-place.is) c.args.stock.now c.place_packed.new.stock c.place_packed.new.shelf c.place_packed.ensures.held c.place_packed.ensures.supplied c.requires.counted
