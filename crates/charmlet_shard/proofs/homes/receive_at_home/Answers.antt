use Rattle.std.proofs.Common.{◌≡◌, ◌<◌, length, sym, ap, ◌∙◌, arith}
use Rattle.std.specs.Prelude.{get_or, slice_set}
use Rattle.charmlet_recovery.specs.Faults.{takes}
use Rattle.charmlet_chare.specs.declared.output.Output.{Output}
use Rattle.charmlet_world.specs.declared.element.Element.{Element}
use Rattle.charmlet_shard.specs.Receiving.{IsOutputAt, IsOutputOf, IsReceivedAt, IsSettledAs, due_for}
use Rattle.charmlet_shard.proofs.AtHome.{idle_here, still_counted}
use Rattle.charmlet_shard.proofs.Received.{is_seen, received_at, seen_is}
use Rattle.charmlet_shard.proofs.ReactedAtHome.{is_own}
use Rattle.charmlet_shard.proofs.Results.{value_then}
use Rattle.charmlet_shard.proofs.homes.receive_at_home.Goals as goal

pub receive-requires-clause-seen : goal.receive-requires-clause-seen
receive-requires-clause-seen g c κs within =
    let shelves = c.args.shelves.now in
    let p = c.place_of_home-place.result in
    let known = c.requires.known in
    let less : p < length shelves = let count = known.1.count in let below = c.place_of_home-place.ensures.within in omega arith in
    is_seen c.args.processors known.0 shelves known.1 p less (get_or shelves p c.index-shelves-place.result) (ap (get_or shelves p) c.index-shelves-place.is)
    c.args.kind_version c.args.message.to (sym c.place_of_home-place.ensures.home) c.args.receiver known.2

pub receive-requires-clause-takes : goal.receive-requires-clause-takes
receive-requires-clause-takes g c κs within =
    let shelves = c.args.shelves.now in
    let p = c.place_of_home-place.result in
    let known = c.requires.known in
    let less : p < length shelves = let count = known.1.count in let below = c.place_of_home-place.ensures.within in omega arith in
    ap (λ r. takes r c.args.message.entry) (seen_is c.args.processors known.0 shelves known.1 p less (get_or shelves p c.index-shelves-place.result) (ap (get_or shelves p) c.index-shelves-place.is)
    c.args.kind_version c.args.message.to (sym c.place_of_home-place.ensures.home) c.args.receiver known.2)
    ∙ known.3

pub returns-clause-ok : goal.returns-clause-ok
returns-clause-ok g c = λ records are known can.
    let shelves = c.args.shelves.now in
    let p = c.place_of_home-place.result in
    let less : p < length shelves = let count = are.count in let below = c.place_of_home-place.ensures.within in omega arith in
    let old = get_or shelves p c.index-shelves-place.result in
    let is : old ≡ get_or shelves p old = ap (get_or shelves p) c.index-shelves-place.is in
    let new = c.receive.new.shelf in
    let m = c.args.message in
    let due = due_for c.args.kind_version old.records c.args.receiver m in
    let own = is_own c.args.processors records shelves are p less old is c.args.kind_version m (sym c.place_of_home-place.ensures.home) c.args.receiver known in
    value_then (λ (done : Element × Output). IsSettledAs old due new done.0 × IsOutputOf due done.1)
    (λ (done : Element × Output). IsReceivedAt c.args.processors c.args.kind_version records m (slice_set shelves p new) done.0 × IsOutputAt c.args.kind_version records m done.1) c.receive.result
    (λ done made. (
      received_at c.args.processors records shelves are p less old is c.args.kind_version m (sym c.place_of_home-place.ensures.home) c.args.receiver known can new done.0 (idle_here shelves p less old is are.idle) made.0,
      own done.1 made.1,
    ))
    c.receive.ensures.ok

pub returns-clause-counted : goal.returns-clause-counted
returns-clause-counted g c =
    let shelves = c.args.shelves.now in
    let p = c.place_of_home-place.result in
    let known = c.requires.known in
    let less : p < length shelves = let count = known.1.count in let below = c.place_of_home-place.ensures.within in omega arith in
    still_counted shelves p less (get_or shelves p c.index-shelves-place.result) (ap (get_or shelves p) c.index-shelves-place.is) c.args.stock.now c.receive.new.stock c.receive.new.shelf c.receive.ensures.held c.receive.ensures.supplied c.requires.counted
