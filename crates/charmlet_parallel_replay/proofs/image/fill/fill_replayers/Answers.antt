use Rattle.std.proofs.Common.{rules, ◌≡◌, ◌+◌, ◌<◌, ℕ, List, length, get_or, map, refl, sym, ap, subst, ◌∙◌, arith}
use Rattle.charmlet_model.specs.declared.logged.CatchUpEntry.{CatchUpEntry}
use Rattle.charmlet_record.specs.declared.positioned.Positioned.{Positioned}
use Rattle.charmlet_image.specs.Views.{entry_said}
use Rattle.charmlet_stock.specs.Stock.{blanks_in}
use Rattle.charmlet_replayers.proofs.DispatchLemmas.ReplayerLists.{keeps_same, keeps_then}
use Rattle.charmlet_parallel_replay.proofs.ImageLemmas.Filled.{all_filled, begins, can_fill, enough_own, keeps_all, one_filled, typed_own}
use Rattle.charmlet_parallel_replay.proofs.image.fill.fill_replayers.Goals as goal

pub loop-worker-init : goal.loop-worker-init
loop-worker-init g c =
    let records = map (entry_said c.args.manifest.now) c.args.entries.now in
    let can = c.requires.can in
    record {
      keeps = keeps_same c.args.stock.now c.args.replayers.now (λ v d less. (can.2.to_fill v d less).held);
      many = refl;
      so_far = λ processors ds its. begins processors c.args.manifest.now records ds c.args.stock.now c.args.replayers.now its;
    }

pub bounds-replayers-worker : goal.bounds-replayers-worker
bounds-replayers-worker g c =
    let less = c.loop-worker-test.true in
    let many = c.loop-worker.invariant.many in
    let count = c.loop-worker.invariant.keeps.count in
    omega (arith, less, many, count)

pub fill_replayer-requires-clause-some : goal.fill_replayer-requires-clause-some
fill_replayer-requires-clause-some g c κs within = let some = c.requires.some in let many = c.loop-worker.invariant.many in omega (arith, some, many)

pub fill_replayer-requires-clause-to_fill : goal.fill_replayer-requires-clause-to_fill
fill_replayer-requires-clause-to_fill g c κs within =
    let can = c.requires.can in
    let i = c.loop-worker.worker in
    let replayers = c.loop-worker.replayers in
    let less = c.loop-worker-test.true in
    let count = c.loop-worker.invariant.keeps.count in
    let inside : i < length replayers = let many = c.loop-worker.invariant.many in omega (arith, less, many, count) in
    let old = get_or replayers i c.index-replayers-worker.result in
    let is : old ≡ get_or replayers i old = ap (get_or replayers i) c.index-replayers-worker.is in
    can_fill can.0 c.args.manifest.now (map (entry_said c.args.manifest.now) c.args.entries.now) can.1 c.args.stock.now c.args.replayers.now can.2 i c.loop-worker.stock replayers (c.loop-worker.invariant.so_far can.0 can.1 can.2) inside old is

pub fill_replayer-requires-clause-typed : goal.fill_replayer-requires-clause-typed
fill_replayer-requires-clause-typed g c κs within =
    let can = c.requires.can in
    let i = c.loop-worker.worker in
    let replayers = c.loop-worker.replayers in
    let less = c.loop-worker-test.true in
    let count = c.loop-worker.invariant.keeps.count in
    let inside : i < length replayers = let many = c.loop-worker.invariant.many in omega (arith, less, many, count) in
    let old = get_or replayers i c.index-replayers-worker.result in
    let is : old ≡ get_or replayers i old = ap (get_or replayers i) c.index-replayers-worker.is in
    typed_own can.0 c.args.manifest.now (map (entry_said c.args.manifest.now) c.args.entries.now) can.1 c.args.stock.now c.args.replayers.now can.2 i c.loop-worker.stock replayers (c.loop-worker.invariant.so_far can.0 can.1 can.2) inside old is

pub fill_replayer-requires-clause-enough : goal.fill_replayer-requires-clause-enough
fill_replayer-requires-clause-enough g c κs within =
    let can = c.requires.can in
    let i = c.loop-worker.worker in
    let replayers = c.loop-worker.replayers in
    let less = c.loop-worker-test.true in
    let count = c.loop-worker.invariant.keeps.count in
    let inside : i < length replayers = let many = c.loop-worker.invariant.many in omega (arith, less, many, count) in
    let old = get_or replayers i c.index-replayers-worker.result in
    let is : old ≡ get_or replayers i old = ap (get_or replayers i) c.index-replayers-worker.is in
    enough_own can.0 c.args.manifest.now (map (entry_said c.args.manifest.now) c.args.entries.now) can.1 c.args.stock.now c.args.replayers.now can.2 i c.loop-worker.stock replayers (c.loop-worker.invariant.so_far can.0 can.1 can.2) inside old is (length c.args.replayers.now) c.loop-worker.invariant.many

pub loop-worker-preserved : goal.loop-worker-preserved
loop-worker-preserved g c =
    let i = c.loop-worker.worker in
    let replayers = c.loop-worker.replayers in
    let records = map (entry_said c.args.manifest.now) c.args.entries.now in
    let less = c.loop-worker-test.true in
    let count = c.loop-worker.invariant.keeps.count in
    let inside : i < length replayers = let many = c.loop-worker.invariant.many in omega (arith, less, many, count) in
    let old = get_or replayers i c.index-replayers-worker.result in
    let is : old ≡ get_or replayers i old = ap (get_or replayers i) c.index-replayers-worker.is in
    let new = c.fill_replayer.new.replayer in
    let before = c.loop-worker.invariant.keeps in
    record {
      keeps = keeps_then c.args.stock.now c.loop-worker.stock c.fill_replayer.new.stock c.args.replayers.now replayers _ before
          (keeps_all replayers i inside old is new c.loop-worker.stock c.fill_replayer.new.stock c.fill_replayer.ensures.keeps before.held);
      many = c.loop-worker.invariant.many;
      so_far = λ processors ds its.
          one_filled processors c.args.manifest.now records ds c.args.stock.now c.args.replayers.now its i c.loop-worker.stock replayers (c.loop-worker.invariant.so_far processors ds its) inside old is
          (length c.args.replayers.now) c.loop-worker.invariant.many c.fill_replayer.new.stock new c.fill_replayer.ensures.keeps c.fill_replayer.ensures.deliveries c.fill_replayer.ensures.tasks
          c.in_ok-fill_replayer.ensures.restored c.in_ok-fill_replayer.ensures.own c.in_ok-fill_replayer.ensures.given;
    }

pub returns-in_err-fill_replayer-clause-keeps : goal.returns-in_err-fill_replayer-clause-keeps
returns-in_err-fill_replayer-clause-keeps g c =
    let i = c.loop-worker.worker in
    let replayers = c.loop-worker.replayers in
    let less = c.loop-worker-test.true in
    let count = c.loop-worker.invariant.keeps.count in
    let inside : i < length replayers = let many = c.loop-worker.invariant.many in omega (arith, less, many, count) in
    let old = get_or replayers i c.index-replayers-worker.result in
    let is : old ≡ get_or replayers i old = ap (get_or replayers i) c.index-replayers-worker.is in
    let before = c.loop-worker.invariant.keeps in
    keeps_then c.args.stock.now c.loop-worker.stock c.fill_replayer.new.stock c.args.replayers.now replayers _ before
    (keeps_all replayers i inside old is c.fill_replayer.new.replayer c.loop-worker.stock c.fill_replayer.new.stock c.fill_replayer.ensures.keeps before.held)

pub returns-clause-ok : goal.returns-clause-ok
returns-clause-ok g c = λ processors ds its.
    let over = c.loop-worker-test.false in
    let many = c.loop-worker.invariant.many in
    let most = c.loop-worker.auto.worker-end in
    let last : c.loop-worker.worker ≡ length c.args.replayers.now = omega (arith, over, many, most) in
    all_filled processors c.args.manifest.now (map (entry_said c.args.manifest.now) c.args.entries.now) ds c.args.stock.now c.args.replayers.now its c.loop-worker.worker c.loop-worker.stock c.loop-worker.replayers last (c.loop-worker.invariant.so_far processors ds its)
