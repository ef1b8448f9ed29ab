use Rattle.std.proofs.Common.{List, refl, sym, subst}
use Rattle.charmlet_model.specs.declared.logged.CatchUpEntry.{CatchUpEntry}
use Rattle.charmlet_record.specs.Written.{IsCaughtUp}
use Rattle.charmlet_image.specs.Positioned.{items_of}
use Rattle.charmlet_parallel_replay.proofs.ImageLemmas.Keeping.{keeps_same, keeps_then, rest_then}
use Rattle.charmlet_parallel_replay.proofs.ImageLemmas.Counted.{DrawnSoFar, all_given, all_own, begins, next_drawn, next_enough, none_left, typed_at}
use Rattle.charmlet_parallel_replay.proofs.image.counts.draw_for_all.Goals as goal

pub loop-placed-init : goal.loop-placed-init
loop-placed-init g c =
    let ds : List CatchUpEntry = items_of c.args.deliveries.now in
    record {
      keeps = keeps_same c.args.stock.now c.args.restored.now c.requires.held;
      rest = refl;
      drawn = λ records are.
          subst (λ es. DrawnSoFar c.args.manifest.now records ds ds c.args.stock.now c.args.restored.now es c.args.stock.now c.args.restored.now) (sym c.new-counts.ensures.empty)
          (begins c.args.manifest.now records ds c.args.stock.now c.args.restored.now are);
    }

pub draw_for_one-requires-clause-typed : goal.draw_for_one-requires-clause-typed
draw_for_one-requires-clause-typed g c κs within =
    typed_at (IsCaughtUp c.args.manifest.now) c.args.deliveries.now c.loop-placed.placed-index c.placed-item.result c.loop-placed-test.true c.placed-item.is c.requires.typed

pub draw_for_one-requires-clause-enough : goal.draw_for_one-requires-clause-enough
draw_for_one-requires-clause-enough g c κs within =
    let its = c.requires.enough in
    next_enough c.args.manifest.now its.0 c.args.deliveries.now c.args.stock.now c.args.restored.now c.loop-placed.placed-index c.placed-item.result c.loop-placed-test.true c.placed-item.is c.loop-placed.counts.entries
    c.loop-placed.stock c.loop-placed.restored c.loop-placed.invariant.rest (c.loop-placed.invariant.drawn its.0 its.1) its.2

pub loop-placed-preserved : goal.loop-placed-preserved
loop-placed-preserved g c =
    let old = c.args.restored.now in
    record {
      keeps = keeps_then c.args.stock.now c.loop-placed.stock c.draw_for_one.new.stock old c.loop-placed.restored c.draw_for_one.new.restored c.loop-placed.invariant.keeps c.draw_for_one.ensures.keeps;
      rest = rest_then old c.loop-placed.restored c.draw_for_one.new.restored c.loop-placed.invariant.rest c.draw_for_one.ensures.rest;
      drawn = λ records are.
          next_drawn c.args.manifest.now records c.args.deliveries.now c.args.stock.now old c.loop-placed.placed-index c.placed-item.result c.loop-placed-test.true c.placed-item.is c.loop-placed.counts.entries
          c.loop-placed.stock c.loop-placed.restored c.loop-placed.invariant.rest (c.loop-placed.invariant.drawn records are) c.draw_for_one.new.counts.entries c.draw_for_one.new.stock c.draw_for_one.new.restored
          c.in_ok-draw_for_one.ensures.counted c.in_ok-draw_for_one.ensures.own c.in_ok-draw_for_one.ensures.given;
    }

pub returns-in_err-draw_for_one-clause-keeps : goal.returns-in_err-draw_for_one-clause-keeps
returns-in_err-draw_for_one-clause-keeps g c =
    keeps_then c.args.stock.now c.loop-placed.stock c.draw_for_one.new.stock c.args.restored.now c.loop-placed.restored c.draw_for_one.new.restored c.loop-placed.invariant.keeps c.draw_for_one.ensures.keeps

pub returns-in_err-draw_for_one-clause-rest : goal.returns-in_err-draw_for_one-clause-rest
returns-in_err-draw_for_one-clause-rest g c = rest_then c.args.restored.now c.loop-placed.restored c.draw_for_one.new.restored c.loop-placed.invariant.rest c.draw_for_one.ensures.rest

pub returns-clause-own : goal.returns-clause-own
returns-clause-own g c = λ records are.
    let ds = c.args.deliveries.now in
    let so_far = subst (λ ls. DrawnSoFar c.args.manifest.now records (items_of ds) ls c.args.stock.now c.args.restored.now c.loop-placed.counts.entries c.loop-placed.stock c.loop-placed.restored) (none_left ds c.loop-placed.placed-index c.loop-placed-test.false) (c.loop-placed.invariant.drawn records are) in
    all_own c.args.manifest.now records (items_of ds) c.args.stock.now c.args.restored.now c.loop-placed.counts.entries c.loop-placed.stock c.loop-placed.restored so_far

pub returns-clause-given : goal.returns-clause-given
returns-clause-given g c = λ records are.
    let ds = c.args.deliveries.now in
    let so_far = subst (λ ls. DrawnSoFar c.args.manifest.now records (items_of ds) ls c.args.stock.now c.args.restored.now c.loop-placed.counts.entries c.loop-placed.stock c.loop-placed.restored) (none_left ds c.loop-placed.placed-index c.loop-placed-test.false) (c.loop-placed.invariant.drawn records are) in
    all_given c.args.manifest.now records (items_of ds) c.args.stock.now c.args.restored.now c.loop-placed.counts.entries c.loop-placed.stock c.loop-placed.restored so_far
