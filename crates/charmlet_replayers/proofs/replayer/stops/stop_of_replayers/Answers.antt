use Rattle.std.proofs.Common.{◌≡◌, length, sym, ap, ◌∙◌, arith}
use Rattle.std.specs.Prelude.{Some}
use Rattle.charmlet_record.specs.declared.reader.Fault.{Fault}
use Rattle.charmlet_replayers.specs.Replayer.Workers.{left_in}
use Rattle.charmlet_replayers.proofs.ReplayerLemmas.StopLoop.{at_end, at_item, one_further, same_fault, up_to_none}
use Rattle.charmlet_replayers.proofs.replayer.stops.stop_of_replayers.Goals as goal

pub loop-replayer-init : goal.loop-replayer-init
loop-replayer-init g c = up_to_none c.args.replayers.now

pub loop-replayer-preserved : goal.loop-replayer-preserved
loop-replayer-preserved g c =
    let replayers = c.args.replayers.now in
    let i = c.loop-replayer.replayer-index in
    one_further replayers i c.loop-replayer.first c.in_ok-first.first c.replayer-item.result c.loop-replayer.invariant (at_item replayers i c.replayer-item.result c.loop-replayer-test.true c.replayer-item.is) c.in_ok-first.ensures.0 c.in_ok-first.ensures.1

pub returns-in-Some-clause-fault : goal.returns-in-Some-clause-fault
returns-in-Some-clause-fault g c = λ fault is.
    let replayers = c.args.replayers.now in
    let i = c.loop-replayer.replayer-index in
    let low = c.loop-replayer-test.false in
    let high = c.loop-replayer.auto.replayer-index-end in
    let end : i ≡ length replayers = omega (arith, low, high) in
    let up = at_end replayers i c.loop-replayer.first c.loop-replayer.invariant end in
    let same : c.in-Some.fault ≡ fault = same_fault c.in-Some.fault fault is in
    (sym up.0 ∙ ap left_in c.in-Some.is ∙ ap (λ (f : Fault). Some f.bytes_left) same, up.1)

pub returns-in-None-clause-ok : goal.returns-in-None-clause-ok
returns-in-None-clause-ok g c =
    let replayers = c.args.replayers.now in
    let i = c.loop-replayer.replayer-index in
    let low = c.loop-replayer-test.false in
    let high = c.loop-replayer.auto.replayer-index-end in
    let end : i ≡ length replayers = omega (arith, low, high) in
    let up = at_end replayers i c.loop-replayer.first c.loop-replayer.invariant end in
    (sym up.0 ∙ ap left_in c.in-None.is, up.1)
