use Rattle.std.proofs.Common.{arith, refl, ◌∙◌, length}
use Rattle.std.proofs.lemmas.Option.{slice_get_read, slice_get_within}
use Rattle.charmlet_ready_queue.proofs.IndexLemmas.Sets.{HasMore, below_stays, index_stays, length_set, room_stays, wanted_more}
use Rattle.charmlet_ready_queue.proofs.index.index.reserve_each.Goals as goal

pub returns-in_err-reserve-clause-index : goal.returns-in_err-reserve-clause-index
returns-in_err-reserve-clause-index c = λ seq_nos place is.
    let lists = c.loop-on.lists.items in
    let old = c.index_mut.result.now in
    let at = slice_get_read lists (length lists) c.loop-on.on old refl (grind arith) c.index_mut.ensures.value in
    let e = c.reserve.ensures in
    index_stays seq_nos place lists c.loop-on.on old c.reserve.new.self at (record { ready = e.ready; waiting = e.waiting; away = e.away; ready_capacity = e.ready_capacity; waiting_capacity = e.waiting_capacity }) (c.loop-on.invariant.index seq_nos place is)

pub returns-in_err-reserve-clause-roomy : goal.returns-in_err-reserve-clause-roomy
returns-in_err-reserve-clause-roomy c =
    let lists = c.loop-on.lists.items in
    let old = c.index_mut.result.now in
    let at = slice_get_read lists (length lists) c.loop-on.on old refl (grind arith) c.index_mut.ensures.value in
    let e = c.reserve.ensures in
    room_stays c.args.headroom lists c.loop-on.on old c.reserve.new.self at (record { ready = e.ready; waiting = e.waiting; away = e.away; ready_capacity = e.ready_capacity; waiting_capacity = e.waiting_capacity }) c.loop-on.invariant.roomy

pub returns-in_err-reserve-clause-below : goal.returns-in_err-reserve-clause-below
returns-in_err-reserve-clause-below c = λ n is.
    let lists = c.loop-on.lists.items in
    let old = c.index_mut.result.now in
    let at = slice_get_read lists (length lists) c.loop-on.on old refl (grind arith) c.index_mut.ensures.value in
    let e = c.reserve.ensures in
    below_stays n lists c.loop-on.on old c.reserve.new.self at (record { ready = e.ready; waiting = e.waiting; away = e.away; ready_capacity = e.ready_capacity; waiting_capacity = e.waiting_capacity }) (c.loop-on.invariant.below n is)

pub loop-on-preserved : goal.loop-on-preserved
loop-on-preserved c =
    let lists = c.loop-on.lists.items in
    let on = c.loop-on.on in
    let old = c.index_mut.result.now in
    let new = c.reserve.new.self in
    let at = slice_get_read lists (length lists) on old refl (grind arith) c.index_mut.ensures.value in
    let e = c.reserve.ensures in
    let more : HasMore old new = record { ready = e.ready; waiting = e.waiting; away = e.away; ready_capacity = e.ready_capacity; waiting_capacity = e.waiting_capacity } in
    record {
      index = λ seq_nos place is. index_stays seq_nos place lists on old new at more (c.loop-on.invariant.index seq_nos place is);
      len = length_set lists on new ∙ c.loop-on.invariant.len;
      roomy = room_stays c.args.headroom lists on old new at more c.loop-on.invariant.roomy;
      below = λ n is. below_stays n lists on old new at more (c.loop-on.invariant.below n is);
      wanted = wanted_more c.args.wanted lists on new c.in_ok-reserve.ensures.ok c.loop-on.invariant.wanted;
    }

pub returns-clause-ok : goal.returns-clause-ok
returns-clause-ok c = λ p l there.
    let within = slice_get_within c.loop-on.lists.items p l there in
    c.loop-on.invariant.wanted p l (grind (arith, within)) there
