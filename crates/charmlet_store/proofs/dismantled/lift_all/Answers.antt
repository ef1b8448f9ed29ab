use Rattle.std.proofs.Common.{◌≡◌, ℕ, ◌∷◌, length, sym, ap, subst, ◌∙◌, arith}
use Rattle.std.specs.Vec.{vec_len}
use Rattle.charmlet_model.specs.declared.names.Elem.{Elem}
use Rattle.charmlet_model.specs.Core.{present}
use Rattle.charmlet_history.specs.Kept.{core_in}
use Rattle.charmlet_store.proofs.Lifting.{IsTaken, next_on_shelf, next_taken, none_taken}
use Rattle.charmlet_store.proofs.dismantled.lift_all.Goals as goal

pub loop-elem-init : goal.loop-elem-init
loop-elem-init g c =
    let history = c.args.history.now in
    let entries : c.into_iter-elem-iterator.result ≡ (core_in history).places = c.into_iter-elem-iterator.ensures.into_iter_gives.0 ∙ c.requires.places in
    let none : vec_len c.args.residents.now ≡ 0 = c.args.residents.now.ok.0 ∙ ap length c.requires.empty in
    let as_many : length c.into_iter-elem-iterator.result ≡ length (core_in history).places = ap (length {A = Elem × ℕ}) entries in
    record {
      taken = subst (λ es. IsTaken g.C.Chare.state (present (core_in history)) (core_in history).places es c.args.shelves.now c.args.residents.now.items) (sym entries)
          (none_taken g.C.Chare.state history c.args.shelves.now c.facts.ensures c.requires.count c.requires.idle c.requires.shows c.args.residents.now.items c.requires.empty);
      room = omega (arith, c.requires.room);
    }

pub lift_from-resident-requires-clause-here : goal.lift_from-resident-requires-clause-here
lift_from-resident-requires-clause-here g c κs within =
    let core = core_in c.args.history.now in
    let x = c.in-Some.elem.now in
    let place = c.in-Some.place.now in
    let is : c.loop-elem.elem-iterator ≡ (x, place) ∷ c.next.new.self = c.in-Some.ensures.steps in
    next_on_shelf g.C.Chare.state (present core) core.places c.loop-elem.elem-iterator c.loop-elem.shelves c.loop-elem.residents.items c.loop-elem.invariant.taken x place c.next.new.self is

pub loop-elem-preserved : goal.loop-elem-preserved
loop-elem-preserved g c =
    let core = core_in c.args.history.now in
    let x = c.in-Some.elem.now in
    let place = c.in-Some.place.now in
    let rest = c.next.new.self in
    let is : c.loop-elem.elem-iterator ≡ (x, place) ∷ rest = c.in-Some.ensures.steps in
    let fewer = ap (length {A = Elem × ℕ}) is in
    record {
      taken = next_taken g.C.Chare.state (present core) core.places c.loop-elem.elem-iterator c.loop-elem.shelves c.loop-elem.residents.items c.loop-elem.invariant.taken x place rest is
          c.lift_from-resident.result c.lift_from-resident.ensures.record c.lift_from-resident.new.shelves c.push_within.new.residents.items c.lift_from-resident.ensures.rest c.push_within.ensures.items;
      room = omega (arith, c.loop-elem.invariant.room, c.push_within.ensures.len, c.push_within.ensures.capacity);
    }
