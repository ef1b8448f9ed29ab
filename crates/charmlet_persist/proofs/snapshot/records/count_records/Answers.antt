use Rattle.std.proofs.Common.{◌≡◌, [], ◌∷◌, length, sym, ap, ◌∙◌, arith}
use Rattle.charmlet_model.specs.declared.names.Elem.{Elem}
use Rattle.charmlet_model.specs.declared.state.Record.{Record}
use Rattle.charmlet_world.specs.declared.element.Element.{Element}
use Rattle.charmlet_history.specs.Records.{records_from}
use Rattle.charmlet_persist.proofs.SnapshotLemmas.Lists.{records_less, records_more}
use Rattle.charmlet_persist.proofs.snapshot.records.count_records.Goals as goal

pub loop-elem-init : goal.loop-elem-init
loop-elem-init c =
    let entries = c.into_iter-elem-iterator.ensures.into_iter_gives.0 in
    record {
      count = λ state.
          let same = ap (λ es. length (records_from state es)) entries in
          omega arith;
      room = omega (arith, ap (length {A = Elem × Element}) entries);
    }

pub overflow_add-count : goal.overflow_add-count
overflow_add-count c =
    let e : Elem × Element = (c.in-Some._elem.now, c.in-Some.element.now) in
    let is : c.loop-elem._elem-iterator ≡ e ∷ c.next.new.self = c.in-Some.ensures.steps in
    let most = c.into_iter-elem-iterator.ensures.into_iter_gives.1 in
    let entries = c.into_iter-elem-iterator.ensures.into_iter_gives.0 in
    omega (arith, most, c.loop-elem.invariant.room, ap (length {A = Elem × Element}) is, ap (length {A = Elem × Element}) entries)

pub loop-elem-preserved-then-is_counted : goal.loop-elem-preserved-then-is_counted
loop-elem-preserved-then-is_counted c =
    let e : Elem × Element = (c.in-Some._elem.now, c.in-Some.element.now) in
    let is : c.loop-elem._elem-iterator ≡ e ∷ c.next.new.self = c.in-Some.ensures.steps in
    record {
      count = λ state.
          let more = ap (records_from state) is ∙ records_more state e c.next.new.self (sym c.if-is_counted.ensures) in
          omega (arith, c.loop-elem.invariant.count state, ap (length {A = Elem × Record}) more);
      room = omega (arith, c.loop-elem.invariant.room, ap (length {A = Elem × Element}) is);
    }

pub loop-elem-preserved : goal.loop-elem-preserved
loop-elem-preserved c =
    let e : Elem × Element = (c.in-Some._elem.now, c.in-Some.element.now) in
    let is : c.loop-elem._elem-iterator ≡ e ∷ c.next.new.self = c.in-Some.ensures.steps in
    record {
      count = λ state.
          let less = ap (records_from state) is ∙ records_less state e c.next.new.self (sym c.if-is_counted.ensures) in
          omega (arith, c.loop-elem.invariant.count state, ap (length {A = Elem × Record}) less);
      room = omega (arith, c.loop-elem.invariant.room, ap (length {A = Elem × Element}) is);
    }

pub returns : goal.returns
returns c = λ state.
    let is : c.loop-elem._elem-iterator ≡ [] = c.in-None.ensures.steps.0 in
    let none : length (records_from state c.loop-elem._elem-iterator) ≡ 0 = ap (λ es. length (records_from state es)) is in
    omega (arith, c.loop-elem.invariant.count state, none)
