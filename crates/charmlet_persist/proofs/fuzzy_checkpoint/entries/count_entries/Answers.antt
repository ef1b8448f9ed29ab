use Rattle.std.proofs.Common.{◌≡◌, [], ◌∷◌, length, sym, ap, ◌∙◌, arith}
use Rattle.std.specs.Prelude.{Option}
use Rattle.charmlet_model.specs.declared.names.Elem.{Elem}
use Rattle.charmlet_persist.specs.declared.fuzzy_checkpoint.captured_element.CapturedElement.{CapturedElement}
use Rattle.charmlet_persist.specs.FuzzyCheckpoint.Sealing.{count_kept}
use Rattle.charmlet_persist.proofs.FuzzyCheckpointLemmas.Tables.{counted_less, counted_more}
use Rattle.charmlet_persist.proofs.fuzzy_checkpoint.entries.count_entries.Goals as goal

pub loop-elem-init : goal.loop-elem-init
loop-elem-init c =
    let entries = c.into_iter-elem-iterator.ensures.into_iter_gives.0 in
    record {
      count = omega (arith, ap count_kept entries);
      room = omega (arith, ap (length {A = Elem × Option CapturedElement}) entries);
    }

pub overflow_add-count : goal.overflow_add-count
overflow_add-count c =
    let e : Elem × Option CapturedElement = (c.in-Some._elem.now, c.in-Some.captured.now) in
    let is : c.loop-elem._elem-iterator ≡ e ∷ c.next.new.self = c.in-Some.ensures.steps in
    let most = c.into_iter-elem-iterator.ensures.into_iter_gives.1 in
    let entries = c.into_iter-elem-iterator.ensures.into_iter_gives.0 in
    omega (arith, most, c.loop-elem.invariant.room, ap (length {A = Elem × Option CapturedElement}) is, ap (length {A = Elem × Option CapturedElement}) entries)

pub loop-elem-preserved-then-is_counted : goal.loop-elem-preserved-then-is_counted
loop-elem-preserved-then-is_counted c =
    let e : Elem × Option CapturedElement = (c.in-Some._elem.now, c.in-Some.captured.now) in
    let is : c.loop-elem._elem-iterator ≡ e ∷ c.next.new.self = c.in-Some.ensures.steps in
    record {
      count =
          let more = ap count_kept is ∙ counted_more e.1 (count_kept c.next.new.self) (sym c.if-is_counted.ensures) in
          omega (arith, c.loop-elem.invariant.count, more);
      room = omega (arith, c.loop-elem.invariant.room, ap (length {A = Elem × Option CapturedElement}) is);
    }

pub loop-elem-preserved : goal.loop-elem-preserved
loop-elem-preserved c =
    let e : Elem × Option CapturedElement = (c.in-Some._elem.now, c.in-Some.captured.now) in
    let is : c.loop-elem._elem-iterator ≡ e ∷ c.next.new.self = c.in-Some.ensures.steps in
    record {
      count =
          let less = ap count_kept is ∙ counted_less e.1 (count_kept c.next.new.self) (sym c.if-is_counted.ensures) in
          omega (arith, c.loop-elem.invariant.count, less);
      room = omega (arith, c.loop-elem.invariant.room, ap (length {A = Elem × Option CapturedElement}) is);
    }

pub returns : goal.returns
returns c =
    let is : c.loop-elem._elem-iterator ≡ [] = c.in-None.ensures.steps.0 in
    omega (arith, c.loop-elem.invariant.count, ap count_kept is)
