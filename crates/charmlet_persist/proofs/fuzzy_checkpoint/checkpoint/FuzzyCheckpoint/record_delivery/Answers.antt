use Rattle.std.proofs.Common.{◌≡◌, ℕ, ◌+◌, ◌-◌, ◌++◌, ◌≤◌, length, sym, ap, ◌∙◌, arith, rules, length-append}
use Rattle.std.proofs.lemmas.List.{length-drop}
use Rattle.std.specs.Prelude.{Some, vec_len}
use Rattle.charmlet_model.specs.declared.message.Message.{Message}
use Rattle.charmlet_model.specs.declared.logged.CatchUpEntry.{CatchUpEntry}
use Rattle.charmlet_model.specs.Spelling.{spell_caught_up}
use Rattle.charmlet_history.specs.Kept.{assigned_message, core_in}
use Rattle.charmlet_world.specs.Waiting.{message_of}
use Rattle.charmlet_shelf.specs.Risen.{risen}
use Rattle.charmlet_persist.specs.FuzzyCheckpoint.Checkpoint.{Run, events_since, with_delivery, world_before}
use Rattle.charmlet_persist.proofs.FuzzyCheckpointLemmas.Notes.{caught_size, deliveries_few, few_words, noted_is, sent_fits}
use Rattle.charmlet_persist.proofs.FuzzyCheckpointLemmas.Steps.{few}
use Rattle.charmlet_persist.proofs.fuzzy_checkpoint.checkpoint.FuzzyCheckpoint.record_delivery.Goals as goal

pub write_delivery-requires-clause-few : goal.write_delivery-requires-clause-few
write_delivery-requires-clause-few c =
    let m : Message = message_of c.in-Some.id c.in-Some.pending_message.now in
    let has : assigned_message (core_in c.args.history.now) c.args.processor ≡ Some m = sym c.in-Some.ensures in
    few_words c.args.history.now c.facts.ensures c.args.processor c.args.output.now c.requires.output m has

pub write_delivery-requires-clause-room : goal.write_delivery-requires-clause-room
write_delivery-requires-clause-room c =
    let m : Message = message_of c.in-Some.id c.in-Some.pending_message.now in
    let delivery : CatchUpEntry = record { message = m; received = c.element-receiver.result.received + 1; effect = c.effect_of-effect.result } in
    let has : assigned_message (core_in c.args.history.now) c.args.processor ≡ Some m = sym c.in-Some.ensures in
    let most = caught_size delivery (few_words c.args.history.now c.facts.ensures c.args.processor c.args.output.now c.requires.output m has) in
    let room : 1 ≤ c.self.inside.room = omega (arith, c.requires.room, ap (λ (r : Run). r.room) c.self.view_is) in
    omega (arith, most, room, c.self.invariant.1)

pub capture-requires-clause-sent : goal.capture-requires-clause-sent
capture-requires-clause-sent c =
    let m : Message = message_of c.in-Some.id c.in-Some.pending_message.now in
    let has : assigned_message (core_in c.args.history.now) c.args.processor ≡ Some m = sym c.in-Some.ensures in
    sent_fits c.args.history.now c.facts.ensures c.args.processor c.args.output.now c.requires.output m has c.element-receiver.result c.element-receiver.ensures

pub overflow_add-self : goal.overflow_add-self
overflow_add-self c =
    let core = core_in c.args.history.now in
    let run : Run = c.args.self.now in
    let is = c.requires.running in
    let many = deliveries_few (world_before core run) (events_since core run) in
    let within = few core run is in
    let limit = c.facts.ensures.sound.legal.in_limit in
    let count : c.self.inside.count ≡ run.count = ap (λ (r : Run). r.count) c.self.view_is in
    omega (arith, count, is.from.count, many, within, limit, length-drop (run.begun - core.before) core.history)

pub invariant_of-self : goal.invariant_of-self
invariant_of-self c =
    let m : Message = message_of c.in-Some.id c.in-Some.pending_message.now in
    let delivery : CatchUpEntry = record { message = m; received = c.element-receiver.result.received + 1; effect = c.effect_of-effect.result } in
    let has : assigned_message (core_in c.args.history.now) c.args.processor ≡ Some m = sym c.in-Some.ensures in
    let most = caught_size delivery (few_words c.args.history.now c.facts.ensures c.args.processor c.args.output.now c.requires.output m has) in
    let room : 1 ≤ c.self.inside.room = omega (arith, c.requires.room, ap (λ (r : Run). r.room) c.self.view_is) in
    let old : vec_len c.self.inside.caught_up ≡ length c.self.inside.caught_up.items = search rules in
    let new : vec_len c.write_delivery.new.out ≡ length c.write_delivery.new.out.items = search rules in
    let longer : length c.write_delivery.new.out.items ≡ length (c.self.inside.caught_up.items ++ spell_caught_up delivery) = ap (length {A = ℕ}) c.write_delivery.ensures.bytes in
    let sum = length-append c.self.inside.caught_up.items (spell_caught_up delivery) in (
      omega (arith, c.capture.ensures.room, c.self.invariant.0, room),
      omega (arith, most, room, old, new, longer, sum, c.write_delivery.ensures.capacity, c.self.invariant.1),
    )

pub returns : goal.returns
returns c =
    let m : Message = message_of c.in-Some.id c.in-Some.pending_message.now in
    let has : assigned_message (core_in c.args.history.now) c.args.processor ≡ Some m = sym c.in-Some.ensures in
    let inside = c.self.inside in
    let run : Run = record { begun = inside.begun; captured = risen inside.captured.entries; caught_up = inside.caught_up.items; count = inside.count; room = inside.room } in
    noted_is c.args.history.now c.facts.ensures c.args.processor c.args.output.now c.requires.output m has c.element-receiver.result c.element-receiver.ensures
    run (risen c.capture.new.table.entries) c.write_delivery.new.out.items c.effect_of-effect.result c.capture.ensures.captured c.effect_of-effect.ensures c.write_delivery.ensures.bytes
    ∙ ap (with_delivery (core_in c.args.history.now) c.args.processor) c.self.view_is
