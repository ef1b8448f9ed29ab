use Rattle.std.proofs.Common.{◌≡◌, ap, ◌∙◌}
use Rattle.charmlet_shelf.specs.Due.{record_after}
use Rattle.charmlet_shelf.specs.Shelf.{View, with_record}
use Rattle.charmlet_shelf.specs.declared.phase.Phase.TheVariants.{Assigned, Idle}
use Rattle.charmlet_migrate.proofs.Counting.{still_within}
use Rattle.charmlet_shard.specs.Receiving.{due_for, element_on, seen_record}
use Rattle.charmlet_shard.proofs.Received.{reacts}
use Rattle.charmlet_shard.proofs.receivers.receive.Goals as goal

pub perform-requires-clause-assigned : goal.perform-requires-clause-assigned
perform-requires-clause-assigned g c κs within =
    let due = due_for c.args.kind_version c.args.shelf.now.records c.args.receiver c.args.message in (
      due,
      ap (λ (v : View). v.phase) c.in_ok-assign.ensures.ok,
      reacts c.args.kind_version c.args.message.to (seen_record c.args.shelf.now.records c.args.message.to c.args.receiver) c.args.message.entry c.args.message.words c.requires.takes,
    )

pub perform-requires-clause-supply : goal.perform-requires-clause-supply
perform-requires-clause-supply g c κs within = still_within c.args.shelf.now c.assign.new.shelf c.args.stock.now c.assign.new.stock c.assign.ensures.held c.assign.ensures.supplied c.requires.supply

pub returns-in-Ok-clause-ok : goal.returns-in-Ok-clause-ok
returns-in-Ok-clause-ok g c =
    let due = due_for c.args.kind_version c.args.shelf.now.records c.args.receiver c.args.message in
    let assigned : c.assign.new.shelf ≡ record c.args.shelf.now { phase = Assigned due } = c.in_ok-assign.ensures.ok in
    let done = c.in-Ok.ensures.ok due (ap (λ (v : View). v.phase) assigned) in
    let settled = done.0 in (
      record {
        shelf = settled.shelf ∙ ap (λ (v : View). record v { records = with_record v.records due.message.to (record_after due); phase = Idle }) assigned;
        element_is = settled.element_is ∙ ap (λ (v : View). element_on v.number (record_after due)) assigned;
      },
      done.1,
    )
