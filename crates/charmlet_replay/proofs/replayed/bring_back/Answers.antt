use Rattle.std.proofs.Common.{◌≡◌, ◌+◌, List, map, arith}
use Rattle.charmlet_model.specs.declared.names.Elem.{Elem}
use Rattle.charmlet_model.specs.declared.kind.Kind.{Kind}
use Rattle.charmlet_model.specs.declared.state.Record.{Record}
use Rattle.charmlet_image.specs.Positioned.{items_of}
use Rattle.charmlet_image.specs.Views.{entry_said}
use Rattle.charmlet_recovery.specs.Blanks.{made_by_catch_up, wanted_by_records}
use Rattle.charmlet_stock.specs.Stock.{blanks_in}
use Rattle.charmlet_shard.proofs.Results.{ok_then}
use Rattle.charmlet_replay.proofs.Whole.{parts_have_blanks, parts_stay_good}
use Rattle.charmlet_replay.proofs.replayed.bring_back.Goals as goal

pub catch_up-requires-clause-restored : goal.catch_up-requires-clause-restored
catch_up-requires-clause-restored g c κs within =
    let manifest = c.args.manifest.now in
    let records : List (Elem × Record) = map (entry_said manifest) c.args.entries.now in
    let deliveries = items_of c.args.caught_up.items in
    let given = blanks_in c.args.restored.now.stock in (
      records,
      c.in_ok-restore_all.ensures.ok,
      parts_stay_good manifest records deliveries given c.requires.image,
      parts_have_blanks manifest records deliveries given c.requires.image (blanks_in c.restore_all.new.self.stock) c.in_ok-restore_all.ensures.blanks,
    )

pub returns-clause-ok : goal.returns-clause-ok
returns-clause-ok g c =
    let manifest = c.args.manifest.now in
    let records : List (Elem × Record) = map (entry_said manifest) c.args.entries.now in
    let deliveries = items_of c.args.caught_up.items in
    let given = blanks_in c.args.restored.now.stock in
    c.catch_up.ensures.ok records c.in_ok-restore_all.ensures.ok (parts_stay_good manifest records deliveries given c.requires.image)
    (parts_have_blanks manifest records deliveries given c.requires.image (blanks_in c.restore_all.new.self.stock) c.in_ok-restore_all.ensures.blanks)

pub returns-clause-blanks : goal.returns-clause-blanks
returns-clause-blanks g c =
    let manifest = c.args.manifest.now in
    let records : List (Elem × Record) = map (entry_said manifest) c.args.entries.now in
    let deliveries = items_of c.args.caught_up.items in
    let given = blanks_in c.args.restored.now.stock in
    let last = blanks_in c.catch_up.new.self.stock in
    ok_then
    ((kind : Kind) → last kind + made_by_catch_up manifest kind records deliveries ≡ blanks_in c.restore_all.new.self.stock kind)
    ((kind : Kind) → last kind + wanted_by_records manifest kind records + made_by_catch_up manifest kind records deliveries ≡ given kind)
    c.catch_up.result
    (λ taken kind. let one = taken kind in let before = c.in_ok-restore_all.ensures.blanks kind in omega arith)
    (c.catch_up.ensures.blanks records c.in_ok-restore_all.ensures.ok (parts_stay_good manifest records deliveries given c.requires.image)
    (parts_have_blanks manifest records deliveries given c.requires.image (blanks_in c.restore_all.new.self.stock) c.in_ok-restore_all.ensures.blanks))

pub returns-clause-fault : goal.returns-clause-fault
returns-clause-fault g c =
    let manifest = c.args.manifest.now in
    let records : List (Elem × Record) = map (entry_said manifest) c.args.entries.now in
    let deliveries = items_of c.args.caught_up.items in
    let given = blanks_in c.args.restored.now.stock in
    c.catch_up.ensures.fault records c.in_ok-restore_all.ensures.ok (parts_stay_good manifest records deliveries given c.requires.image)
    (parts_have_blanks manifest records deliveries given c.requires.image (blanks_in c.restore_all.new.self.stock) c.in_ok-restore_all.ensures.blanks)
