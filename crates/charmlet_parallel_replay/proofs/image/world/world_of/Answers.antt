use Rattle.std.proofs.Common.{rules, ◌≡◌, List, ap, subst, sym, ◌∙◌}
use Rattle.std.specs.Prelude.{Err}
use Rattle.charmlet_model.specs.Fit.{AreDistinct}
use Rattle.charmlet_record.specs.declared.reader.ReadError.TheVariants.{Damaged}
use Rattle.charmlet_image.specs.Positioned.{items_of}
use Rattle.charmlet_parallel_replay.specs.Image.ImageRestored.{world_with}
use Rattle.charmlet_parallel_replay.proofs.ImageLemmas.Worlds.{are_counted, shows_world}
use Rattle.charmlet_parallel_replay.proofs.image.world.world_of.Goals as goal

pub of-requires-clause-distinct : goal.of-requires-clause-distinct
of-requires-clause-distinct c = subst AreDistinct (sym c.in_ok-waiting.ensures.pending) c.requires.distinct

pub returns-in_err-waiting-clause-fault : goal.returns-in_err-waiting-clause-fault
returns-in_err-waiting-clause-fault c = λ records are fault is.
    let kinds = c.args.manifest.now in
    let pending = items_of c.args.pending.items in
    let failed : c.waiting_of.result ≡ Err (Damaged fault) = search rules in
    c.waiting_of.ensures.fault (world_with kinds records pending c.args.rows.items) (are_counted kinds c.args.processors c.args.elements.entries records pending c.args.rows.items are) fault failed

pub returns-clause-shows : goal.returns-clause-shows
returns-clause-shows c = λ records are.
    let kinds = c.args.manifest.now in
    let pending = items_of c.args.pending.items in
    let same = c.in_ok-manifest.ensures in
    let waits = c.in_ok-waiting.ensures in
    shows_world kinds c.args.processors c.args.elements.entries records pending c.args.rows.items are c.in_ok-world.world
    (c.in_ok-world.ensures ∙ (λ i. record { manifest = same i; processors = c.args.processors; elements = c.args.elements.entries; pending = waits.pending i; clients = waits.clients i }))

pub returns-clause-ok : goal.returns-clause-ok
returns-clause-ok c = λ records are.
    let kinds = c.args.manifest.now in
    let pending = items_of c.args.pending.items in
    c.in_ok-waiting.ensures.ok (world_with kinds records pending c.args.rows.items) (are_counted kinds c.args.processors c.args.elements.entries records pending c.args.rows.items are)
