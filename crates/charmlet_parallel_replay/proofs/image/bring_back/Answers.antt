use Rattle.std.proofs.Common.{rules, ◌≡◌, List, length, map, sym, ap, subst, ◌∙◌}
use Rattle.std.specs.Prelude.{Err}
use Rattle.charmlet_image.specs.Positioned.{items_of}
use Rattle.charmlet_image.specs.Views.{entry_said}
use Rattle.charmlet_record.specs.declared.reader.ReadError.TheVariants.{Damaged}
use Rattle.charmlet_recovery.specs.Bases.{redelivered_all}
use Rattle.charmlet_replayers.specs.Dispatch.Sharing.{worker_of}
use Rattle.charmlet_parallel_replay.proofs.ImageLemmas.Brought.{are_caught_up, are_dispatched, are_parts_on, are_ready, keeps_whole}
use Rattle.charmlet_parallel_replay.proofs.image.bring_back.Goals as goal

pub catch_up_by_workers-requires-after_bounds : goal.catch_up_by_workers-requires-after_bounds
catch_up_by_workers-requires-after_bounds g c κs within =
    are_ready c.args.processors c.args.manifest.now (map (entry_said c.args.manifest.now) c.args.entries.now) c.args.caught_up.items c.args.stock.now c.args.replayers.now c.requires.some c.requires.empty c.requires.image
    c.requires.falls c.give_all.new.stock c.give_all.new.replayers c.give_all.ensures.keeps.count c.give_all.ensures.keeps.held c.in_ok-give_all.ensures.ok

pub returns-in_err-catch_up_by_workers-clause-keeps : goal.returns-in_err-catch_up_by_workers-clause-keeps
returns-in_err-catch_up_by_workers-clause-keeps g c = keeps_whole c.args.stock.now c.give_all.new.stock c.args.replayers.now c.give_all.new.replayers c.catch_up_by_workers.new.replayers c.give_all.ensures.keeps c.catch_up_by_workers.ensures.whole

pub returns-in_err-catch_up_by_workers-clause-fault : goal.returns-in_err-catch_up_by_workers-clause-fault
returns-in_err-catch_up_by_workers-clause-fault g c = λ fault is.
    let n = c.args.processors in
    let kinds = c.args.manifest.now in
    let records = map (entry_said kinds) c.args.entries.now in
    let ds = c.args.caught_up.items in
    let dispatched = are_dispatched n kinds records ds c.args.stock.now c.args.replayers.now c.requires.some c.requires.empty c.requires.image
    c.requires.falls c.give_all.new.stock c.give_all.new.replayers c.give_all.ensures.keeps.count c.give_all.ensures.keeps.held c.in_ok-give_all.ensures.ok in
    let failed : c.catch_up_by_workers.result ≡ Err (Damaged fault) = search rules in
    c.catch_up_by_workers.ensures.fault (worker_of n (length c.args.replayers.now)) records ds dispatched fault failed

pub returns-in_err-elements-clause-keeps : goal.returns-in_err-elements-clause-keeps
returns-in_err-elements-clause-keeps g c = keeps_whole c.args.stock.now c.give_all.new.stock c.args.replayers.now c.give_all.new.replayers c.catch_up_by_workers.new.replayers c.give_all.ensures.keeps c.catch_up_by_workers.ensures.whole

pub returns-clause-keeps : goal.returns-clause-keeps
returns-clause-keeps g c = keeps_whole c.args.stock.now c.give_all.new.stock c.args.replayers.now c.give_all.new.replayers c.catch_up_by_workers.new.replayers c.give_all.ensures.keeps c.catch_up_by_workers.ensures.whole

pub returns-clause-ok : goal.returns-clause-ok
returns-clause-ok g c =
    let n = c.args.processors in
    let kinds = c.args.manifest.now in
    let records = map (entry_said kinds) c.args.entries.now in
    let ds = c.args.caught_up.items in
    let dispatched = are_dispatched n kinds records ds c.args.stock.now c.args.replayers.now c.requires.some c.requires.empty c.requires.image
    c.requires.falls c.give_all.new.stock c.give_all.new.replayers c.give_all.ensures.keeps.count c.give_all.ensures.keeps.held c.in_ok-give_all.ensures.ok in
    let done = c.in_ok-catch_up_by_workers.ensures.ok (worker_of n (length c.args.replayers.now)) records ds dispatched in
    are_caught_up n kinds records ds c.args.stock.now c.args.replayers.now c.requires.some c.requires.empty c.requires.image
    c.requires.falls c.give_all.new.stock c.give_all.new.replayers c.give_all.ensures.keeps.count c.give_all.ensures.keeps.held c.in_ok-give_all.ensures.ok
    c.catch_up_by_workers.new.replayers done.0 done.1 c.in_ok-catch_up_by_workers.ensures.taken c.catch_up_by_workers.ensures.tasks c.catch_up_by_workers.ensures.whole

pub returns-clause-elements : goal.returns-clause-elements
returns-clause-elements g c =
    let n = c.args.processors in
    let kinds = c.args.manifest.now in
    let records = map (entry_said kinds) c.args.entries.now in
    let ds = c.args.caught_up.items in
    let news = c.catch_up_by_workers.new.replayers in
    let dispatched = are_dispatched n kinds records ds c.args.stock.now c.args.replayers.now c.requires.some c.requires.empty c.requires.image
    c.requires.falls c.give_all.new.stock c.give_all.new.replayers c.give_all.ensures.keeps.count c.give_all.ensures.keeps.held c.in_ok-give_all.ensures.ok in
    let done = c.in_ok-catch_up_by_workers.ensures.ok (worker_of n (length c.args.replayers.now)) records ds dispatched in
    c.in_ok-elements.ensures (worker_of n (length news)) n (redelivered_all kinds records (items_of ds))
    (are_parts_on n kinds records ds c.args.stock.now c.args.replayers.now c.requires.some c.requires.empty c.requires.image
    c.requires.falls c.give_all.new.stock c.give_all.new.replayers c.give_all.ensures.keeps.count c.give_all.ensures.keeps.held c.in_ok-give_all.ensures.ok
    news done.0 done.1 c.in_ok-catch_up_by_workers.ensures.taken c.catch_up_by_workers.ensures.tasks c.catch_up_by_workers.ensures.whole)
