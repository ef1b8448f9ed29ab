use Rattle.std.proofs.Common.{rules, ◌≡◌, length}
use Rattle.std.specs.Prelude.{Err}
use Rattle.charmlet_image.specs.declared.half.OpenHalf.{OpenHalf}
use Rattle.charmlet_image.specs.Views.{image_said}
use Rattle.charmlet_record.specs.declared.reader.ReadError.TheVariants.{Damaged}
use Rattle.charmlet_recovery.specs.Bases.{base}
use Rattle.charmlet_stock.specs.Stock.{blanks_in}
use Rattle.charmlet_replayers.specs.Dispatch.Sharing.{worker_of}
use Rattle.charmlet_replayers.proofs.DispatchLemmas.ReplayerLists.{keeps_then}
use Rattle.charmlet_replay.proofs.OpenHalves.{few_before, good_bytes, image_at_fault}
use Rattle.charmlet_parallel_replay.specs.declared.log.replay_error.ReplayError.TheVariants.{OutOfBlanks, Read}
use Rattle.charmlet_parallel_replay.proofs.Redone.{blanks_kept, event_at_fault, falls, fault_kept, for_image, good_kept, idle, is_redone, logged_kept, packed, ready, redone_kept, replies_kept, some_world}
use Rattle.charmlet_parallel_replay.proofs.half.redo_half.Goals as goal

pub restore_image_parallel-requires-clause-packed : goal.restore_image_parallel-requires-clause-packed
restore_image_parallel-requires-clause-packed g c κs within = let its = c.requires.half in packed its.0 its.1 _ its.2

pub restore_image_parallel-requires-clause-falls : goal.restore_image_parallel-requires-clause-falls
restore_image_parallel-requires-clause-falls g c κs within = let its = c.requires.half in falls its.0 its.1 _ its.2

pub restore_image_parallel-requires-clause-blanks : goal.restore_image_parallel-requires-clause-blanks
restore_image_parallel-requires-clause-blanks g c κs within = let its = c.requires.half in for_image its.0 its.1 _ its.2 (blanks_in c.args.stock.now) its.3

pub returns-in_err-manifest-clause-fault : goal.returns-in_err-manifest-clause-fault
returns-in_err-manifest-clause-fault g c = λ bytes s is fault why.
    let half : OpenHalf = record { header = c.args.header.now; image = c.args.image; log = c.args.log.now } in
    let failed : c.restore_image_parallel.result ≡ Err (Damaged fault) = search rules in
    image_at_fault bytes s half is fault.bytes_left (c.restore_image_parallel.ensures.fault fault failed)

pub replay_log_parallel-requires-clause-some_world : goal.replay_log_parallel-requires-clause-some_world
replay_log_parallel-requires-clause-some_world g c κs within =
    let its = c.requires.half in
    let half : OpenHalf = record { header = c.args.header.now; image = c.args.image; log = c.args.log.now } in
    let n = c.args.processors in
    let given = blanks_in c.args.stock.now in
    let left = blanks_in c.restore_image_parallel.new.stock in
    let olds = c.args.replayers.now in
    let replayers = c.restore_image_parallel.new.replayers in
    let count = c.restore_image_parallel.ensures.keeps.count in
    let k = c.in_ok-manifest.world in
    let back = c.in_ok-manifest.ensures.ok in
    let kinds = c.in_ok-manifest.world.manifest in
    let same : kinds ≡ half.image.manifest = back.shows.manifest in
    some_world its.0 its.1 half its.2 n given left olds replayers c.requires.some count k back

pub replay_log_parallel-requires-clause-few : goal.replay_log_parallel-requires-clause-few
replay_log_parallel-requires-clause-few g c κs within = let its = c.requires.half in few_before its.0 its.1 (record { header = c.args.header.now; image = c.args.image; log = c.args.log.now }) its.2

pub replay_log_parallel-requires-clause-bytes : goal.replay_log_parallel-requires-clause-bytes
replay_log_parallel-requires-clause-bytes g c κs within = let its = c.requires.half in good_bytes its.0 its.1 (record { header = c.args.header.now; image = c.args.image; log = c.args.log.now }) its.2

pub replay_log_parallel-requires-clause-good : goal.replay_log_parallel-requires-clause-good
replay_log_parallel-requires-clause-good g c κs within =
    let its = c.requires.half in
    let half : OpenHalf = record { header = c.args.header.now; image = c.args.image; log = c.args.log.now } in
    let n = c.args.processors in
    let given = blanks_in c.args.stock.now in
    let left = blanks_in c.restore_image_parallel.new.stock in
    let olds = c.args.replayers.now in
    let replayers = c.restore_image_parallel.new.replayers in
    let count = c.restore_image_parallel.ensures.keeps.count in
    let k = c.in_ok-manifest.world in
    let back = c.in_ok-manifest.ensures.ok in
    let kinds = c.in_ok-manifest.world.manifest in
    let same : kinds ≡ half.image.manifest = back.shows.manifest in
    good_kept its.0 its.1 half its.2 n given left olds replayers c.requires.some count k back kinds same

pub replay_log_parallel-requires-clause-logged : goal.replay_log_parallel-requires-clause-logged
replay_log_parallel-requires-clause-logged g c κs within =
    let its = c.requires.half in
    let half : OpenHalf = record { header = c.args.header.now; image = c.args.image; log = c.args.log.now } in
    let n = c.args.processors in
    let given = blanks_in c.args.stock.now in
    let left = blanks_in c.restore_image_parallel.new.stock in
    let olds = c.args.replayers.now in
    let replayers = c.restore_image_parallel.new.replayers in
    let count = c.restore_image_parallel.ensures.keeps.count in
    let k = c.in_ok-manifest.world in
    let back = c.in_ok-manifest.ensures.ok in
    let kinds = c.in_ok-manifest.world.manifest in
    let same : kinds ≡ half.image.manifest = back.shows.manifest in
    logged_kept its.0 its.1 half its.2 n given left olds replayers c.requires.some count k back kinds same

pub replay_log_parallel-requires-clause-idle : goal.replay_log_parallel-requires-clause-idle
replay_log_parallel-requires-clause-idle g c κs within =
    let its = c.requires.half in
    let half : OpenHalf = record { header = c.args.header.now; image = c.args.image; log = c.args.log.now } in
    let n = c.args.processors in
    let given = blanks_in c.args.stock.now in
    let left = blanks_in c.restore_image_parallel.new.stock in
    let olds = c.args.replayers.now in
    let replayers = c.restore_image_parallel.new.replayers in
    let count = c.restore_image_parallel.ensures.keeps.count in
    let k = c.in_ok-manifest.world in
    let back = c.in_ok-manifest.ensures.ok in
    let kinds = c.in_ok-manifest.world.manifest in
    let same : kinds ≡ half.image.manifest = back.shows.manifest in
    idle its.0 its.1 half its.2 n given left olds replayers c.requires.some count k back

pub replay_log_parallel-requires-clause-ready : goal.replay_log_parallel-requires-clause-ready
replay_log_parallel-requires-clause-ready g c κs within =
    let its = c.requires.half in
    let half : OpenHalf = record { header = c.args.header.now; image = c.args.image; log = c.args.log.now } in
    let n = c.args.processors in
    let given = blanks_in c.args.stock.now in
    let left = blanks_in c.restore_image_parallel.new.stock in
    let olds = c.args.replayers.now in
    let replayers = c.restore_image_parallel.new.replayers in
    let count = c.restore_image_parallel.ensures.keeps.count in
    let k = c.in_ok-manifest.world in
    let back = c.in_ok-manifest.ensures.ok in
    let kinds = c.in_ok-manifest.world.manifest in
    let same : kinds ≡ half.image.manifest = back.shows.manifest in
    (base (image_said half.image), ready its.0 its.1 half its.2 n given left olds replayers c.requires.some count k back)

pub returns-in_err-replay_log_parallel-clause-keeps : goal.returns-in_err-replay_log_parallel-clause-keeps
returns-in_err-replay_log_parallel-clause-keeps g c = keeps_then c.args.stock.now c.restore_image_parallel.new.stock c.replay_log_parallel.new.stock c.args.replayers.now c.restore_image_parallel.new.replayers c.replay_log_parallel.new.replayers c.restore_image_parallel.ensures.keeps c.replay_log_parallel.ensures.keeps

pub returns-in_err-replay_log_parallel-clause-fault : goal.returns-in_err-replay_log_parallel-clause-fault
returns-in_err-replay_log_parallel-clause-fault g c = λ bytes s is fault why.
    let its = c.requires.half in
    let half : OpenHalf = record { header = c.args.header.now; image = c.args.image; log = c.args.log.now } in
    let n = c.args.processors in
    let given = blanks_in c.args.stock.now in
    let left = blanks_in c.restore_image_parallel.new.stock in
    let olds = c.args.replayers.now in
    let replayers = c.restore_image_parallel.new.replayers in
    let count = c.restore_image_parallel.ensures.keeps.count in
    let k = c.in_ok-manifest.world in
    let back = c.in_ok-manifest.ensures.ok in
    let kinds = c.in_ok-manifest.world.manifest in
    let same : kinds ≡ half.image.manifest = back.shows.manifest in
    let ready_so = ready its.0 its.1 half its.2 n given left olds replayers c.requires.some count k back in
    let failed : c.replay_log_parallel.result ≡ Err (Read (Damaged fault)) = search rules in
    event_at_fault bytes s half is back.caught_up.pass back.was_sent fault.bytes_left
    (fault_kept its.0 its.1 half its.2 n given left olds replayers c.requires.some count k back kinds same fault.bytes_left (c.replay_log_parallel.ensures.fault (base (image_said half.image)) ready_so fault failed))

pub returns-in_err-replay_log_parallel-clause-lack : goal.returns-in_err-replay_log_parallel-clause-lack
returns-in_err-replay_log_parallel-clause-lack g c = λ bytes s is why enough.
    let its = c.requires.half in
    let half : OpenHalf = record { header = c.args.header.now; image = c.args.image; log = c.args.log.now } in
    let n = c.args.processors in
    let given = blanks_in c.args.stock.now in
    let left = blanks_in c.restore_image_parallel.new.stock in
    let olds = c.args.replayers.now in
    let replayers = c.restore_image_parallel.new.replayers in
    let count = c.restore_image_parallel.ensures.keeps.count in
    let k = c.in_ok-manifest.world in
    let back = c.in_ok-manifest.ensures.ok in
    let kinds = c.in_ok-manifest.world.manifest in
    let same : kinds ≡ half.image.manifest = back.shows.manifest in
    let ready_so = ready its.0 its.1 half its.2 n given left olds replayers c.requires.some count k back in
    let failed : c.replay_log_parallel.result ≡ Err OutOfBlanks = search rules in
    c.replay_log_parallel.ensures.lack (base (image_said half.image)) ready_so failed (blanks_kept bytes s half is n given left olds replayers c.requires.some count k back kinds same enough)

pub returns-clause-keeps : goal.returns-clause-keeps
returns-clause-keeps g c = keeps_then c.args.stock.now c.restore_image_parallel.new.stock c.replay_log_parallel.new.stock c.args.replayers.now c.restore_image_parallel.new.replayers c.replay_log_parallel.new.replayers c.restore_image_parallel.ensures.keeps c.replay_log_parallel.ensures.keeps

pub returns-clause-ok : goal.returns-clause-ok
returns-clause-ok g c =
    let its = c.requires.half in
    let half : OpenHalf = record { header = c.args.header.now; image = c.args.image; log = c.args.log.now } in
    let n = c.args.processors in
    let given = blanks_in c.args.stock.now in
    let left = blanks_in c.restore_image_parallel.new.stock in
    let olds = c.args.replayers.now in
    let replayers = c.restore_image_parallel.new.replayers in
    let count = c.restore_image_parallel.ensures.keeps.count in
    let k = c.in_ok-manifest.world in
    let back = c.in_ok-manifest.ensures.ok in
    let kinds = c.in_ok-manifest.world.manifest in
    let same : kinds ≡ half.image.manifest = back.shows.manifest in
    let ready_so = ready its.0 its.1 half its.2 n given left olds replayers c.requires.some count k back in
    let w = base (image_said half.image) in
    let next = c.replay_log_parallel.new.world in
    let news = c.replay_log_parallel.new.replayers in
    is_redone its.0 its.1 half its.2 n given left olds replayers c.requires.some count k back next (blanks_in c.replay_log_parallel.new.stock) news c.replay_log_parallel.ensures.keeps.count c.replay_log_parallel.ensures.processors
    (redone_kept its.0 its.1 half its.2 n given left olds replayers c.requires.some count k back kinds same next (blanks_in c.replay_log_parallel.new.stock) news (c.in_ok-replay_log_parallel.ensures.ok w ready_so))
    (λ scan so. replies_kept its.0 its.1 half its.2 n given left olds replayers c.requires.some count k back kinds same (worker_of k.processors (length replayers)) news scan (c.in_ok-replay_log_parallel.ensures.replies w ready_so scan so))
