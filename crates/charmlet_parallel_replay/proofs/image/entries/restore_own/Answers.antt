use Rattle.std.proofs.Common.{◌≡◌, get_or}
use Rattle.std.specs.Prelude.{None, true, false}
use Rattle.std.proofs.lemmas.List.{get_or_default}
use Rattle.charmlet_image.specs.declared.entries.Entry.{Entry}
use Rattle.charmlet_log_scan.specs.Partition.Parts.{is_of_worker}
use Rattle.charmlet_replayers.specs.Dispatch.Sharing.{worker_of}
use Rattle.charmlet_parallel_replay.proofs.ImageLemmas.Own.{known_array, unknown}
use Rattle.charmlet_parallel_replay.proofs.ImageLemmas.Restoring.{has_blank, its_own, not_own, one_more, passed_over}
use Rattle.charmlet_parallel_replay.proofs.image.entries.restore_own.Goals as goal

abbrev no_entry : Entry
no_entry = record { element = record { array = 0; index = 0 }; sent = 0; received = 0; packed = None }

pub loop-entry-preserved-then-worker_of-worker : goal.loop-entry-preserved-then-worker_of-worker
loop-entry-preserved-then-worker_of-worker g c =
    let entries = c.args.entries.now in
    let i = c.loop-entry.entry-index in
    let e : Entry = get_or entries i no_entry in
    let is : e ≡ get_or entries i e = get_or_default entries i no_entry e c.loop-entry-test.true in
    let way = c.loop-entry.invariant in
    let n = c.args.restored.now.processors in
    let mine = is_of_worker (worker_of n c.args.workers) c.args.worker in
    passed_over mine c.args.manifest.now c.args.stock.now c.args.restored.now entries i e c.loop-entry-test.true is c.requires.good c.loop-entry.stock c.loop-entry.restored way
    (not_own n c.loop-entry.restored.processors c.args.workers c.args.worker c.worker_of.result e.element c.worker_of.ensures.worker way.keeps.on c.if-worker_of-worker.true)

pub restore_entry-requires-clause-unknown : goal.restore_entry-requires-clause-unknown
restore_entry-requires-clause-unknown g c κs within =
    let entries = c.args.entries.now in
    let i = c.loop-entry.entry-index in
    let e : Entry = get_or entries i no_entry in
    let is : e ≡ get_or entries i e = get_or_default entries i no_entry e c.loop-entry-test.true in
    let way = c.loop-entry.invariant in
    let n = c.args.restored.now.processors in
    let mine = is_of_worker (worker_of n c.args.workers) c.args.worker in
    let own : mine e.element ≡ true = its_own n c.loop-entry.restored.processors c.args.workers c.args.worker c.worker_of.result e.element c.worker_of.ensures.worker way.keeps.on c.if-worker_of-worker.false in
    (_, way.restored, unknown c.args.manifest.now entries i e c.loop-entry-test.true is c.requires.good mine own)

pub restore_entry-requires-clause-array : goal.restore_entry-requires-clause-array
restore_entry-requires-clause-array g c κs within =
    let entries = c.args.entries.now in
    let i = c.loop-entry.entry-index in
    let e : Entry = get_or entries i no_entry in
    let is : e ≡ get_or entries i e = get_or_default entries i no_entry e c.loop-entry-test.true in
    known_array c.args.manifest.now entries i e c.loop-entry-test.true is c.requires.good

pub restore_entry-requires-clause-blank : goal.restore_entry-requires-clause-blank
restore_entry-requires-clause-blank g c κs within =
    let entries = c.args.entries.now in
    let i = c.loop-entry.entry-index in
    let e : Entry = get_or entries i no_entry in
    let is : e ≡ get_or entries i e = get_or_default entries i no_entry e c.loop-entry-test.true in
    let way = c.loop-entry.invariant in
    let n = c.args.restored.now.processors in
    let mine = is_of_worker (worker_of n c.args.workers) c.args.worker in
    let own : mine e.element ≡ true = its_own n c.loop-entry.restored.processors c.args.workers c.args.worker c.worker_of.result e.element c.worker_of.ensures.worker way.keeps.on c.if-worker_of-worker.false in
    has_blank mine c.args.manifest.now c.args.stock.now c.args.restored.now entries i e c.loop-entry-test.true is c.requires.good c.loop-entry.stock c.loop-entry.restored way own c.requires.blanks

pub loop-entry-preserved : goal.loop-entry-preserved
loop-entry-preserved g c =
    let entries = c.args.entries.now in
    let i = c.loop-entry.entry-index in
    let e : Entry = get_or entries i no_entry in
    let is : e ≡ get_or entries i e = get_or_default entries i no_entry e c.loop-entry-test.true in
    let way = c.loop-entry.invariant in
    let n = c.args.restored.now.processors in
    let mine = is_of_worker (worker_of n c.args.workers) c.args.worker in
    let own : mine e.element ≡ true = its_own n c.loop-entry.restored.processors c.args.workers c.args.worker c.worker_of.result e.element c.worker_of.ensures.worker way.keeps.on c.if-worker_of-worker.false in
    let new = unknown c.args.manifest.now entries i e c.loop-entry-test.true is c.requires.good mine own in
    one_more mine c.args.manifest.now c.args.stock.now c.args.restored.now entries i e c.loop-entry-test.true is c.requires.good c.loop-entry.stock c.loop-entry.restored way own c.restore_entry.new.stock c.restore_entry.new.restored
    c.restore_entry.ensures.keeps (c.in_ok-restore_entry.ensures.ok _ way.restored new) c.in_ok-restore_entry.ensures.own c.in_ok-restore_entry.ensures.given
