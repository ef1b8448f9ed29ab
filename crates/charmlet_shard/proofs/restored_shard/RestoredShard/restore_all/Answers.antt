use Rattle.std.proofs.Common.{◌≡◌, get_or}
use Rattle.std.specs.Prelude.{None}
use Rattle.std.proofs.lemmas.List.{get_or_default}
use Rattle.charmlet_image.specs.declared.entries.Entry.{Entry}
use Rattle.charmlet_shard.proofs.Entries.{has_blank, is_known_array, is_unknown, one_brought}
use Rattle.charmlet_shard.proofs.restored_shard.RestoredShard.restore_all.Goals as goal

abbrev no_entry : Entry
no_entry = record { element = record { array = 0; index = 0 }; sent = 0; received = 0; packed = None }

pub restore-requires-clause-unknown : goal.restore-requires-clause-unknown
restore-requires-clause-unknown g c κs within =
    let entries = c.args.entries.now in
    let i = c.loop-entry.entry-index in
    let e : Entry = get_or entries i no_entry in
    let is : e ≡ get_or entries i e = get_or_default entries i no_entry e c.loop-entry-test.true in (
      _,
      c.loop-entry.invariant.restored,
      is_unknown c.args.manifest.now c.args.self.now entries i e c.loop-entry-test.true is c.requires.good c.loop-entry.self c.loop-entry.invariant,
    )

pub restore-requires-clause-blank : goal.restore-requires-clause-blank
restore-requires-clause-blank g c κs within =
    let entries = c.args.entries.now in
    let i = c.loop-entry.entry-index in
    let e : Entry = get_or entries i no_entry in
    let is : e ≡ get_or entries i e = get_or_default entries i no_entry e c.loop-entry-test.true in
    has_blank c.args.manifest.now c.args.self.now entries i e c.loop-entry-test.true is c.requires.good c.loop-entry.self c.loop-entry.invariant c.requires.blanks

pub loop-entry-preserved : goal.loop-entry-preserved
loop-entry-preserved g c =
    let entries = c.args.entries.now in
    let i = c.loop-entry.entry-index in
    let e : Entry = get_or entries i no_entry in
    let is : e ≡ get_or entries i e = get_or_default entries i no_entry e c.loop-entry-test.true in
    let way = c.loop-entry.invariant in
    let unknown = is_unknown c.args.manifest.now c.args.self.now entries i e c.loop-entry-test.true is c.requires.good c.loop-entry.self way in
    let known = is_known_array c.args.manifest.now c.args.self.now entries i e c.loop-entry-test.true is c.requires.good c.loop-entry.self way in
    one_brought c.args.manifest.now c.args.self.now entries i e c.loop-entry-test.true is c.requires.good c.loop-entry.self way c.restore.new.self c.restore.ensures.held
    (c.in_ok-restore.ensures.ok _ way.restored unknown) (c.in_ok-restore.ensures.blanks known) c.restore.ensures.processors c.restore.ensures.supplied
