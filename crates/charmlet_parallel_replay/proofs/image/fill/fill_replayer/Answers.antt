use Rattle.std.proofs.Common.{◌≡◌, ◌+◌, ◌≤◌, List, map, refl, sym, ap, subst, ◌∙◌, arith}
use Rattle.std.specs.List.{AllByRecursion}
use Rattle.charmlet_model.specs.declared.kind.Kind.{Kind}
use Rattle.charmlet_model.specs.declared.logged.CatchUpEntry.{CatchUpEntry}
use Rattle.charmlet_model.specs.declared.names.Elem.{Elem}
use Rattle.charmlet_model.specs.declared.state.Record.{Record}
use Rattle.charmlet_record.specs.declared.positioned.Positioned.{Positioned}
use Rattle.charmlet_record.specs.Written.{IsCaughtUp}
use Rattle.charmlet_image.specs.Positioned.{items_of}
use Rattle.charmlet_image.specs.Views.{entry_said}
use Rattle.charmlet_recovery.specs.Blanks.{wanted_by_catch_up, wanted_by_records}
use Rattle.charmlet_stock.specs.Stock.{blanks_in}
use Rattle.charmlet_log_scan.specs.Partition.Parts.{is_of_worker, part}
use Rattle.charmlet_replay.specs.RestoredShard.{IsRestored}
use Rattle.charmlet_replayers.specs.Dispatch.Sharing.{worker_of}
use Rattle.charmlet_parallel_replay.proofs.ImageLemmas.Keeping.{counts_restored, keeps_then, stays_restored}
use Rattle.charmlet_parallel_replay.proofs.ImageLemmas.Results.{ok_always, ok_then}
use Rattle.charmlet_parallel_replay.proofs.image.fill.fill_replayer.Goals as goal

pub restore_own-requires-clause-blanks : goal.restore_own-requires-clause-blanks
restore_own-requires-clause-blanks g c κs within = λ kind. let all = c.requires.enough kind in omega (arith, all)

pub draw_for_all-requires-clause-typed : goal.draw_for_all-requires-clause-typed
draw_for_all-requires-clause-typed g c κs within =
    subst (λ (ps : List (Positioned CatchUpEntry)). AllByRecursion (IsCaughtUp c.args.manifest.now) (items_of ps)) (sym c.as_slice.ensures.value) c.requires.typed

pub draw_for_all-requires-clause-enough : goal.draw_for_all-requires-clause-enough
draw_for_all-requires-clause-enough g c κs within =
    let replayer = c.args.replayer.now in
    let mine = is_of_worker (worker_of replayer.restored.processors c.args.workers) c.args.worker in
    let records : List (Elem × Record) = part mine (map (entry_said c.args.manifest.now) c.args.entries.now) in (
      records,
      counts_restored records c.restore_own.new.restored c.in_ok-restore_own.ensures.ok,
      λ kind.
          let all = c.requires.enough kind in
          let left = c.in_ok-restore_own.ensures.given kind in
          subst (λ (ps : List (Positioned CatchUpEntry)). wanted_by_catch_up c.args.manifest.now kind records (items_of ps) ≤ blanks_in c.restore_own.new.stock kind) (sym c.as_slice.ensures.value) (omega (arith, all, left)),
    )

pub returns-clause-keeps : goal.returns-clause-keeps
returns-clause-keeps g c =
    keeps_then c.args.stock.now c.restore_own.new.stock c.draw_for_all.new.stock c.args.replayer.now.restored c.restore_own.new.restored c.draw_for_all.new.restored c.restore_own.ensures.keeps c.draw_for_all.ensures.keeps

pub returns-clause-restored : goal.returns-clause-restored
returns-clause-restored g c =
    let replayer = c.args.replayer.now in
    let mine = is_of_worker (worker_of replayer.restored.processors c.args.workers) c.args.worker in
    let records : List (Elem × Record) = part mine (map (entry_said c.args.manifest.now) c.args.entries.now) in
    ok_always c.draw_for_all.result (IsRestored records c.draw_for_all.new.restored) (stays_restored records c.restore_own.new.restored c.draw_for_all.new.restored c.draw_for_all.ensures.rest c.in_ok-restore_own.ensures.ok)

pub returns-clause-own : goal.returns-clause-own
returns-clause-own g c =
    let replayer = c.args.replayer.now in
    let mine = is_of_worker (worker_of replayer.restored.processors c.args.workers) c.args.worker in
    let records : List (Elem × Record) = part mine (map (entry_said c.args.manifest.now) c.args.entries.now) in
    let are = counts_restored records c.restore_own.new.restored c.in_ok-restore_own.ensures.ok in
    ok_then c.draw_for_all.result
    ((kind : Kind) → blanks_in c.draw_for_all.new.restored.stock kind ≡ blanks_in c.restore_own.new.restored.stock kind + wanted_by_catch_up c.args.manifest.now kind records (items_of c.as_slice.result.now))
    ((kind : Kind) → blanks_in c.draw_for_all.new.restored.stock kind ≡ wanted_by_catch_up c.args.manifest.now kind records (items_of replayer.deliveries.items))
    (λ h kind.
    let one = h kind in
    let same = c.in_ok-restore_own.ensures.own kind in
    let none = c.requires.to_fill.spare kind in
    let its : wanted_by_catch_up c.args.manifest.now kind records (items_of c.as_slice.result.now) ≡ wanted_by_catch_up c.args.manifest.now kind records (items_of replayer.deliveries.items) =
    ap (λ (ps : List (Positioned CatchUpEntry)). wanted_by_catch_up c.args.manifest.now kind records (items_of ps)) c.as_slice.ensures.value in
    omega (arith, one, same, none, its)) (c.draw_for_all.ensures.own records are)

pub returns-clause-given : goal.returns-clause-given
returns-clause-given g c =
    let replayer = c.args.replayer.now in
    let mine = is_of_worker (worker_of replayer.restored.processors c.args.workers) c.args.worker in
    let records : List (Elem × Record) = part mine (map (entry_said c.args.manifest.now) c.args.entries.now) in
    let are = counts_restored records c.restore_own.new.restored c.in_ok-restore_own.ensures.ok in
    ok_then c.draw_for_all.result
    ((kind : Kind) → blanks_in c.draw_for_all.new.stock kind + wanted_by_catch_up c.args.manifest.now kind records (items_of c.as_slice.result.now) ≡ blanks_in c.restore_own.new.stock kind)
    ((kind : Kind) → blanks_in c.draw_for_all.new.stock kind + (wanted_by_records c.args.manifest.now kind records + wanted_by_catch_up c.args.manifest.now kind records (items_of replayer.deliveries.items)) ≡ blanks_in c.args.stock.now kind)
    (λ h kind.
    let one = h kind in
    let before = c.in_ok-restore_own.ensures.given kind in
    let its : wanted_by_catch_up c.args.manifest.now kind records (items_of c.as_slice.result.now) ≡ wanted_by_catch_up c.args.manifest.now kind records (items_of replayer.deliveries.items) =
    ap (λ (ps : List (Positioned CatchUpEntry)). wanted_by_catch_up c.args.manifest.now kind records (items_of ps)) c.as_slice.ensures.value in
    omega (arith, one, before, its)) (c.draw_for_all.ensures.given records are)
