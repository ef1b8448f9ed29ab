use Rattle.std.proofs.Common.{List, length, sym, subst}
use Rattle.charmlet_model.specs.Fit.{IsFit}
use Rattle.charmlet_merge.specs.replayer.Replayer.{Replayer}
use Rattle.charmlet_merge.specs.Combined.{worker_at_home}
use Rattle.charmlet_merge.specs.Merged.{ArePartsOn}
use Rattle.charmlet_merge.proofs.StoreLemmas.AllDone.{are_parts, is_fit}
use Rattle.charmlet_merge.proofs.store.built.build_store.Goals as goal

pub merged_opening-requires-clause-parts : goal.merged_opening-requires-clause-parts
merged_opening-requires-clause-parts g c κs within =
    let its = c.requires.done in
    let n = c.args.kept.now.processors in
    let records = c.args.seen.world.records in
    subst (λ (ls : List (Replayer _ _)). ArePartsOn (worker_at_home n (length ls)) n records ls) (sym c.as_slice.ensures.value)
    (are_parts its.0 its.1 its.2 its.3 c.args.seen.world c.args.kept.now c.args.replayers.items its.4 c.args.shelves.items c.args.stock c.requires.joinable)

pub reopen-requires-clause-fit : goal.reopen-requires-clause-fit
reopen-requires-clause-fit g c κs within =
    let its = c.requires.done in
    subst IsFit (sym c.in-Ok.ensures.world) (is_fit its.0 its.1 its.2 its.3 c.args.seen.world c.args.kept.now c.args.replayers.items its.4)
