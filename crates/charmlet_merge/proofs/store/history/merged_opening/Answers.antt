use Rattle.std.proofs.Common.{ℕ, List, length, sym, ap, subst, ◌∙◌}
use Rattle.charmlet_model.specs.declared.client.ClientRow.{ClientRow}
use Rattle.charmlet_model.specs.World.{World}
use Rattle.charmlet_merge.specs.Combined.{worker_at_home}
use Rattle.charmlet_merge.specs.Rows.{AreToFill}
use Rattle.charmlet_merge.proofs.StoreLemmas.AllDone.{is_fit}
use Rattle.charmlet_merge.proofs.store.history.merged_opening.Goals as goal

pub history_opening-requires-clause-fit : goal.history_opening-requires-clause-fit
history_opening-requires-clause-fit g c =
    let its = c.requires.done in
    is_fit its.0 its.1 its.2 its.3 c.args.seen.world c.args.kept.now c.args.replayers.now its.4

pub history_opening-requires-clause-pending : goal.history_opening-requires-clause-pending
history_opening-requires-clause-pending g c = c.requires.done.4.pending

pub history_opening-requires-clause-elements : goal.history_opening-requires-clause-elements
history_opening-requires-clause-elements g c =
    let n = c.args.kept.now.processors in
    c.in_ok-elements.ensures (worker_at_home n (length c.args.replayers.now)) n c.args.seen.world.records c.requires.parts

pub history_opening-requires-clause-rows : goal.history_opening-requires-clause-rows
history_opening-requires-clause-rows g c =
    let its = c.requires.done in
    let worker = worker_at_home c.args.kept.now.processors (length c.args.replayers.now) in
    let fill = subst (λ (rows : List (ℕ × ClientRow)). AreToFill worker its.0 its.1 its.2 its.3 rows c.args.replayers.now) (sym c.in_ok-rows.ensures) its.4.fill in
    c.in_ok-fill_rows.ensures worker its.0 its.1 its.2 its.3 fill ∙ sym (ap (λ (v : World). v.clients) its.4.last)
