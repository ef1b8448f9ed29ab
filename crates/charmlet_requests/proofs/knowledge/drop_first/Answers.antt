use Rattle.std.proofs.Common.{drop, sym, ap, ◌∙◌}
use Rattle.std.proofs.lemmas.List.{drop-drop}
use Rattle.charmlet_requests.proofs.knowledge.drop_first.Goals as goal

pub loop-preserved : goal.loop-preserved
loop-preserved c = (
  sym (ap (drop 1) c.remove_first.ensures) ∙ ap (drop 1) c.loop.invariant.0 ∙ drop-drop 1 c.loop.counter c.args.window.now,
  c.loop.invariant.1,
)
