use Rattle.std.proofs.Common.{◌≡◌, ◌+◌, ◌∷◌, [], List, length, sym, ap, subst, ◌∙◌, arith}
use Rattle.std.specs.List.{All}
use Rattle.std.proofs.lemmas.List.{length-append}
use Rattle.charmlet_replayers.specs.declared.replayer.replayer.Replayer.{Replayer}
use Rattle.charmlet_parallel_replay.specs.Image.Filled.{IsEmptyReplayer}
use Rattle.charmlet_parallel_replay.proofs.ImageLemmas.Empty.{all_more}
use Rattle.charmlet_parallel_replay.proofs.image.replayers.empty_replayers.Goals as goal

pub loop-preserved : goal.loop-preserved
loop-preserved g c =
    let replayers = c.loop.replayers.items in
    let replayer = c.in_ok-empty_replayer.field-0 in
    let items = c.in_ok-push.ensures.items in
    record {
      count = let before = c.loop.invariant.count in let many = ap length items ∙ length-append replayers (replayer ∷ []) in omega (arith, before, many);
      empty = subst (λ (ls : List (Replayer _ _)). All (IsEmptyReplayer c.args.processors) ls) (sym items) (all_more (IsEmptyReplayer c.args.processors) replayers replayer c.loop.invariant.empty c.in_ok-empty_replayer.ensures);
    }
