use Rattle.std.proofs.Common.{rules, ◌≡◌, ◌+◌, ◌∷◌, drop, drop-cons, add-one, get_or, sym, ap, ◌∙◌}
use Rattle.charmlet_replayers.specs.Replies.Filled.{filled}
use Rattle.charmlet_replayers.proofs.RepliesLemmas.FilledRows.{filled-append}
use Rattle.charmlet_merge.proofs.AllReplies.{replies_in, rows-are}
use Rattle.charmlet_merge.proofs.Maps.{drop-past}
use Rattle.charmlet_merge.proofs.rows.fill_rows.Goals as goal

pub loop-replayer-preserved : goal.loop-replayer-preserved
loop-replayer-preserved g c =
    let replayers = c.args.replayers.now in
    let replayer = c.replayer-item.result in
    let at = c.loop-replayer.replayer-index in
    let rows = c.loop-replayer.rows.entries in
    let rest = replies_in (drop (at + 1) replayers) in
    let here : drop at replayers ≡ replayer ∷ drop (at + 1) replayers =
    drop-cons replayers at replayer c.loop-replayer-test.true ∙ ap (λ k. get_or replayers at replayer ∷ drop k replayers) (sym (add-one at)) ∙ ap (λ l. l ∷ drop (at + 1) replayers) (sym c.replayer-item.is) in
    let filled_now : c.fill.new.rows.entries ≡ filled rows replayer.replies.items = search rules in
    ap (λ rs. filled rs rest) filled_now ∙ sym (filled-append rows replayer.replies.items rest)
    ∙ ap (λ ls. filled rows (replies_in ls)) (sym here) ∙ c.loop-replayer.invariant

pub returns : goal.returns
returns g c = λ worker w before scan log are.
    sym (ap (λ ls. filled c.loop-replayer.rows.entries (replies_in ls)) (drop-past c.args.replayers.now c.loop-replayer.replayer-index c.loop-replayer-test.false))
    ∙ c.loop-replayer.invariant ∙ rows-are worker w before scan log c.args.rows.now.entries c.args.replayers.now are
