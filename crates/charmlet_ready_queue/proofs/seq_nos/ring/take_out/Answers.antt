use Rattle.std.proofs.Common.{◌≡◌, ◌<◌, arith, ap, subst, sym, ◌∙◌, length, drop}
use Rattle.charmlet_ready_queue.specs.SeqNos.SeqNos.{AllAfter, in_order, without_number}
use Rattle.charmlet_ready_queue.proofs.seq_nos.ring.take_out.Goals as goal
use Rattle.charmlet_ready_queue.proofs.SeqNosLemmas.Rings.{length_in_order, popped}
use Rattle.charmlet_ready_queue.proofs.SeqNosLemmas.Rising.{all_behind, none_behind, none_here, removed}

pub returns-then-place-len-clause-seq_nos : goal.returns-then-place-len-clause-seq_nos
returns-then-place-len-clause-seq_nos g c =
    let seq_nos = in_order c.args.behind c.args.ring.now.items in
    let end : c.place_of-place.result ≡ length seq_nos = grind (arith, length_in_order c.args.behind c.args.ring.now.items) in
    let after : AllAfter c.args.number (drop c.place_of-place.result seq_nos) = subst (λ n. AllAfter c.args.number (drop n seq_nos)) (sym end) (subst (AllAfter c.args.number) (sym (none_behind seq_nos)) tt) in
    sym (none_here seq_nos c.place_of-place.result c.args.number c.place_of-place.ensures.before after)

pub returns-then-look-number-clause-seq_nos : goal.returns-then-look-number-clause-seq_nos
returns-then-look-number-clause-seq_nos g c =
    let seq_nos = in_order c.args.behind c.args.ring.now.items in
    let after = all_behind seq_nos c.place_of-place.result c.look.result c.args.number c.requires.climbs c.place_of-place.ensures.from c.look.ensures.number c.if-look-number.true in
    sym (none_here seq_nos c.place_of-place.result c.args.number c.place_of-place.ensures.before after)

pub returns-clause-seq_nos : goal.returns-clause-seq_nos
returns-clause-seq_nos g c =
    let seq_nos = in_order c.args.behind c.args.ring.now.items in
    let place = c.place_of-place.result in
    let within : place < length seq_nos = grind (arith, length_in_order c.args.behind c.args.ring.now.items) in
    ap (in_order place) c.pop_front-number.ensures.rest
    ∙ (ap (λ ring. in_order place (drop 1 ring)) c.turn_to.ensures.items
    ∙ (popped seq_nos place within
    ∙ (removed seq_nos place c.look.result c.requires.climbs c.look.ensures.number ∙ ap (λ n. without_number n seq_nos) c.if-look-number.false)))
