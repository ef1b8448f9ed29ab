use Rattle.std.proofs.Common.{◌≡◌, ◌≤◌, ◌+◌, ◌∷◌, [], ◌++◌, arith, ap, subst, sym, ◌∙◌, length, drop, refl, Some}
use Rattle.charmlet_ready_queue.specs.SeqNos.SeqNos.{AllAfter, in_order}
use Rattle.charmlet_ready_queue.proofs.seq_nos.ring.put_in.Goals as goal
use Rattle.charmlet_ready_queue.proofs.seq_nos.ring.put_in.Goals.{else-place-len-via-then-place-len+else-look-number, else-place-len-via-else-place-len}
use Rattle.charmlet_ready_queue.proofs.SeqNosLemmas.Rings.{length_in_order, pushed}
use Rattle.charmlet_ready_queue.proofs.SeqNosLemmas.Rising.{all_behind, is_there, none_behind, put_there}

pub returns-then-look-number-clause-seq_nos : goal.returns-then-look-number-clause-seq_nos
returns-then-look-number-clause-seq_nos g c =
    let seq_nos = in_order c.args.behind c.args.ring.now.items in
    let here = c.look.ensures.number ∙ ap Some c.if-look-number.true in
    sym (is_there seq_nos c.place_of-place.result c.args.number c.requires.climbs here)

pub returns-clause-seq_nos : goal.returns-clause-seq_nos
returns-clause-seq_nos g c =
    let ring = c.args.ring.now.items in
    let seq_nos = in_order c.args.behind ring in
    let place = c.place_of-place.result in
    let all = length_in_order c.args.behind ring in
    let within : place ≤ length seq_nos = omega (arith, all, c.place_of-place.ensures.within) in
    let after : AllAfter c.args.number (drop place seq_nos) = elim c.else-place-len.branch [
      | else-place-len-via-then-place-len+else-look-number w ↦ all_behind seq_nos place w.look.result c.args.number c.requires.climbs c.place_of-place.ensures.from w.look.ensures.number w.if-look-number.false
      | else-place-len-via-else-place-len w ↦
          let end : place ≡ length seq_nos = grind (arith, all) in
          subst (λ n. AllAfter c.args.number (drop n seq_nos)) (sym end) (subst (AllAfter c.args.number) (sym (none_behind seq_nos)) tt)
    ] in
    ap (in_order (place + 1)) (c.push_back_reserved.ensures.items ∙ ap (λ items. items ++ c.args.number ∷ []) c.turn_to.ensures.items)
    ∙ (pushed seq_nos place (place + 1) c.args.number within refl
    ∙ sym (put_there seq_nos place c.args.number c.place_of-place.ensures.before after))
