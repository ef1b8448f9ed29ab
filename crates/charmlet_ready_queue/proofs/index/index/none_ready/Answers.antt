use Rattle.std.proofs.Common.{◌≡◌, ◌+◌, ◌<◌, arith, ap, refl, subst, sym, ◌∙◌, length}
use Rattle.std.specs.Prelude.{is_none}
use Rattle.std.proofs.lemmas.Option.{slice_get_read}
use Rattle.charmlet_ready_queue.specs.Index.Index.{first_of, is_ready_on}
use Rattle.charmlet_ready_queue.proofs.IndexLemmas.Firsts.{all_below, first_neither, is_below, none_below, none_kept, one_more_below, some_ready}
use Rattle.charmlet_ready_queue.proofs.index.index.none_ready.Goals as goal

pub loop-on-init : goal.loop-on-init
loop-on-init c = λ seq_nos place is. sym (none_below place seq_nos)

pub loop-on-preserved : goal.loop-on-preserved
loop-on-preserved c = λ seq_nos place is.
    let k = c.loop-on.on in
    let lists = c.args.lists.now.items in
    let l = c.index.result.now in
    let at = slice_get_read lists (length lists) k l refl (grind arith) c.index.ensures in
    let empty : length l.ready.seq_nos ≡ 0 = omega (arith, c.len.ensures, c.if-len-gt0.false) in
    let none = none_kept (λ n. is_ready_on (place n) k) seq_nos (subst (λ bs. length bs ≡ 0) (is k l at).ready empty) in
    first_neither (is_below place k) (λ n. is_ready_on (place n) k) (is_below place (k + 1)) (one_more_below place k) seq_nos (c.loop-on.invariant seq_nos place is) none

pub returns-then-len-gt0 : goal.returns-then-len-gt0
returns-then-len-gt0 c = λ seq_nos place is on_all.
    let k = c.loop-on.on in
    let lists = c.args.lists.now.items in
    let l = c.index.result.now in
    let at = slice_get_read lists (length lists) k l refl (grind arith) c.index.ensures in
    let some : 0 < length l.ready.seq_nos = omega (arith, c.len.ensures, c.if-len-gt0.true) in
    some_ready place k seq_nos (subst (λ bs. 0 < length bs) (is k l at).ready some)

pub returns : goal.returns
returns c = λ seq_nos place is on_all.
    let n : c.loop-on.on ≡ length c.args.lists.now.items = grind arith in
    let none = c.loop-on.invariant seq_nos place is in
    ap is_none (sym none ∙ (ap (λ m. first_of (is_below place m) seq_nos) n ∙ all_below place (length c.args.lists.now.items) seq_nos on_all))
