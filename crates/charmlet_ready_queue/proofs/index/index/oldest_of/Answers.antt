use Rattle.std.proofs.Common.{ap, refl, sym, ◌∙◌, length, slice_get}
use Rattle.std.proofs.lemmas.Option.{slice_get_read}
use Rattle.charmlet_ready_queue.specs.Index.Index.{is_ready_on}
use Rattle.charmlet_ready_queue.proofs.index.index.oldest_of.Goals as goal
use Rattle.charmlet_ready_queue.proofs.IndexLemmas.Firsts.{first_is, none_first}

pub returns-then-len-eq0-clause-index : goal.returns-then-len-eq0-clause-index
returns-then-len-eq0-clause-index g c = λ seq_nos place is within.
    let lists = c.args.lists.now.items in
    let l = c.index.result.now in
    let at = slice_get_read lists (length lists) c.args.on l refl within c.index.ensures in
    none_first l.ready.seq_nos (sym c.len-2.ensures ∙ c.if-len-eq0.true) ∙ (ap (λ bs. slice_get bs 0) (is c.args.on l at).ready ∙ sym (first_is (λ n. is_ready_on (place n) c.args.on) seq_nos))

pub returns-clause-index : goal.returns-clause-index
returns-clause-index g c = λ seq_nos place is within.
    let lists = c.args.lists.now.items in
    let l = c.index.result.now in
    let at = slice_get_read lists (length lists) c.args.on l refl within c.index.ensures in
    sym c.at.ensures.seq_no ∙ (ap (λ bs. slice_get bs 0) (is c.args.on l at).ready ∙ sym (first_is (λ n. is_ready_on (place n) c.args.on) seq_nos))
