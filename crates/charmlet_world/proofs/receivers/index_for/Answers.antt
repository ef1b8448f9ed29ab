use Rattle.std.proofs.Common.{◌≡◌, ◌++◌, ◌∷◌, [], sym, ap, ◌∙◌, slice_get, None, Some}
use Rattle.std.specs.Prelude.{unwrap_or}
use Rattle.std.specs.Map.{lookup}
use Rattle.indexmap.specs.IndexMap.{set_value_at}
use Rattle.indexmap.proofs.CallerLemmas.{insert_entry-new}
use Rattle.charmlet_model.specs.Names.{same_elem}
use Rattle.charmlet_world.specs.declared.receivers.Receiver.{Receiver}
use Rattle.charmlet_world.specs.Envelopes.{no_receiver, receiver_in}
use Rattle.charmlet_world.proofs.Receiving.{new_same}
use Rattle.charmlet_world.proofs.Rows.{inserted_at, put_back, stood_at}
use Rattle.charmlet_world.proofs.receivers.index_for.Goals as goal

pub returns-in_default-was-clause-found : goal.returns-in_default-was-clause-found
returns-in_default-was-clause-found c =
    let es = c.args.table.now.entries in
    let x = c.args.elem in
    let none : lookup (same_elem x) es ≡ None = sym c.in-Ok.ensures.old ∙ c.in_default-was.is in
    (λ i. slice_get (c.in-Ok.ensures.entries i) (c.in-Ok.ensures.index i))
    ∙ inserted_at x c.new.result es
    ∙ (λ i. Some (x, c.new.ensures i))
    ∙ ap (λ o. Some (x, unwrap_or o no_receiver)) (sym none)

pub returns-in_default-was-clause-same : goal.returns-in_default-was-clause-same
returns-in_default-was-clause-same c = λ y.
    let es = c.args.table.now.entries in
    let x = c.args.elem in
    let none : lookup (same_elem x) es ≡ None = sym c.in-Ok.ensures.old ∙ c.in_default-was.is in
    let after : c.insert_full.new.self.entries ≡ es ++ (x, no_receiver) ∷ [] =
    c.in-Ok.ensures.entries ∙ insert_entry-new same_elem c.args.table.now x c.new.result none ∙ ap (λ (r : Receiver). es ++ (x, r) ∷ []) c.new.ensures in
    ap (λ fs. receiver_in fs y) after ∙ new_same x es none y

pub returns-clause-found : goal.returns-clause-found
returns-clause-found c =
    let es = c.args.table.now.entries in
    let x = c.args.elem in
    let was = c.in-Some.receiver in
    let at : lookup (same_elem x) es ≡ Some was = sym c.in-Ok.ensures.old ∙ c.in-Some.is in
    let whole : c.set.new.table.entries ≡ es =
    c.set.ensures.entries ∙ (λ i. set_value_at (c.in-Ok.ensures.entries i) (c.in-Ok.ensures.index i) was) ∙ put_back x c.new.result was es at in
    (λ i. slice_get (whole i) (c.in-Ok.ensures.index i)) ∙ stood_at x c.new.result was es at ∙ ap (λ o. Some (x, unwrap_or o no_receiver)) (sym at)

pub returns-clause-same : goal.returns-clause-same
returns-clause-same c = λ y.
    let es = c.args.table.now.entries in
    let x = c.args.elem in
    let was = c.in-Some.receiver in
    let at : lookup (same_elem x) es ≡ Some was = sym c.in-Ok.ensures.old ∙ c.in-Some.is in
    ap (λ fs. receiver_in fs y) (c.set.ensures.entries ∙ (λ i. set_value_at (c.in-Ok.ensures.entries i) (c.in-Ok.ensures.index i) was) ∙ put_back x c.new.result was es at)
