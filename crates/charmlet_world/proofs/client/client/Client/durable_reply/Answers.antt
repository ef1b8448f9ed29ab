use Rattle.std.proofs.Common.{◌≡◌, ◌-◌, List, get_or, ◌∙◌, sym, ap, arith, Bool, false}
use Rattle.std.specs.Prelude.{None}
use Rattle.std.proofs.lemmas.List.{get_or-append_right, get_or_past}
use Rattle.charmlet_world.specs.Client.Client.{Rows, shown}
use Rattle.charmlet_world.proofs.ClientLemmas.ShownLemmas.{get_or-shown_true, get_or-shown_false}
use Rattle.charmlet_world.proofs.client.client.Client.durable_reply.Goals as goal
use Rattle.charmlet_world.proofs.client.client.Client.durable_reply.Goals.{else-place-len-via-then-place-len+else-deref-place, else-place-len-via-else-place-len}

pub returns-then-deref-place : goal.returns-then-deref-place
returns-then-deref-place c =
    let own = c.self.inside in
    let before = c.len-before.result in
    let place = c.args.place in
    let window = own.present.window in
    let durable = own.durable.items in
    let known = ap (λ (bs : List Bool). get_or bs (place - before) false) (sym c.deref.ensures.0) ∙ c.if-deref-place.true in
    c.get-then-deref-place.ensures
    ∙ sym (get_or-shown_true durable window (place - before) known)
    ∙ sym (get_or-append_right own.dropped (shown durable window) before place None (sym c.len-before.ensures.count) c.if-place-before.false)
    ∙ ap (λ (r : Rows). get_or r.durable.window place None) c.self.view_is

pub returns-else-place-len : goal.returns-else-place-len
returns-else-place-len c =
    let own = c.self.inside in
    let before = c.len-before.result in
    let place = c.args.place in
    let window = own.present.window in
    let durable = own.durable.items in
    let unknown : get_or durable (place - before) false ≡ false = elim c.else-place-len.branch [
      | else-place-len-via-then-place-len+else-deref-place w ↦ ap (λ (bs : List Bool). get_or bs (place - before) false) (sym w.deref.ensures.0) ∙ w.if-deref-place.false
      | else-place-len-via-else-place-len w ↦ get_or_past durable (place - before) false (let past = w.if-place-len.false in let count = c.len.ensures.value in omega arith)
    ] in
    sym (get_or-shown_false durable window (place - before) unknown)
    ∙ sym (get_or-append_right own.dropped (shown durable window) before place None (sym c.len-before.ensures.count) c.if-place-before.false)
    ∙ ap (λ (r : Rows). get_or r.durable.window place None) c.self.view_is
