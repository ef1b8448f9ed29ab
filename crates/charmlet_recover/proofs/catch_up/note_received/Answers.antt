use Rattle.std.proofs.Common.{◌≡◌, ℕ, max, List, sym, ap, ◌∙◌}
use Rattle.std.specs.Prelude.{unwrap_or, nat_lt}
use Rattle.std.specs.BTreeMap.{insert_entry}
use Rattle.charmlet_model.specs.declared.names.Elem.{Elem}
use Rattle.charmlet_model.specs.declared.state.Record.{Record}
use Rattle.charmlet_model.specs.Names.{elem_cmp}
use Rattle.charmlet_model.specs.World.{record_at}
use Rattle.charmlet_recover.specs.Maps.{record_with, records_with}
use Rattle.charmlet_recover.proofs.CatchUps.{count_known, is_above, records_noted}
use Rattle.charmlet_recover.proofs.catch_up.note_received.Goals as goal

pub returns-clause-new : goal.returns-clause-new
returns-clause-new c =
    let es = c.args.received.now.entries in
    let x = c.args.delivery.now.message.to in
    let before : c.unwrap_or-before.result ≡ (record_at (records_with es) x).received =
    c.unwrap_or-before.ensures ∙ ap (λ o. unwrap_or o 0) (c.copied.ensures ∙ c.get.ensures.value) ∙ sym (ap (λ (r : Record). r.received) (count_known es x)) in
    ap (λ n. nat_lt n c.args.delivery.now.received) before ∙ is_above (record_at (records_with es) x).received c.args.delivery.now.received

pub returns-clause-noted : goal.returns-clause-noted
returns-clause-noted c =
    let es = c.args.received.now.entries in
    let x = c.args.delivery.now.message.to in
    let before : c.unwrap_or-before.result ≡ (record_at (records_with es) x).received =
    c.unwrap_or-before.ensures ∙ ap (λ o. unwrap_or o 0) (c.copied.ensures ∙ c.get.ensures.value) ∙ sym (ap (λ (r : Record). r.received) (count_known es x)) in
    ap (λ (es : List (Elem × ℕ)). records_with es) c.in_ok-insert.ensures.entries
    ∙ records_noted es x c.max.result
    ∙ ap (λ n. insert_entry elem_cmp (records_with es) x (record_with n)) (c.max.ensures ∙ ap (λ (n : ℕ). max n c.args.delivery.now.received) before)
