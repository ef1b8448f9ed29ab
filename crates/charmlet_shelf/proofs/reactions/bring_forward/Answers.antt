use Rattle.std.proofs.Common.{◌≡◌, ℕ, sym, ap, subst, ◌∙◌}
use Rattle.std.specs.Prelude.{Some, None}
use Rattle.std.specs.BTreeMap.{is_at}
use Rattle.std.specs.Map.{remove_entry, set_value}
use Rattle.indexmap.specs.IndexMap.{set_value_at}
use Rattle.charmlet_model.specs.declared.message.Message.{Message}
use Rattle.charmlet_model.specs.declared.state.Resident.{Resident}
use Rattle.charmlet_model.specs.Names.{elem_cmp}
use Rattle.charmlet_model.specs.Shelves.{records_of}
use Rattle.charmlet_shelf.specs.Due.{Due, record_after}
use Rattle.charmlet_shelf.specs.Risen.{StandsAt, risen}
use Rattle.charmlet_shelf.proofs.CountsLemmas.{counts_settled}
use Rattle.charmlet_shelf.proofs.Holding.{advanced_shown, destroyed_shown, receiver_is}
use Rattle.charmlet_shelf.proofs.Records.{at}
use Rattle.charmlet_shelf.proofs.Risen.{found_here, rising_always, written_at}
use Rattle.charmlet_shelf.proofs.reactions.bring_forward.Goals as goal

pub returns-then-is_destroyed-clause-records : goal.returns-then-is_destroyed-clause-records
returns-then-is_destroyed-clause-records g c =
    let state = g.C.Chare.state in
    let entries = c.args.residents.now.entries in
    let es = risen entries in
    let due = c.args.outcome.now.due in
    let message : c.message.result.now ≡ due.message = c.message.ensures ∙ ap (λ (d : Due). d.message) c.delivery.ensures in
    ap (records_of state) (c.take.ensures.entries ∙ ap (λ (m : Message). remove_entry (is_at (elem_cmp m.to)) es) message)
    ∙ destroyed_shown state es due (rising_always entries) (sym c.is_destroyed.ensures ∙ c.if-is_destroyed.true)

pub returns-then-is_destroyed-clause-kind_version : goal.returns-then-is_destroyed-clause-kind_version
returns-then-is_destroyed-clause-kind_version g c =
    let state = g.C.Chare.state in
    let entries = c.args.residents.now.entries in
    let es = risen entries in
    let due = c.args.outcome.now.due in
    let message : c.message.result.now ≡ due.message = c.message.ensures ∙ ap (λ (d : Due). d.message) c.delivery.ensures in
    let here : at es due.message.to ≡ Some c.in-Some.resident = ap (λ (m : Message). at es m.to) (sym message) ∙ sym c.take.ensures.value ∙ c.in-Some.is in
    (receiver_is state es due c.in-Some.resident here (record_after due).state c.requires).kind_version

pub returns-then-is_destroyed-clause-count : goal.returns-then-is_destroyed-clause-count
returns-then-is_destroyed-clause-count g c = λ kind.
    let entries = c.args.residents.now.entries in
    counts_settled kind g.C.Chare.state (risen entries) (rising_always entries) c.args.outcome.now.due c.requires (Some c.in-Some.resident.object) _ (returns-then-is_destroyed-clause-records g c)
    (sym (sym c.is_destroyed.ensures ∙ c.if-is_destroyed.true)) (returns-then-is_destroyed-clause-kind_version g c)

pub returns-clause-records : goal.returns-clause-records
returns-clause-records g c =
    let state = g.C.Chare.state in
    let entries = c.args.residents.now.entries in
    let es = risen entries in
    let due = c.args.outcome.now.due in
    let message : c.message.result.now ≡ due.message = c.message.ensures ∙ ap (λ (d : Due). d.message) c.delivery.ensures in
    let old = c.pair_mut-resident.result.1.now in
    let new : Resident g.row.C.Denot = record { object = old.object; sent = c.counts.result.0; received = c.counts.result.1 } in
    let counted : new ≡ record { object = old.object; sent = (record_after due).sent; received = (record_after due).received } = ap (λ (p : ℕ × ℕ). record { object = old.object; sent = p.0; received = p.1 }) c.counts.ensures in
    let stands : StandsAt entries due.message.to c.in-Some-index_from.index = subst (λ (m : Message). StandsAt entries m.to c.in-Some-index_from.index) message c.in-Some-index_from.ensures.some in
    let here : at es due.message.to ≡ Some old = found_here entries due.message.to c.in-Some-index_from.index stands c.pair_mut-resident.result.0.now old c.pair_mut-resident.ensures.value in
    let written : risen (set_value_at entries c.in-Some-index_from.index new) ≡ set_value (is_at (elem_cmp due.message.to)) es new =
    written_at c.args.residents.now due.message.to c.in-Some-index_from.index new c.pair_mut-resident.ensures.unique stands in
    let receiver = receiver_is state es due old here (record_after due).state c.requires in
    ap (records_of state) (written ∙ ap (set_value (is_at (elem_cmp due.message.to)) es) counted)
    ∙ advanced_shown state es due old here (rising_always entries) receiver (sym c.is_destroyed.ensures ∙ c.if-is_destroyed.false)

pub returns-clause-count : goal.returns-clause-count
returns-clause-count g c = λ kind.
    let entries = c.args.residents.now.entries in
    counts_settled kind g.C.Chare.state (risen entries) (rising_always entries) c.args.outcome.now.due c.requires None _ (returns-clause-records g c)
    (sym (sym c.is_destroyed.ensures ∙ c.if-is_destroyed.false)) tt
