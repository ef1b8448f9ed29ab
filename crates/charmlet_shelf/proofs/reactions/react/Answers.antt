use Rattle.std.proofs.Common.{◌≡◌, ℕ, List, refl, sym, ap, subst, ◌∙◌}
use Rattle.std.specs.Prelude.{Option, Some}
use Rattle.std.specs.BTreeMap.{is_at}
use Rattle.std.specs.Map.{set_value}
use Rattle.charmlet_model.specs.declared.message.Message.{Message}
use Rattle.charmlet_model.specs.declared.kind_version.KindVersion.{KindVersion}
use Rattle.charmlet_model.specs.declared.state.Resident.{Resident}
use Rattle.charmlet_model.specs.declared.state.State.{State}
use Rattle.charmlet_model.specs.Names.{elem_cmp}
use Rattle.charmlet_model.specs.Reaction.{kind_version_of, react}
use Rattle.charmlet_model.specs.Shelves.{records_of}
use Rattle.charmlet_chare.specs.declared.output.Output.{Output}
use Rattle.charmlet_shelf.specs.Due.{reaction_in, record_after}
use Rattle.charmlet_shelf.specs.PerformedDelivery.{Performed}
use Rattle.charmlet_shelf.specs.Receiving.{Becomes, state_if}
use Rattle.charmlet_shelf.specs.Shelf.{Holds, before_due, without_newcomer}
use Rattle.charmlet_shelf.specs.declared.phase.Phase.TheVariants.{Done}
use Rattle.charmlet_shelf.specs.Risen.{StandsAt, risen}
use Rattle.indexmap.specs.IndexMap.{set_value_at}
use Rattle.charmlet_shelf.proofs.Risen.{found_here, rising_always, written_at}
use Rattle.charmlet_shelf.proofs.Holding.{before_is, before_stays, rising_written, written_here, done_is, holds_written, reacts_as, receiver_after, receiver_is, receiver_same}
use Rattle.charmlet_shelf.proofs.Records.{Rising, at}
use Rattle.charmlet_shelf.proofs.reactions.react.Goals as goal

-- the message's words are those of its slice
as_message : (k : KindVersion) (o : Option State) (out : Output) (s : State) (lent m : Message) → lent ≡ m → (words : List ℕ) → words ≡ lent.words → Becomes (react k lent.to o lent.entry words) out s →
    Becomes (react k m.to o m.entry m.words) out s
as_message k o out s lent m is words same made =
    subst (λ (m : Message). Becomes (react k m.to o m.entry m.words) out s) is (subst (λ ws. Becomes (react k lent.to o lent.entry ws) out s) same made)

pub new-requires-clause-made : goal.new-requires-clause-made
new-requires-clause-made g c =
    let state = g.C.Chare.state in
    let entries = c.args.residents.now.entries in
    let es = risen entries in
    let due = c.args.delivery in
    let old = c.pair_mut-resident.result.1.now in
    let stands : StandsAt entries due.message.to c.in-Some.index = subst (λ (m : Message). StandsAt entries m.to c.in-Some.index) c.message-message.ensures c.in-Some.ensures.some in
    let here : at es due.message.to ≡ Some old = found_here entries due.message.to c.in-Some.index stands c.pair_mut-resident.result.0.now old c.pair_mut-resident.ensures.value in
    let reacts = reacts_as state due old c.is_there-is_there.result (receiver_is state es due old here due.receiver.state c.requires) c.is_there-is_there.ensures.there in
    let made = as_message (kind_version_of (state old.object)) (state_if c.is_there-is_there.result (state old.object)) c.in-Ok.output (state c.receive.new.object) c.message-message.result.now due.message c.message-message.ensures c.as_slice-words.result.now c.as_slice-words.ensures c.in-Ok.ensures.ok in
    (made.0, sym reacts ∙ made.1, made.2)

pub returns-in-Ok-clause-ok : goal.returns-in-Ok-clause-ok
returns-in-Ok-clause-ok g c =
    let state = g.C.Chare.state in
    let entries = c.args.residents.now.entries in
    let es = risen entries in
    let due = c.args.delivery in
    let old = c.pair_mut-resident.result.1.now in
    let stands : StandsAt entries due.message.to c.in-Some.index = subst (λ (m : Message). StandsAt entries m.to c.in-Some.index) c.message-message.ensures c.in-Some.ensures.some in
    let new : Resident g.row.C.Denot = record { object = c.receive.new.object; sent = old.sent; received = old.received } in
    let here : at es due.message.to ≡ Some old = found_here entries due.message.to c.in-Some.index stands c.pair_mut-resident.result.0.now old c.pair_mut-resident.ensures.value in
    let receiver = receiver_is state es due old here due.receiver.state c.requires in
    let reacts = reacts_as state due old c.is_there-is_there.result receiver c.is_there-is_there.ensures.there in
    let made : Becomes (reaction_in due) c.in-Ok.output (state c.receive.new.object) =
    subst (λ o. Becomes o c.in-Ok.output (state c.receive.new.object)) reacts
    (as_message (kind_version_of (state old.object)) (state_if c.is_there-is_there.result (state old.object)) c.in-Ok.output (state c.receive.new.object) c.message-message.result.now due.message c.message-message.ensures c.as_slice-words.result.now c.as_slice-words.ensures c.in-Ok.ensures.ok) in
    let written : risen (set_value_at entries c.in-Some.index new) ≡ set_value (is_at (elem_cmp due.message.to)) es new =
    written_at c.args.residents.now due.message.to c.in-Some.index new c.pair_mut-resident.ensures.unique stands in (
      ap (λ (p : Performed). p.due) c.new.ensures,
      ap Done c.new.ensures ∙ done_is due c.in-Ok.output (state c.receive.new.object) made,
      subst (λ entries. Holds state entries due (record_after due).state) (sym written)
          (holds_written state es due old here new (record_after due).state
          (receiver_after state es due old here new c.in-Ok.output receiver c.in-Ok.ensures.kind_version refl refl made)),
    )

pub returns-in-Ok-clause-done : goal.returns-in-Ok-clause-done
returns-in-Ok-clause-done g c =
    let state = g.C.Chare.state in
    let entries = c.args.residents.now.entries in
    let es = risen entries in
    let due = c.args.delivery in
    let old = c.pair_mut-resident.result.1.now in
    let stands : StandsAt entries due.message.to c.in-Some.index = subst (λ (m : Message). StandsAt entries m.to c.in-Some.index) c.message-message.ensures c.in-Some.ensures.some in
    let new : Resident g.row.C.Denot = record { object = c.receive.new.object; sent = old.sent; received = old.received } in
    let here : at es due.message.to ≡ Some old = found_here entries due.message.to c.in-Some.index stands c.pair_mut-resident.result.0.now old c.pair_mut-resident.ensures.value in
    let receiver = receiver_is state es due old here due.receiver.state c.requires in
    let written : risen (set_value_at entries c.in-Some.index new) ≡ set_value (is_at (elem_cmp due.message.to)) es new =
    written_at c.args.residents.now due.message.to c.in-Some.index new c.pair_mut-resident.ensures.unique stands in
    let rising : Rising es = rising_always entries in
    ap (λ entries. before_due (records_of state entries) due) written ∙ before_stays state es due old here new rising ∙ sym (before_is state es due old here rising receiver)

pub returns-in-Err-clause-err : goal.returns-in-Err-clause-err
returns-in-Err-clause-err g c =
    let state = g.C.Chare.state in
    let entries = c.args.residents.now.entries in
    let es = risen entries in
    let due = c.args.delivery in
    let old = c.pair_mut-resident.result.1.now in
    let stands : StandsAt entries due.message.to c.in-Some.index = subst (λ (m : Message). StandsAt entries m.to c.in-Some.index) c.message-message.ensures c.in-Some.ensures.some in
    let new : Resident g.row.C.Denot = record { object = c.receive.new.object; sent = old.sent; received = old.received } in
    let here : at es due.message.to ≡ Some old = found_here entries due.message.to c.in-Some.index stands c.pair_mut-resident.result.0.now old c.pair_mut-resident.ensures.value in
    let receiver = receiver_is state es due old here due.receiver.state c.requires in
    let written : risen (set_value_at entries c.in-Some.index new) ≡ set_value (is_at (elem_cmp due.message.to)) es new =
    written_at c.args.residents.now due.message.to c.in-Some.index new c.pair_mut-resident.ensures.unique stands in (
      refl,
      subst (λ entries. Holds state entries due due.receiver.state) (sym written)
          (holds_written state es due old here new due.receiver.state (receiver_same state es due old here new due.receiver.state receiver c.in-Err.ensures.err refl refl)),
    )

pub returns-in-Err-clause-same : goal.returns-in-Err-clause-same
returns-in-Err-clause-same g c =
    let state = g.C.Chare.state in
    let entries = c.args.residents.now.entries in
    let es = risen entries in
    let due = c.args.delivery in
    let old = c.pair_mut-resident.result.1.now in
    let stands : StandsAt entries due.message.to c.in-Some.index = subst (λ (m : Message). StandsAt entries m.to c.in-Some.index) c.message-message.ensures c.in-Some.ensures.some in
    let new : Resident g.row.C.Denot = record { object = c.receive.new.object; sent = old.sent; received = old.received } in
    let here : at es due.message.to ≡ Some old = found_here entries due.message.to c.in-Some.index stands c.pair_mut-resident.result.0.now old c.pair_mut-resident.ensures.value in
    let receiver = receiver_is state es due old here due.receiver.state c.requires in
    let written : risen (set_value_at entries c.in-Some.index new) ≡ set_value (is_at (elem_cmp due.message.to)) es new =
    written_at c.args.residents.now due.message.to c.in-Some.index new c.pair_mut-resident.ensures.unique stands in
    let rising : Rising es = rising_always entries in
    let same = receiver_same state es due old here new due.receiver.state receiver c.in-Err.ensures.err refl refl in
    let es' = set_value (is_at (elem_cmp due.message.to)) es new in
    ap (λ entries. without_newcomer (records_of state entries) due) written
    ∙ before_is state es' due new (written_here state es due old here new) (rising_written state es due old here new rising) same
    ∙ before_stays state es due old here new rising ∙ sym (before_is state es due old here rising receiver)
