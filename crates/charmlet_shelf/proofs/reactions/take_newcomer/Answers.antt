use Rattle.std.proofs.Common.{◌≡◌, cond, sym, ap, ◌∙◌}
use Rattle.std.specs.Prelude.{Some, None, not}
use Rattle.std.specs.BTreeMap.{is_at}
use Rattle.std.specs.Map.{remove_entry}
use Rattle.charmlet_model.specs.declared.message.Message.{Message}
use Rattle.charmlet_model.specs.Names.{elem_cmp}
use Rattle.charmlet_model.specs.Shelves.{records_of}
use Rattle.charmlet_shelf.specs.Risen.{risen}
use Rattle.charmlet_shelf.proofs.CountsLemmas.{counts_released, is_none_not}
use Rattle.charmlet_shelf.proofs.Holding.{receiver_is}
use Rattle.charmlet_shelf.proofs.Records.{at, shown_taken}
use Rattle.charmlet_shelf.proofs.reactions.take_newcomer.Goals as goal

pub returns-then-is_there-clause-records : goal.returns-then-is_there-clause-records
returns-then-is_there-clause-records g c =
    let rs = records_of g.C.Chare.state (risen c.args.residents.now.entries) in
    sym (ap (λ b. cond b rs (remove_entry (is_at (elem_cmp c.args.delivery.now.message.to)) rs)) (sym c.is_there.ensures.there ∙ c.if-is_there.true))

pub returns-clause-records : goal.returns-clause-records
returns-clause-records g c =
    let state = g.C.Chare.state in
    let es = risen c.args.residents.now.entries in
    let rs = records_of state es in
    ap (records_of state) c.take.ensures.entries
    ∙ shown_taken state (is_at (elem_cmp c.message.result.now.to)) es
    ∙ ap (λ (m : Message). remove_entry (is_at (elem_cmp m.to)) rs) c.message.ensures
    ∙ sym (ap (λ b. cond b rs (remove_entry (is_at (elem_cmp c.args.delivery.now.message.to)) rs)) (sym c.is_there.ensures.there ∙ c.if-is_there.false))

pub returns-clause-kind_version : goal.returns-clause-kind_version
returns-clause-kind_version g c =
    let es = risen c.args.residents.now.entries in
    let due = c.args.delivery.now in
    let here : at es due.message.to ≡ Some c.in-Some.resident = ap (λ (m : Message). at es m.to) (sym c.message.ensures) ∙ sym c.take.ensures.value ∙ c.in-Some.is in
    (receiver_is g.C.Chare.state es due c.in-Some.resident here due.receiver.state c.requires).kind_version

pub returns-then-is_there-clause-count : goal.returns-then-is_there-clause-count
returns-then-is_there-clause-count g c = λ kind.
    counts_released kind g.C.Chare.state c.args.delivery.now None _ _ (returns-then-is_there-clause-records g c)
    (sym (is_none_not c.args.delivery.now.receiver.state ∙ ap not (sym c.is_there.ensures.there ∙ c.if-is_there.true))) tt

pub returns-clause-count : goal.returns-clause-count
returns-clause-count g c = λ kind.
    counts_released kind g.C.Chare.state c.args.delivery.now (Some c.in-Some.resident.object) _ _ (returns-clause-records g c)
    (sym (is_none_not c.args.delivery.now.receiver.state ∙ ap not (sym c.is_there.ensures.there ∙ c.if-is_there.false))) (returns-clause-kind_version g c)
