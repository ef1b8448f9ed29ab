use Rattle.std.proofs.Common.{inr, ℕ, ◌≤◌, ◌^◌, length, sym, ap, subst, ◌∙◌, arith, rules}
use Rattle.std.specs.Prelude.{All}
use Rattle.charmlet_model.specs.declared.kind_version.KindVersion.{KindVersion}
use Rattle.charmlet_model.specs.declared.message.Message.{Message}
use Rattle.charmlet_model.specs.declared.names.Elem.{Elem}
use Rattle.charmlet_model.specs.declared.state.Record.{Record}
use Rattle.charmlet_model.specs.Core.{present}
use Rattle.charmlet_model.proofs.SoundLemmas.{sound_fit}
use Rattle.charmlet_record.specs.Limits.{AreFewWords}
use Rattle.charmlet_history.specs.Kept.{core_in}
use Rattle.charmlet_world.specs.Seen.{present_rows}
use Rattle.charmlet_history.specs.Records.{records_from}
use Rattle.charmlet_history.proofs.RecordLists.{records_are}
use Rattle.charmlet_persist.specs.Snapshot.Showing.{IsRefusal, state_in}
use Rattle.charmlet_persist.proofs.SnapshotLemmas.Whole.{lists_are, messages_short, pending_pass_limit, records_pass_limit, rows_few, rows_short}
use Rattle.charmlet_persist.proofs.snapshot.image.append_lists.Goals as goal

pub append_arrays-requires : goal.append_arrays-requires
append_arrays-requires g c =
    let fit = sound_fit (core_in c.args.history.now) c.facts.ensures.sound in
    omega (arith, fit.few_arrays, ap (length {A = ℕ × KindVersion}) c.manifest.ensures)

pub append_clients-requires-clause-few : goal.append_clients-requires-clause-few
append_clients-requires-clause-few g c =
    let core = core_in c.args.history.now in
    rows_few (present core) (sound_fit core c.facts.ensures.sound) c.clients.result.now.entries c.clients.ensures

pub append_clients-requires-clause-short : goal.append_clients-requires-clause-short
append_clients-requires-clause-short g c =
    let core = core_in c.args.history.now in
    rows_short (present core) (sound_fit core c.facts.ensures.sound) c.clients.result.now.entries c.clients.ensures

pub returns-in_err-count-clause-err : goal.returns-in_err-count-clause-err
returns-in_err-count-clause-err g c =
    let core = core_in c.args.history.now in
    let many : 2 ^ 32 ≤ length (present core).pending = omega (arith, c.in_err-count.ensures.err.1, c.pending_count.ensures) in
    let refused : IsRefusal core c.in_err-count.field-0.0 = inr (c.in_err-count.ensures.err.0, pending_pass_limit core many) in
    search rules

pub append_pending-requires-clause-short : goal.append_pending-requires-clause-short
append_pending-requires-clause-short g c =
    let core = core_in c.args.history.now in
    subst (All (λ (m : Message). AreFewWords m.words)) (sym c.messages.ensures) (messages_short (present core) (sound_fit core c.facts.ensures.sound))

pub returns-in_err-count-2-clause-err : goal.returns-in_err-count-2-clause-err
returns-in_err-count-2-clause-err g c =
    let core = core_in c.args.history.now in
    let state = state_in c.args.history.now in
    let counted = c.count_records.ensures state in
    let entries = ap (λ es. length (records_from state es)) c.in_ok-elements.ensures in
    let records = ap (length {A = Elem × Record}) (records_are c.args.history.now c.facts.ensures) in
    let many : 2 ^ 32 ≤ length (present core).records = omega (arith, c.in_err-count-2.ensures.err.1, counted, entries, records) in
    let refused : IsRefusal core c.in_err-count-2.field-0.0 = inr (c.in_err-count-2.ensures.err.0, records_pass_limit core many) in
    search rules

pub append_pending-requires-clause-count : goal.append_pending-requires-clause-count
append_pending-requires-clause-count g c = c.in_ok-count.ensures.ok ∙ c.pending_count.ensures ∙ ap (length {A = Message}) (sym c.messages.ensures)

pub append_records-requires-clause-count : goal.append_records-requires-clause-count
append_records-requires-clause-count g c κs within =
    let state = state_in c.args.history.now in
    let counted = c.count_records.ensures state in
    let entries = ap (λ es. length (records_from state es)) c.in_ok-elements.ensures in
    let records = ap (length {A = Elem × Record}) (records_are c.args.history.now c.facts.ensures) in
    c.in_ok-count-2.ensures.ok ∙ counted ∙ entries ∙ records

pub returns-clause-ok : goal.returns-clause-ok
returns-clause-ok g c =
    let core = core_in c.args.history.now in
    lists_are core c.args.out.now.items c.append_arrays.new.out.items c.append_clients.new.out.items c.append_pending.new.out.items c.append_records.new.out.items c.append_no_items.new.out.items
    c.manifest.result.now (present_rows c.clients.result.now.entries) c.messages.result c.manifest.ensures c.clients.ensures c.messages.ensures
    c.in_ok-append_arrays.ensures c.in_ok-append_clients.ensures c.in_ok-append_pending.ensures c.in_ok-append_records.ensures.ok c.in_ok-append_no_items.ensures
