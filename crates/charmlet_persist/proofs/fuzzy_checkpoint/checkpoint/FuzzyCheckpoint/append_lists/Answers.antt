use Rattle.std.proofs.Common.{inr, ℕ, ◌≡◌, ◌≤◌, ◌^◌, ◌++◌, length, sym, ap, subst, ◌∙◌, arith, rules}
use Rattle.std.specs.Prelude.{All, IfSome, Option}
use Rattle.charmlet_model.specs.declared.kind_version.KindVersion.{KindVersion}
use Rattle.charmlet_model.specs.declared.message.Message.{Message}
use Rattle.charmlet_model.specs.declared.names.Elem.{Elem}
use Rattle.charmlet_model.specs.Core.{present}
use Rattle.charmlet_model.proofs.SoundLemmas.{sound_fit}
use Rattle.charmlet_record.specs.Limits.{AreFewWords}
use Rattle.charmlet_history.specs.Kept.{core_in}
use Rattle.charmlet_world.specs.Seen.{present_rows}
use Rattle.charmlet_pup.specs.Fields.{number_bytes}
use Rattle.charmlet_persist.proofs.SnapshotLemmas.Whole.{messages_short, rows_few, rows_short}
use Rattle.charmlet_persist.specs.declared.fuzzy_checkpoint.captured_element.CapturedElement.{CapturedElement}
use Rattle.charmlet_persist.specs.FuzzyCheckpoint.Checkpoint.{Run}
use Rattle.charmlet_persist.specs.FuzzyCheckpoint.Sealing.{IsRefusal, IsShort, count_kept, spell_entries}
use Rattle.charmlet_persist.proofs.FuzzyCheckpointLemmas.Sealings.{all_short, deliveries_pass_limit, entries_pass_limit, lists_are, pending_pass_limit}
use Rattle.charmlet_persist.proofs.fuzzy_checkpoint.checkpoint.FuzzyCheckpoint.append_lists.Goals as goal

pub append_arrays-requires : goal.append_arrays-requires
append_arrays-requires c =
    let fit = sound_fit (core_in c.args.history.now) c.facts.ensures.sound in
    omega (arith, fit.few_arrays, ap (length {A = ℕ × KindVersion}) c.manifest.ensures)

pub append_clients-requires-clause-few : goal.append_clients-requires-clause-few
append_clients-requires-clause-few c =
    let core = core_in c.args.history.now in
    rows_few (present core) (sound_fit core c.facts.ensures.sound) c.clients.result.now.entries c.clients.ensures

pub append_clients-requires-clause-short : goal.append_clients-requires-clause-short
append_clients-requires-clause-short c =
    let core = core_in c.args.history.now in
    rows_short (present core) (sound_fit core c.facts.ensures.sound) c.clients.result.now.entries c.clients.ensures

pub returns-in_err-messages-clause-err : goal.returns-in_err-messages-clause-err
returns-in_err-messages-clause-err c =
    let core = core_in c.args.history.now in
    let run : Run = c.args.self.now in
    let many : 2 ^ 32 ≤ length (present core).pending = omega (arith, c.in_err-messages.ensures.err.1, c.pending_count.ensures) in
    let refused : IsRefusal core run c.in_err-messages.field-0.0 = inr (c.in_err-messages.ensures.err.0, pending_pass_limit core run c.requires.running c.requires.captured c.facts.ensures.sound many) in
    search rules

pub append_pending-requires-clause-short : goal.append_pending-requires-clause-short
append_pending-requires-clause-short c =
    let core = core_in c.args.history.now in
    subst (All (λ (m : Message). AreFewWords m.words)) (sym c.messages.ensures) (messages_short (present core) (sound_fit core c.facts.ensures.sound))

pub append_pending-requires-clause-count : goal.append_pending-requires-clause-count
append_pending-requires-clause-count c = c.in_ok-messages.ensures.ok ∙ c.pending_count.ensures ∙ ap (length {A = Message}) (sym c.messages.ensures)

pub append_entries-requires-clause-short : goal.append_entries-requires-clause-short
append_entries-requires-clause-short c =
    let run : Run = c.args.self.now in
    let is : c.rise.new.table.entries ≡ run.captured = c.in_ok-rise.ensures.ok ∙ ap (λ (r : Run). r.captured) c.self.view_is in
    subst (All (λ (e : Elem × Option CapturedElement). IfSome e.1 IsShort)) (sym is) (all_short (core_in c.args.history.now) run c.requires.running c.requires.captured c.facts.ensures.sound)

pub append_entries-requires-clause-count : goal.append_entries-requires-clause-count
append_entries-requires-clause-count c = c.in_ok-entries.ensures.ok ∙ c.count_entries.ensures

pub returns-in_err-entries-clause-err : goal.returns-in_err-entries-clause-err
returns-in_err-entries-clause-err c =
    let core = core_in c.args.history.now in
    let run : Run = c.args.self.now in
    let is : c.rise.new.table.entries ≡ run.captured = c.in_ok-rise.ensures.ok ∙ ap (λ (r : Run). r.captured) c.self.view_is in
    let many : 2 ^ 32 ≤ count_kept run.captured = omega (arith, c.in_err-entries.ensures.err.1, c.count_entries.ensures, ap count_kept is) in
    let refused : IsRefusal core run c.in_err-entries.field-0.0 = inr (c.in_err-entries.ensures.err.0, entries_pass_limit core run c.requires.running c.requires.captured c.facts.ensures.sound many) in
    search rules

pub returns-in_err-deliveries-clause-err : goal.returns-in_err-deliveries-clause-err
returns-in_err-deliveries-clause-err c =
    let core = core_in c.args.history.now in
    let run : Run = c.args.self.now in
    let many : 2 ^ 32 ≤ run.count = omega (arith, c.in_err-deliveries.ensures.err.1, ap (λ (r : Run). r.count) c.self.view_is) in
    let refused : IsRefusal core run c.in_err-deliveries.field-0.0 = inr (c.in_err-deliveries.ensures.err.0, deliveries_pass_limit core run c.requires.running c.requires.captured c.facts.ensures.sound many) in
    search rules

pub returns-clause-ok : goal.returns-clause-ok
returns-clause-ok c =
    let core = core_in c.args.history.now in
    let run : Run = c.args.self.now in
    let is : c.rise.new.table.entries ≡ run.captured = c.in_ok-rise.ensures.ok ∙ ap (λ (r : Run). r.captured) c.self.view_is in
    let count : c.in_ok-deliveries.deliveries ≡ run.count = c.in_ok-deliveries.ensures.ok ∙ ap (λ (r : Run). r.count) c.self.view_is in
    let bytes : c.as_slice.result.now ≡ run.caught_up = c.as_slice.ensures.value ∙ ap (λ (r : Run). r.caught_up) c.self.view_is in
    lists_are core run c.requires.running c.requires.captured c.facts.ensures.sound
    c.args.out.now.items c.append_arrays.new.out.items c.append_clients.new.out.items c.append_pending.new.out.items c.append_entries.new.out.items c.append_list.new.out.items
    c.manifest.result.now (present_rows c.clients.result.now.entries) c.messages.result c.manifest.ensures c.clients.ensures c.messages.ensures
    c.in_ok-append_arrays.ensures c.in_ok-append_clients.ensures c.in_ok-append_pending.ensures
    (c.in_ok-append_entries.ensures ∙ (λ i. c.append_pending.new.out.items ++ spell_entries (is i)))
    (c.in_ok-append_list.ensures ∙ (λ i. c.append_entries.new.out.items ++ (number_bytes 4 (count i) ++ bytes i)))
