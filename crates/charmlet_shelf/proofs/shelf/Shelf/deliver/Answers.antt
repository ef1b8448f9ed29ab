use Rattle.std.proofs.Common.{◌≡◌, List, true, false, cond, sym, ap, subst, ◌∙◌}
use Rattle.std.specs.Prelude.{Some, None, is_some, unwrap_or}
use Rattle.charmlet_model.specs.declared.message.Message.{Message}
use Rattle.charmlet_model.specs.declared.names.Elem.{Elem}
use Rattle.charmlet_model.specs.declared.refusal.Refusal.TheVariants as refusals
use Rattle.charmlet_model.specs.declared.state.Record.{Record}
use Rattle.charmlet_model.specs.Shelves.{records_of}
use Rattle.charmlet_shelf.specs.Due.{Due}
use Rattle.charmlet_shelf.specs.Lending.{IsCarriedOut}
use Rattle.charmlet_shelf.specs.Risen.{StandsAt, risen}
use Rattle.charmlet_shelf.specs.Shelf.{IsDueAt, View, is_idle, records_before}
use Rattle.charmlet_shelf.proofs.Idle.{idle_records}
use Rattle.charmlet_shelf.proofs.Records.{at, shown_nowhere, shown_there}
use Rattle.charmlet_shelf.proofs.shelf.Shelf.deliver.Goals as goal

pub returns-in_default-clause-err : goal.returns-in_default-clause-err
returns-in_default-clause-err g c =
    let state = g.C.Chare.state in
    let es = risen c.self.inside.residents.entries in
    let phase = c.self.inside.phase in
    let now_idle : is_idle c.args.self.now.phase ≡ true = sym c.is_idle.ensures ∙ c.if-not-is_idle.false in
    let idle : is_idle phase ≡ true = ap (λ (v : View). is_idle v.phase) c.self.view_is ∙ now_idle in
    let records : records_of state es ≡ c.args.self.now.records = sym (idle_records (records_of state es) phase idle) ∙ ap (λ (v : View). v.records) c.self.view_is in
    let none : at es c.args.to ≡ None = c.index_from.ensures.none c.in_default.is in
    let missing : is_some (at c.args.self.now.records c.args.to) ≡ false = ap (λ rs. is_some (at rs c.args.to)) (sym records) ∙ ap is_some (shown_nowhere state es c.args.to none) in
    sym (λ i. unwrap_or (cond (now_idle i) (cond (missing i) None (Some refusals.Absent)) (Some refusals.Uncommitted)) refusals.Memory)

pub returns-in_default-deliver_at-clause-err : goal.returns-in_default-deliver_at-clause-err
returns-in_default-deliver_at-clause-err g c =
    let state = g.C.Chare.state in
    let es = risen c.self.inside.residents.entries in
    let phase = c.self.inside.phase in
    let now_idle : is_idle c.args.self.now.phase ≡ true = sym c.is_idle.ensures ∙ c.if-not-is_idle.false in
    let idle : is_idle phase ≡ true = ap (λ (v : View). is_idle v.phase) c.self.view_is ∙ now_idle in
    let records : records_of state es ≡ c.args.self.now.records = sym (idle_records (records_of state es) phase idle) ∙ ap (λ (v : View). v.records) c.self.view_is in
    let stands : StandsAt c.self.inside.residents.entries c.args.to c.in-Some.index = c.in-Some.ensures.some in
    let there : is_some (at c.args.self.now.records c.args.to) ≡ true = ap (λ rs. is_some (at rs c.args.to)) (sym records) ∙ ap is_some (shown_there state es c.args.to stands.value stands.found) in
    sym (λ i. unwrap_or (cond (now_idle i) (cond (there i) None (Some refusals.Absent)) (Some refusals.Uncommitted)) refusals.Memory)

pub returns-clause-ok : goal.returns-clause-ok
returns-clause-ok g c = λ id.
    let state = g.C.Chare.state in
    let es = risen c.self.inside.residents.entries in
    let phase = c.self.inside.phase in
    let now_idle : is_idle c.args.self.now.phase ≡ true = sym c.is_idle.ensures ∙ c.if-not-is_idle.false in
    let idle : is_idle phase ≡ true = ap (λ (v : View). is_idle v.phase) c.self.view_is ∙ now_idle in
    let records : records_of state es ≡ c.args.self.now.records = sym (idle_records (records_of state es) phase idle) ∙ ap (λ (v : View). v.records) c.self.view_is in
    let m : Message = record { id = id; to = c.args.to; entry = c.args.entry; words = c.args.words.now } in
    let left = records_of state (risen c.deliver_at.new.residents.entries) in
    subst (λ (rs : List (Elem × Record)). (due : Due) × IsDueAt rs m due × IsCarriedOut state rs due c.in-Ok.delivered.output c.in-Ok.delivered.destroyed (records_before left phase)) records
    (subst (λ after. (due : Due) × IsDueAt (records_of state es) m due × IsCarriedOut state (records_of state es) due c.in-Ok.delivered.output c.in-Ok.delivered.destroyed after)
    (sym (idle_records left phase idle)) (c.in-Ok.ensures.ok id))
