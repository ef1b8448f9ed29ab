use Rattle.std.proofs.Common.{◌≡◌, true, false, cond, sym, ap, ◌∙◌}
use Rattle.std.specs.Prelude.{Some, None, is_some}
use Rattle.std.specs.BTreeMap.{is_at}
use Rattle.std.specs.Map.{remove_entry}
use Rattle.charmlet_model.specs.declared.refusal.Refusal.TheVariants as refusals
use Rattle.charmlet_model.specs.Names.{elem_cmp}
use Rattle.charmlet_model.specs.Shelves.{records_of}
use Rattle.charmlet_shelf.specs.Shelf.{View, is_idle}
use Rattle.charmlet_shelf.specs.Risen.{risen}
use Rattle.charmlet_shelf.proofs.Idle.{idle_records}
use Rattle.charmlet_shelf.proofs.Records.{at, shown_nowhere, shown_taken, shown_there}
use Rattle.charmlet_shelf.proofs.shelf.Shelf.lift.Goals as goal

pub returns-clause-ok : goal.returns-clause-ok
returns-clause-ok g c =
    let state = g.C.Chare.state in
    let es = risen c.self.inside.residents.entries in
    let phase = c.self.inside.phase in
    let now_idle : is_idle c.args.self.now.phase ≡ true = sym c.is_idle.ensures ∙ c.if-not-is_idle.false in
    let idle : is_idle phase ≡ true = ap (λ (v : View). is_idle v.phase) c.self.view_is ∙ now_idle in
    let records : records_of state es ≡ c.args.self.now.records = sym (idle_records (records_of state es) phase idle) ∙ ap (λ (v : View). v.records) c.self.view_is in
    let here : at es c.args.elem ≡ Some c.in-Some.resident = sym c.take.ensures.value ∙ c.in-Some.is in (
      now_idle,
      ap (λ rs. at rs c.args.elem) (sym records) ∙ shown_there state es c.args.elem c.in-Some.resident here,
      λ i. record {
        number = ap (λ (v : View). v.number) c.self.view_is i;
        records = (idle_records (records_of state (risen c.take.new.residents.entries)) phase idle ∙ ap (records_of state) c.take.ensures.entries ∙ shown_taken state (is_at (elem_cmp c.args.elem)) es ∙ ap (remove_entry (is_at (elem_cmp c.args.elem))) records) i;
        phase = ap (λ (v : View). v.phase) c.self.view_is i;
      },
    )

pub returns-in_default-clause-err : goal.returns-in_default-clause-err
returns-in_default-clause-err g c =
    let state = g.C.Chare.state in
    let es = risen c.self.inside.residents.entries in
    let phase = c.self.inside.phase in
    let now_idle : is_idle c.args.self.now.phase ≡ true = sym c.is_idle.ensures ∙ c.if-not-is_idle.false in
    let idle : is_idle phase ≡ true = ap (λ (v : View). is_idle v.phase) c.self.view_is ∙ now_idle in
    let records : records_of state es ≡ c.args.self.now.records = sym (idle_records (records_of state es) phase idle) ∙ ap (λ (v : View). v.records) c.self.view_is in
    let none : at es c.args.elem ≡ None = sym c.take.ensures.value ∙ c.in_default.is in
    let missing : is_some (at c.args.self.now.records c.args.elem) ≡ false = ap (λ rs. is_some (at rs c.args.elem)) (sym records) ∙ ap is_some (shown_nowhere state es c.args.elem none) in
    sym ((λ i. cond (now_idle i) (cond (missing i) None (Some refusals.Absent)) (Some refusals.Uncommitted)))
