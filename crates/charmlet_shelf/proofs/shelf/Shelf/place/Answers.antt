use Rattle.std.proofs.Common.{rules, ◌≡◌, true, sym, ap, ◌∙◌}
use Rattle.std.specs.BTreeMap.{insert_entry}
use Rattle.charmlet_model.specs.Names.{elem_cmp}
use Rattle.charmlet_model.specs.Shelves.{record_in, records_of}
use Rattle.charmlet_shelf.specs.Shelf.{View, is_idle}
use Rattle.charmlet_shelf.specs.Risen.{risen}
use Rattle.charmlet_shelf.proofs.Idle.{idle_records}
use Rattle.charmlet_shelf.proofs.Records.{shown_put}
use Rattle.charmlet_shelf.proofs.shelf.Shelf.place.Goals as goal

pub returns-clause-ok : goal.returns-clause-ok
returns-clause-ok g c =
    let state = g.C.Chare.state in
    let es = risen c.self.inside.residents.entries in
    let phase = c.self.inside.phase in
    let now_idle : is_idle c.args.self.now.phase ≡ true = sym c.is_idle.ensures ∙ c.if-not-is_idle.false in
    let idle : is_idle phase ≡ true = ap (λ (v : View). is_idle v.phase) c.self.view_is ∙ now_idle in
    let records : records_of state es ≡ c.args.self.now.records = sym (idle_records (records_of state es) phase idle) ∙ ap (λ (v : View). v.records) c.self.view_is in
    let put : risen c.put.new.residents.entries ≡ insert_entry elem_cmp es c.args.elem c.args.resident = search rules in (
      now_idle,
      λ i. record {
        number = ap (λ (v : View). v.number) c.self.view_is i;
        records = (idle_records (records_of state (risen c.put.new.residents.entries)) phase idle ∙ ap (records_of state) put ∙ shown_put state es c.args.elem c.args.resident ∙ ap (λ rs. insert_entry elem_cmp rs c.args.elem (record_in state c.args.resident)) records) i;
        phase = ap (λ (v : View). v.phase) c.self.view_is i;
      },
    )
