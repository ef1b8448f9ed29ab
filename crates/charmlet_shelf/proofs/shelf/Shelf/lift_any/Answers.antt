use Rattle.std.proofs.Common.{◌≡◌, true, sym, ap, ◌∙◌}
use Rattle.std.specs.Prelude.{Some, None, IfSome}
use Rattle.std.specs.BTreeMap.{is_at}
use Rattle.std.specs.Map.{remove_entry}
use Rattle.charmlet_model.specs.Names.{elem_cmp}
use Rattle.charmlet_model.specs.Shelves.{record_in, records_of}
use Rattle.charmlet_shelf.specs.Risen.{risen}
use Rattle.charmlet_shelf.specs.Shelf.{View, is_idle, records_before}
use Rattle.charmlet_shelf.proofs.Idle.{idle_records}
use Rattle.charmlet_shelf.proofs.Records.{at, shown_taken, shown_there}
use Rattle.charmlet_shelf.proofs.Risen.{popped}
use Rattle.charmlet_shelf.proofs.shelf.Shelf.lift_any.Goals as goal

pub returns-clause-some : goal.returns-clause-some
returns-clause-some g c =
    let state = g.C.Chare.state in
    let es = risen c.self.inside.residents.entries in
    let left = risen c.pop.new.self.entries in
    let phase = c.self.inside.phase in
    let idle : is_idle phase ≡ true = ap (λ (v : View). is_idle v.phase) c.self.view_is ∙ c.requires in
    let records : records_of state es ≡ c.args.self.now.records = sym (idle_records (records_of state es) phase idle) ∙ ap (λ (v : View). v.records) c.self.view_is in
    elim c.pop.result as (λ o. IfSome o (λ e. (at es e.0 ≡ Some e.1) × (left ≡ remove_entry (is_at (elem_cmp e.0)) es))
    → IfSome o (λ e. (at c.args.self.now.records e.0 ≡ Some (record_in state e.1)) × (records_before (records_of state left) phase ≡ remove_entry (is_at (elem_cmp e.0)) c.args.self.now.records))) [
      | None ↦ λ _. tt
      | Some e ↦ λ out. (
        ap (λ rs. at rs e.0) (sym records) ∙ shown_there state es e.0 e.1 out.0,
        idle_records (records_of state left) phase idle ∙ ap (records_of state) out.1 ∙ shown_taken state (is_at (elem_cmp e.0)) es ∙ ap (remove_entry (is_at (elem_cmp e.0))) records,
      )
    ] (popped c.self.inside.residents c.pop.new.self c.pop.result c.pop.ensures.entries c.pop.ensures.updates)
