use Rattle.std.proofs.Common.{◌≡◌, true, List, sym, ap, subst, ◌∙◌}
use Rattle.std.specs.Map.{keys_of}
use Rattle.charmlet_model.specs.declared.names.Elem.{Elem}
use Rattle.charmlet_model.specs.declared.state.Record.{Record}
use Rattle.charmlet_model.specs.Shelves.{records_of}
use Rattle.charmlet_shelf.specs.Image.{AreImages}
use Rattle.charmlet_shelf.specs.Shelf.{View, is_idle}
use Rattle.charmlet_shelf.specs.Risen.{risen}
use Rattle.charmlet_shelf.proofs.Idle.{idle_records}
use Rattle.charmlet_shelf.proofs.Records.{keys_shown}
use Rattle.charmlet_shelf.proofs.shelf.Shelf.images.Goals as goal

pub returns-clause-ok : goal.returns-clause-ok
returns-clause-ok g c =
    let state = g.C.Chare.state in
    let es = risen c.self.inside.residents.entries in
    let now_idle : is_idle c.args.self.now.phase ≡ true = sym c.is_idle.ensures ∙ c.if-not-is_idle.false in
    let idle : is_idle c.self.inside.phase ≡ true = ap (λ (v : View). is_idle v.phase) c.self.view_is ∙ now_idle in
    let records : records_of state es ≡ c.args.self.now.records = sym (idle_records (records_of state es) c.self.inside.phase idle) ∙ ap (λ (v : View). v.records) c.self.view_is in (
      now_idle,
      subst (λ (rs : List (Elem × Record)). AreImages rs (keys_of rs) c.in-Ok.images.items) records
          (subst (λ xs. AreImages (records_of state es) xs c.in-Ok.images.items) (sym (keys_shown state es)) c.in-Ok.ensures.ok),
    )
