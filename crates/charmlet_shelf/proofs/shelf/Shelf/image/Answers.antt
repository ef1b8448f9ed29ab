use Rattle.std.proofs.Common.{◌≡◌, true, false, List, sym, ap, subst, ◌∙◌}
use Rattle.std.specs.Prelude.{IfSome, is_some}
use Rattle.charmlet_model.specs.declared.names.Elem.{Elem}
use Rattle.charmlet_model.specs.declared.state.Record.{Record}
use Rattle.charmlet_model.specs.Shelves.{records_of}
use Rattle.charmlet_shelf.specs.Image.{IsImage}
use Rattle.charmlet_shelf.specs.Shelf.{View, is_idle}
use Rattle.charmlet_shelf.specs.Risen.{risen}
use Rattle.charmlet_shelf.proofs.Idle.{idle_records}
use Rattle.charmlet_shelf.proofs.Images.{no_image, some_image}
use Rattle.charmlet_shelf.proofs.Records.{at, there_shown}
use Rattle.charmlet_shelf.proofs.Risen.{found_risen}
use Rattle.charmlet_shelf.proofs.shelf.Shelf.image.Goals as goal

pub returns-then-not-contains_key-clause-ok : goal.returns-then-not-contains_key-clause-ok
returns-then-not-contains_key-clause-ok g c =
    let state = g.C.Chare.state in
    let es = risen c.self.inside.residents.entries in
    let now_idle : is_idle c.args.self.now.phase ≡ true = sym c.is_idle.ensures ∙ c.if-not-is_idle.false in
    let idle : is_idle c.self.inside.phase ≡ true = ap (λ (v : View). is_idle v.phase) c.self.view_is ∙ now_idle in
    let records : records_of state es ≡ c.args.self.now.records = sym (idle_records (records_of state es) c.self.inside.phase idle) ∙ ap (λ (v : View). v.records) c.self.view_is in
    let none : is_some (at es c.args.elem) ≡ false = ap is_some (found_risen c.args.elem c.self.inside.residents.entries) ∙ sym c.contains_key.ensures ∙ c.if-not-contains_key.true in
    (now_idle, no_image (at c.args.self.now.records c.args.elem) c.args.elem (ap (λ rs. is_some (at rs c.args.elem)) (sym records) ∙ there_shown state es c.args.elem ∙ none))

pub returns-in_default-clause-absent : goal.returns-in_default-clause-absent
returns-in_default-clause-absent g c = λ _ absent.
    let state = g.C.Chare.state in
    let es = risen c.self.inside.residents.entries in
    let now_idle : is_idle c.args.self.now.phase ≡ true = sym c.is_idle.ensures ∙ c.if-not-is_idle.false in
    let idle : is_idle c.self.inside.phase ≡ true = ap (λ (v : View). is_idle v.phase) c.self.view_is ∙ now_idle in
    let records : records_of state es ≡ c.args.self.now.records = sym (idle_records (records_of state es) c.self.inside.phase idle) ∙ ap (λ (v : View). v.records) c.self.view_is in
    let here : is_some (at es c.args.elem) ≡ true = ap is_some (found_risen c.args.elem c.self.inside.residents.entries) ∙ sym c.contains_key.ensures ∙ c.if-not-contains_key.false in
    sym (ap is_some absent) ∙ ap (λ rs. is_some (at rs c.args.elem)) (sym records) ∙ there_shown state es c.args.elem ∙ here

pub returns-clause-ok : goal.returns-clause-ok
returns-clause-ok g c =
    let state = g.C.Chare.state in
    let es = risen c.self.inside.residents.entries in
    let now_idle : is_idle c.args.self.now.phase ≡ true = sym c.is_idle.ensures ∙ c.if-not-is_idle.false in
    let idle : is_idle c.self.inside.phase ≡ true = ap (λ (v : View). is_idle v.phase) c.self.view_is ∙ now_idle in
    let records : records_of state es ≡ c.args.self.now.records = sym (idle_records (records_of state es) c.self.inside.phase idle) ∙ ap (λ (v : View). v.records) c.self.view_is in
    let here : is_some (at es c.args.elem) ≡ true = ap is_some (found_risen c.args.elem c.self.inside.residents.entries) ∙ sym c.contains_key.ensures ∙ c.if-not-contains_key.false in (
      now_idle,
      some_image (at c.args.self.now.records c.args.elem) c.args.elem c.in-Ok.image (ap (λ rs. is_some (at rs c.args.elem)) (sym records) ∙ there_shown state es c.args.elem ∙ here)
          (subst (λ (rs : List (Elem × Record)). IfSome (at rs c.args.elem) (IsImage c.in-Ok.image c.args.elem)) records c.in-Ok.ensures.ok),
    )

pub image_at-requires-after_bounds : goal.image_at-requires-after_bounds
image_at-requires-after_bounds g c κs within =
    ap is_some (found_risen c.args.elem c.self.inside.residents.entries) ∙ sym c.contains_key.ensures ∙ c.if-not-contains_key.false
