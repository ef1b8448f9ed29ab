-- What is kept of elements, once it goes on in the newest versions.
use Rattle.std.proofs.Common.{◌≡◌, Bool, true, cond, List, [], ◌∷◌, ◌∙◌}
use Rattle.std.specs.Map.Calls.{RetainsPairs}
use Rattle.charmlet_model.specs.declared.names.Elem.{Elem}
use Rattle.charmlet_model.specs.declared.state.Record.{Record}
use Rattle.charmlet_model.specs.Upgrade.{up_record, up_records}

-- a call that keeps each element, with what goes on of its record in the record's place
module _ {F : Type 0} (Called : F → Elem → Record → Bool → Record → F → Type 0)
    (says : (f : F) (elem : Elem) (old : Record) (keeps : Bool) (new : Record) (g : F) → Called f elem old keeps new g → (keeps ≡ true) × (new ≡ up_record old)) where
  pub retained : (f : F) (es kept : List (Elem × Record)) → RetainsPairs Called f es kept → kept ≡ up_records es
  retained f [] kept h = h
  retained f (e ∷ es) kept h =
      let said = says f e.0 e.1 h.0 h.1 h.2 h.4 in
      let more = retained h.2 es h.3 h.5 in
      h.6 ∙ (λ i. cond (said.0 i) ((e.0, said.1 i) ∷ more i) (more i))
