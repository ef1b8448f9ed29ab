-- A copy that leaves its shelf again.
use Rattle.std.proofs.Common.{◌≡◌, ℕ, Bool, true, cond, sym, ap, ◌∙◌, if◌then◌else◌}
use Rattle.std.specs.Prelude.{Option, Some, None, is_some}
use Rattle.std.specs.BTreeMap.{is_at}
use Rattle.std.specs.Map.{lookup, remove_entry}
use Rattle.charmlet_model.specs.declared.kind_version.KindVersion.{KindVersion}
use Rattle.charmlet_model.specs.declared.names.Elem.{Elem}
use Rattle.charmlet_model.specs.declared.refusal.Refusal.TheVariants as refusals
use Rattle.charmlet_model.specs.declared.state.Record.{Record}
use Rattle.charmlet_model.specs.declared.state.State.{State}
use Rattle.charmlet_model.specs.Names.{elem_cmp}
use Rattle.charmlet_model.specs.Reaction.{kind_version_of}
use Rattle.charmlet_model.proofs.Maps.{elem_total, lookup-insert_entry, tied_elem}
use Rattle.charmlet_shelf.specs.Shelf.{View, is_idle, refusal_at}
use Rattle.charmlet_shelf.proofs.Records.{Rising, put_and_taken}
use Rattle.charmlet_migrate.specs.Copying.{IsHereAs, PlacesCopy}

module _ (x : Elem) (source destination next : View) (placed : PlacesCopy x source destination next) where
  abbrev on : View → Option Record
  on shelf = lookup (is_at (elem_cmp x)) shelf.records

  -- it is there
  copy_stands : on next ≡ Some placed.0
  copy_stands =
      ap on placed.2
      ∙ lookup-insert_entry elem_cmp elem_total x x placed.0 destination.records
      ∙ ap (λ (b : Bool). cond b (Some placed.0) (on destination)) (tied_elem x)

  -- so that it can be lifted where no delivery is under way
  pub copy_can_leave : is_idle destination.phase ≡ true → refusal_at next x ≡ None
  copy_can_leave idle =
      ap (λ (shelf : View). if is_idle shelf.phase then (if is_some (on next) then None else Some refusals.Absent) else Some refusals.Uncommitted) placed.2
      ∙ ap (λ (b : Bool). if b then (if is_some (on next) then None else Some refusals.Absent) else Some refusals.Uncommitted) idle
      ∙ ap (λ (o : Option Record). if is_some o then None else Some refusals.Absent) copy_stands

  -- its object is of the blank's kind version
  pub copy_kind_version : (kind_version : KindVersion) → IsHereAs kind_version (on source) → (s : State) (sent received : ℕ) → on next ≡ Some (record { state = Some s; sent = sent; received = received }) → kind_version_of s ≡ kind_version
  copy_kind_version kind_version here s sent received there =
      let same : Some here.0 ≡ Some (record { state = Some s; sent = sent; received = received }) = sym here.2 ∙ placed.1 ∙ sym copy_stands ∙ there in
      let record_is : here.0 ≡ record { state = Some s; sent = sent; received = received } = cc in
      let state : Some here.1 ≡ Some s = sym here.3 ∙ ap (λ (r : Record). r.state) record_is in
      let own : here.1 ≡ s = cc in
      ap kind_version_of (sym own) ∙ here.5

  -- and without it the shelf is as it was
  pub copy_leaves : Rising destination.records → on destination ≡ None → (last : View) → last ≡ record next { records = remove_entry (is_at (elem_cmp x)) next.records } → last ≡ destination
  copy_leaves rising absent last is =
      is
      ∙ ap (λ (shelf : View). record shelf { records = remove_entry (is_at (elem_cmp x)) shelf.records }) placed.2
      ∙ ap (λ records. record destination { records = records }) (put_and_taken destination.records rising x placed.0 absent)
