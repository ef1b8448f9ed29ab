-- The record of an element, by what is kept of it and by the shelf on which it stands.
use Rattle.std.proofs.Common.{◌≡◌, ℕ, ◌<◌, ◌^◌, true, false, List, ◌++◌, length, refl, sym, ap, subst, ◌∙◌, arith, if◌then◌else◌}
use Rattle.std.specs.Prelude.{Option, Some, None, IfSome, is_some, get_or, option_copied, option_map}
use Rattle.std.specs.BTreeMap.{is_at}
use Rattle.std.specs.Map.{lookup}
use Rattle.std.proofs.lemmas.List.{get_or_default}
use Rattle.charmlet_pup.specs.Fields.{number_bytes, byte_list}
use Rattle.charmlet_model.specs.declared.names.Elem.{Elem}
use Rattle.charmlet_model.specs.declared.refusal.Refusal.{Refusal}
use Rattle.charmlet_model.specs.declared.refusal.Refusal.TheVariants as refusals
use Rattle.charmlet_model.specs.declared.state.State.{State}
use Rattle.charmlet_model.specs.declared.state.Record.{Record}
use Rattle.charmlet_model.specs.Names.{elem_cmp}
use Rattle.charmlet_model.specs.Packed.{IsState, pupped}
use Rattle.charmlet_model.specs.Core.{Core, place_of, present}
use Rattle.charmlet_model.specs.Spelling.{spell_elem}
use Rattle.charmlet_model.specs.Reaction.{kind_version_of}
use Rattle.charmlet_model.specs.World.{version_of_array, record_of}
use Rattle.charmlet_model.proofs.SoundLemmas.{sound_fit}
use Rattle.charmlet_image.specs.declared.entries.Entry.{Entry}
use Rattle.charmlet_image.specs.Images.{spell_entry, spell_option, spell_state}
use Rattle.charmlet_image.specs.NewStores.{spell_packed_entry}
use Rattle.charmlet_image.proofs.ImageLemmas.{length-packed}
use Rattle.charmlet_world.specs.declared.element.Element.{Element}
use Rattle.charmlet_history.specs.declared.history.History.{History}
use Rattle.charmlet_history.specs.Kept.{IsConsistent, core_in}
use Rattle.charmlet_world.specs.Seen.{element_at}
use Rattle.charmlet_history.specs.Records.{record_with}
use Rattle.charmlet_history.proofs.Assigning.{there_is}
use Rattle.charmlet_world.proofs.Places.{seen_place}
use Rattle.charmlet_shelf.specs.Image.{IsImage, IsImageIf}
use Rattle.charmlet_shelf.specs.declared.image.Image.{Image}
use Rattle.charmlet_shelf.specs.Shelf.{View, is_idle}
use Rattle.charmlet_migrate.specs.Copying.{empty_shelf, shelf_at}
use Rattle.charmlet_migrate.proofs.Shelves.{idle_at, stands_here}
use Rattle.charmlet_persist.specs.Snapshot.Showing.{IsShown, state_in}

-- ---- an entry's bytes

-- a state by its packed bytes
packed_is : (state : Option State) → spell_option byte_list (option_map pupped state) ≡ spell_option spell_state state
unfolding spell_state
packed_is None = refl
packed_is (Some s) = refl

-- an entry with the packed bytes of a state is spelled as the record with that state
pub entry_is : (e : Entry) (x : Elem) (kept : Element) (state : Option State) → e ≡ record { element = x; sent = kept.sent; received = kept.received; packed = e.packed } →
    option_copied e.packed ≡ option_map pupped state → spell_packed_entry e ≡ spell_entry (x, record_with state kept)
unfolding spell_packed_entry spell_entry
entry_is e x kept state is same =
    ap spell_packed_entry is
    ∙ ap (λ (o : Option (List ℕ)). spell_elem x ++ (number_bytes 8 kept.sent ++ (number_bytes 8 kept.received ++ spell_option byte_list o))) same
    ∙ ap (λ (l : List ℕ). spell_elem x ++ (number_bytes 8 kept.sent ++ (number_bytes 8 kept.received ++ l))) (packed_is state)

-- ---- an element that stands on a shelf, or nowhere

is_none : (o : Option State) (place : Option ℕ) → is_some o ≡ is_some place → place ≡ None → o ≡ None
is_none None place same none = refl
is_none (Some s) place same none = absurd (let never : true ≡ false = same ∙ ap is_some none in let no_way : ⊥ = cc in no_way)

the_state : (o : Option State) (place : Option ℕ) (p : ℕ) → is_some o ≡ is_some place → place ≡ Some p → (s : State) × (o ≡ Some s)
the_state None place p same some = absurd (let never : false ≡ true = same ∙ ap is_some some in let no_way : ⊥ = cc in no_way)
the_state (Some s) place p same some = (s, refl)

module _ (history : History) (consistent : IsConsistent history) (shelves : List View) (shown : IsShown history shelves) (x : Elem) (e : Element) (e_is : e ≡ element_at history.elements x) where
  abbrev core : Core
  core = core_in history

  abbrev r : Record
  r = record_of (present core) x

  there_same : is_some r.state ≡ is_some e.place
  there_same = there_is history consistent x ∙ ap (λ (k : Element). is_some k.place) (sym e_is)

  -- an element without a place isn't there
  pub absent_state : e.place ≡ None → state_in history x ≡ None
  absent_state none = is_none r.state e.place there_same none

  module _ (p : ℕ) (place : e.place ≡ Some p) where
    place_is : place_of core x ≡ Some p
    place_is = seen_place x history.elements consistent.rising ∙ ap (λ (k : Element). k.place) (sym e_is) ∙ place

    -- its place is one of the shelves
    pub is_on_shelf : p < length shelves
    is_on_shelf =
        let less : p < core.processors = subst (λ o. IfSome o (λ processor. processor < core.processors)) place_is (consistent.sound.placed x).on_processor in
        let count = shown.count in
        omega arith

    its_state : (s : State) × (r.state ≡ Some s)
    its_state = the_state r.state e.place p there_same place

    is_a_state : IsState its_state.0
    is_a_state =
        (subst (λ o. IfSome o (λ s. (version_of_array (present core) x.array ≡ Some (kind_version_of s)) × IsState s)) its_state.1 ((sound_fit core consistent.sound).records x).state).1

    -- the shelf there, read at any default
    module _ (default : View) where
      abbrev shelf : View
      shelf = get_or shelves p default

      same_shelf : shelf ≡ shelf_at shelves p
      same_shelf = get_or_default shelves p default (empty_shelf 0) is_on_shelf

      is_idle_there : is_idle shelf.phase ≡ true
      is_idle_there = ap (λ (v : View). is_idle v.phase) same_shelf ∙ ap is_idle (idle_at shelves p is_on_shelf shown.idle)

      stands_there : lookup (is_at (elem_cmp x)) shelf.records ≡ Some r
      stands_there = ap (λ (v : View). lookup (is_at (elem_cmp x)) v.records) same_shelf ∙ stands_here shelves core.places (present core) shown.objects x p place_is

      -- only memory may be lacking
      pub refusal_is : (refusal : Refusal) → refusal ≡ (if is_idle shelf.phase then refusals.Memory else refusals.Uncommitted) → refusal ≡ refusals.Memory
      refusal_is refusal is = is ∙ ap (λ b. if b then refusals.Memory else refusals.Uncommitted) is_idle_there

      -- there is an image
      pub image_there : IsImageIf (lookup (is_at (elem_cmp x)) shelf.records) x None → ⊥
      image_there none = subst (λ o. IsImageIf o x None) stands_there none

      -- which has the packed state
      pub packed_there : (image : Image) → IsImageIf (lookup (is_at (elem_cmp x)) shelf.records) x (Some image) → Some image.packed.items ≡ option_map pupped (state_in history x)
      packed_there image is =
          let of : IsImage image x r = subst (λ o. IsImageIf o x (Some image)) stands_there is in
          let packed : image.packed.items ≡ pupped its_state.0 = subst (λ o. IfSome o (λ s. image.packed.items ≡ pupped s)) its_state.1 of.packed in
          ap (λ (l : List ℕ). Some l) packed ∙ ap (option_map pupped) (sym its_state.1)

      -- and isn't long
      pub packed_short : (image : Image) → IsImageIf (lookup (is_at (elem_cmp x)) shelf.records) x (Some image) → length image.packed.items < 2 ^ 32
      packed_short image is =
          let of : IsImage image x r = subst (λ o. IsImageIf o x (Some image)) stands_there is in
          let packed : image.packed.items ≡ pupped its_state.0 = subst (λ o. IfSome o (λ s. image.packed.items ≡ pupped s)) its_state.1 of.packed in
          let short = length-packed its_state.0 is_a_state in
          omega (arith, short, ap (length {A = ℕ}) packed)
