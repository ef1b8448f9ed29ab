-- Images of all elements, and of one.
use Rattle.std.proofs.Common.{◌≡◌, ℕ, zero, suc, ◌+◌, ◌||◌, true, false, cond, List, [], ◌∷◌, ◌++◌, length, take, refl, sym, ap, subst, ◌∙◌, slice_get, arith}
use Rattle.std.specs.Prelude.{Option, Some, None, IfSome, is_some, unwrap_or}
use Rattle.std.specs.List.{AllByRecursion, IsDistinct, list_any}
use Rattle.std.specs.Map.{keys_of, lookup}
use Rattle.std.specs.Ordering.{eq_by_cmp}
use Rattle.indexmap.specs.IndexMap.{set_value_at}
use Rattle.charmlet_model.specs.declared.names.Elem.{Elem}
use Rattle.charmlet_model.specs.declared.state.Record.{Record}
use Rattle.charmlet_model.specs.declared.state.Resident.{Resident}
use Rattle.charmlet_model.specs.declared.state.State.{State}
use Rattle.charmlet_model.specs.Names.{elem_cmp, same_elem}
use Rattle.charmlet_model.specs.Shelves.{record_in, records_of}
use Rattle.charmlet_model.proofs.Fits.{AllByRecursion-map}
use Rattle.charmlet_model.proofs.Maps.{absent, elem_total, length-insert_entry, tied_elem}
use Rattle.charmlet_model.specs.Reaction.{kind_version_of}
use Rattle.charmlet_shelf.specs.Due.{Due, record_after}
use Rattle.charmlet_shelf.specs.Image.{AreImages, HasImage, IsImage, IsImageIf, IsImageIn}
use Rattle.charmlet_shelf.specs.Risen.{risen}
use Rattle.charmlet_shelf.specs.Shelf.{Holds, IsReceiver, ShowsPhase}
use Rattle.charmlet_shelf.specs.declared.image.Image.{Image}
use Rattle.charmlet_shelf.specs.declared.phase.Phase.{Phase}
use Rattle.charmlet_shelf.specs.declared.phase.Phase.TheVariants.{Idle, Assigned, Done}
use Rattle.charmlet_shelf.proofs.Newest.{shown_risen}
use Rattle.charmlet_shelf.proofs.Records.{at, keys_shown, shown_nowhere, shown_there}
use Rattle.charmlet_shelf.proofs.Risen.{found_risen, rising_always, same_laws}

-- ---- images in the order of their records

-- each image is that of its record
abbrev pub AreOf : List (Elem × Record) → List Image → Type 0
AreOf [] [] = Unit {0}
AreOf (e ∷ es) (image ∷ images) = IsImage image e.0 e.1 × AreOf es images
AreOf [] (image ∷ images) = ⊥
AreOf (e ∷ es) [] = ⊥

one_more : (es : List (Elem × Record)) (images : List Image) (e : Elem × Record) (image : Image) → AreOf es images → IsImage image e.0 e.1 → AreOf (es ++ e ∷ []) (images ++ image ∷ [])
one_more [] [] e image h is = (is, tt)
one_more [] (i ∷ images) e image h is = absurd h
one_more (f ∷ es) [] e image h is = absurd h
one_more (f ∷ es) (i ∷ images) e image h is = (h.0, one_more es images e image h.1 is)

take_one : {A : Type 0} (xs : List A) (i : ℕ) (x : A) → slice_get xs i ≡ Some x → take (suc i) xs ≡ take i xs ++ x ∷ []
take_one [] i x here = absurd (let no : ⊥ = cc in no)
take_one {A} (y ∷ ys) zero x here = let same : y ≡ x = (λ j. unwrap_or (here j) y) in ap (λ (z : A). z ∷ []) same
take_one {A} (y ∷ ys) (suc i) x here = ap (λ (zs : List A). y ∷ zs) (take_one ys i x here)

-- the image of the next record
pub images_more : (rs : List (Elem × Record)) (i : ℕ) (images : List Image) (e : Elem × Record) (image : Image) → slice_get rs i ≡ Some e → AreOf (take i rs) images → IsImage image e.0 e.1 →
    AreOf (take (suc i) rs) (images ++ image ∷ [])
images_more rs i images e image here so_far is =
    subst (λ (es : List (Elem × Record)). AreOf es (images ++ image ∷ [])) (sym (take_one rs i e here)) (one_more (take i rs) images e image so_far is)

are_many : (rs : List (Elem × Record)) (images : List Image) → AreOf rs images → length images ≡ length rs
are_many [] [] are = refl
are_many [] (i ∷ images) are = absurd are
are_many (e ∷ rs) [] are = absurd are
are_many (e ∷ rs) (i ∷ images) are = ap suc (are_many rs images are.1)

-- ---- where elements stand once each

found_after : (e : Elem × Record) (es fs : List (Elem × Record)) → AllByRecursion (λ k. same_elem e.0 k ≡ false) (keys_of fs) → AllByRecursion (λ (f : Elem × Record). lookup (same_elem f.0) es ≡ Some f.1) fs →
    AllByRecursion (λ (f : Elem × Record). lookup (same_elem f.0) (e ∷ es) ≡ Some f.1) fs
found_after e es [] apart found = tt
found_after e es (f ∷ fs) apart found = (
  ap (λ b. cond b (Some e.1) (lookup (same_elem f.0) es)) (same_laws.symm f.0 e.0 ∙ apart.0) ∙ found.0,
  found_after e es fs apart.1 found.1,
)

-- each record is found by its element
each_found : (rs : List (Elem × Record)) → IsDistinct same_elem (keys_of rs) → AllByRecursion (λ (e : Elem × Record). lookup (same_elem e.0) rs ≡ Some e.1) rs
unfolding IsDistinct
each_found [] distinct = tt
each_found (e ∷ rs) distinct = (
  ap (λ b. cond b (Some e.1) (lookup (same_elem e.0) rs)) (same_laws.refl e.0),
  found_after e rs rs distinct.0 (each_found rs distinct.1),
)

risen_long : (rs : List (Elem × Record)) → IsDistinct same_elem (keys_of rs) → length (risen rs) ≡ length rs
unfolding IsDistinct
risen_long [] distinct = refl
risen_long (e ∷ rs) distinct =
    let put = length-insert_entry elem_cmp elem_total e.0 e.1 (risen rs) (rising_always rs) in
    let none : is_some (at (risen rs) e.0) ≡ false = ap is_some (found_risen e.0 rs ∙ absent (same_elem e.0) rs distinct.0) in
    let rest = risen_long rs distinct.1 in
    let longer : length (risen rs) + 1 ≡ length (e ∷ rs) = omega arith in
    put ∙ ap (λ b. cond b (length (risen rs)) (length (risen rs) + 1)) none ∙ longer

keys_long : (rs : List (Elem × Record)) → length (keys_of rs) ≡ length rs
keys_long [] = refl
keys_long (e ∷ rs) = ap suc (keys_long rs)

-- ---- keys

abbrev Found : List (Elem × Record) → Elem → Type 0
Found es x = is_some (at es x) ≡ true

key_after : (e : Elem × Record) (es : List (Elem × Record)) (x : Elem) → Found es x → Found (e ∷ es) x
key_after e es x found =
    elim (eq_by_cmp elem_cmp x e.0) as (λ b. is_some (cond b (Some e.1) (at es x)) ≡ true) [ true ↦ refl | false ↦ found ]

-- each key is found
keys_found : (es : List (Elem × Record)) → AllByRecursion (Found es) (keys_of es)
keys_found [] = tt
keys_found (e ∷ es) = (
  ap (λ b. is_some (cond b (Some e.1) (at es e.0))) (tied_elem e.0),
  AllByRecursion-map (Found es) (Found (e ∷ es)) (keys_of es) (key_after e es) (keys_found es),
)

-- ---- all of them

-- an element has an image where it has a record
any_is : (rs : List (Elem × Record)) (images : List Image) (x : Elem) → AreOf rs images → list_any (λ (image : Image). same_elem x image.elem) images ≡ is_some (lookup (same_elem x) rs)
any_is [] [] x are = refl
any_is [] (i ∷ images) x are = absurd are
any_is (e ∷ rs) [] x are = absurd are
any_is (e ∷ rs) (i ∷ images) x are =
    ap (λ (y : Elem). same_elem x y || list_any (λ (image : Image). same_elem x image.elem) images) are.0.elem
    ∙ elim (same_elem x e.0) as (λ b. (b || list_any (λ (image : Image). same_elem x image.elem) images) ≡ is_some (cond b (Some e.1) (lookup (same_elem x) rs))) [
      | true ↦ refl
      | false ↦ any_is rs images x are.1
    ]

each_in : (records rs : List (Elem × Record)) (images : List Image) → AllByRecursion (λ (e : Elem × Record). at records e.0 ≡ Some e.1) rs → AreOf rs images → AllByRecursion (IsImageIn records) images
each_in records [] [] found are = tt
each_in records [] (i ∷ images) found are = absurd are
each_in records (e ∷ rs) [] found are = absurd are
each_in records (e ∷ rs) (i ∷ images) found are = (
  (e.1, subst (λ (x : Elem). at records x ≡ Some e.1) (sym are.0.elem) found.0, subst (λ (x : Elem). IsImage i x e.1) (sym are.0.elem) are.0),
  each_in records rs images found.1 are.1,
)

all_images : (rs : List (Elem × Record)) (images : List Image) → IsDistinct same_elem (keys_of rs) → AreOf rs images → AreImages (risen rs) (keys_of (risen rs)) images
all_images rs images distinct are = record {
  each = each_in (risen rs) rs images
      (AllByRecursion-map (λ (e : Elem × Record). lookup (same_elem e.0) rs ≡ Some e.1) (λ (e : Elem × Record). at (risen rs) e.0 ≡ Some e.1) rs (λ e h. found_risen e.0 rs ∙ h) (each_found rs distinct))
      are;
  all = AllByRecursion-map (Found (risen rs)) (HasImage images) (keys_of (risen rs))
      (λ x found. any_is rs images x are ∙ ap is_some (sym (found_risen x rs)) ∙ found) (keys_found (risen rs));
  once = are_many rs images are ∙ sym (risen_long rs distinct) ∙ sym (keys_long (risen rs));
}

module _ {C : Type 0} (state : C → State) where
  -- those of the objects in a table
  pub table_images : (es : List (Elem × Resident C)) (images : List Image) → IsDistinct same_elem (keys_of es) → AreOf (records_of state es) images →
      AreImages (records_of state (risen es)) (keys_of (risen es)) images
  table_images es images distinct are =
      let rs = records_of state es in
      let made = all_images rs images (subst (IsDistinct same_elem) (sym (keys_shown state es)) distinct) are in
      subst (λ (xs : List Elem). AreImages (records_of state (risen es)) xs images) (keys_shown state (risen es))
      (subst (λ (records : List (Elem × Record)). AreImages records (keys_of records) images) (sym (shown_risen state es)) made)

  -- what stands at an index is shown there
  pub shown_index : (es : List (Elem × Resident C)) (i : ℕ) (x : Elem) (resident : Resident C) → slice_get es i ≡ Some (x, resident) → slice_get (records_of state es) i ≡ Some (x, record_in state resident)
  shown_index [] i x resident here = absurd (let no : ⊥ = cc in no)
  shown_index (e ∷ es) zero x resident here = λ j. Some ((unwrap_or (here j) e).0, record_in state (unwrap_or (here j) e).1)
  shown_index (e ∷ es) (suc i) x resident here = shown_index es i x resident here

  -- an object that shows what it showed changes nothing
  pub shown_still : (es : List (Elem × Resident C)) (i : ℕ) (x : Elem) (old new : Resident C) → slice_get es i ≡ Some (x, old) → record_in state new ≡ record_in state old →
      records_of state (set_value_at es i new) ≡ records_of state es
  shown_still [] i x old new here same = absurd (let no : ⊥ = cc in no)
  shown_still (e ∷ es) zero x old new here same =
      let value : old ≡ e.1 = (λ j. (unwrap_or (sym here j) e).1) in
      ap (λ r. (e.0, r) ∷ records_of state es) (same ∙ ap (record_in state) value)
  shown_still (e ∷ es) (suc i) x old new here same = ap (λ (rs : List (Elem × Record)). (e.0, record_in state e.1) ∷ rs) (shown_still es i x old new here same)

  -- nor in rising order
  pub risen_still : (es fs : List (Elem × Resident C)) → records_of state fs ≡ records_of state es → records_of state (risen fs) ≡ records_of state (risen es)
  risen_still es fs same = shown_risen state fs ∙ ap (λ (rs : List (Elem × Record)). risen rs) same ∙ sym (shown_risen state es)

  -- ---- objects that show what they showed

  module _ (es fs : List (Elem × Resident C)) (same : records_of state fs ≡ records_of state es) where
    become : (old new : Resident C) → state new.object ≡ state old.object → (becomes : Option State) → IfSome becomes (λ s. state old.object ≡ s) → IfSome becomes (λ s. state new.object ≡ s)
    become old new e None h = tt
    become old new e (Some s) h = e ∙ h

    receiver_still : (due : Due) (o : Option State) (old : Resident C) → IsReceiver state due o old → (new : Resident C) → record_in state new ≡ record_in state old → IsReceiver state due o new
    receiver_still due o old is new shows =
        let state_is : state new.object ≡ state old.object = (λ i. unwrap_or (shows i).state (state old.object)) in
        record {
          kind_version = ap kind_version_of state_is ∙ is.kind_version;
          before = is.before;
          state = become old new state_is o is.state;
          sent = ap (λ (r : Record). r.sent) shows ∙ is.sent;
          received = ap (λ (r : Record). r.received) shows ∙ is.received;
        }

    found_still : (x : Elem) (old : Resident C) (o : Option (Resident C)) → at fs x ≡ o → at es x ≡ Some old → (new : Resident C) × (at fs x ≡ Some new) × (record_in state new ≡ record_in state old)
    found_still x old None none here =
        let lost : Some (record_in state old) ≡ None = sym (shown_there state es x old here) ∙ ap (λ (rs : List (Elem × Record)). at rs x) (sym same) ∙ shown_nowhere state fs x none in
        absurd (let never : ⊥ = cc in never)
    found_still x old (Some new) found here =
        let both : Some (record_in state new) ≡ Some (record_in state old) = sym (shown_there state fs x new found) ∙ ap (λ (rs : List (Elem × Record)). at rs x) same ∙ shown_there state es x old here in
        (new, found, (λ i. unwrap_or (both i) (record_in state new)))

    holds_still : (due : Due) (o : Option State) → Holds state es due o → Holds state fs due o
    holds_still due o holds =
        let now = found_still due.message.to holds.0 (at fs due.message.to) refl holds.1 in
        (now.0, now.1, receiver_still due o holds.0 holds.2 now.0 now.2)

    -- a phase that was shown still is
    pub shows_still : (phase : Phase) → ShowsPhase state es phase → ShowsPhase state fs phase
    shows_still Idle shows = tt
    shows_still (Assigned due) shows = holds_still due due.receiver.state shows
    shows_still (Done performed) shows = holds_still performed.due (record_after performed.due).state shows

-- ---- one element's image, if it is here

pub no_image : (o : Option Record) (x : Elem) → is_some o ≡ false → IsImageIf o x None
no_image None x none = refl
no_image (Some r) x none = absurd (let never : ⊥ = cc in never)

pub some_image : (o : Option Record) (x : Elem) (image : Image) → is_some o ≡ true → IfSome o (IsImage image x) → IsImageIf o x (Some image)
some_image None x image here is = absurd (let never : ⊥ = cc in never)
some_image (Some r) x image here is = is
