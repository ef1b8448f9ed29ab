-- How many objects a shelf has, by what they show.
use Rattle.std.proofs.Common.{◌≡◌, ℕ, ◌+◌, ◌==◌, ◌&&◌, true, false, cond, List, [], ◌∷◌, refl, sym, ap, ◌∙◌, arith}
use Rattle.std.specs.Prelude.{Option, Some, None, IfSome, is_none, is_some, not, option_map, unwrap_or, sum_by}
use Rattle.std.specs.BTreeMap.{insert_entry, is_at}
use Rattle.std.specs.List.{IsDistinct}
use Rattle.std.specs.Map.{keys_of, remove_entry, values_of}
use Rattle.std.proofs.lemmas.List.Sums.{sum_by-cons}
use Rattle.std.proofs.lemmas.Map.Entries.{sum_by-insert_entry, sum_by-remove_entry}
use Rattle.charmlet_model.specs.declared.names.Elem.{Elem}
use Rattle.charmlet_model.specs.declared.kind.Kind.{Kind}
use Rattle.charmlet_model.specs.declared.state.Record.{Record}
use Rattle.charmlet_model.specs.declared.state.Resident.{Resident}
use Rattle.charmlet_model.specs.declared.state.State.{State}
use Rattle.charmlet_model.specs.Names.{elem_cmp, same_elem}
use Rattle.charmlet_model.specs.Kind.{kind_number}
use Rattle.charmlet_model.specs.KindVersion.{kind_of_version}
use Rattle.charmlet_model.specs.Reaction.{kind_version_of, kind_of}
use Rattle.charmlet_model.specs.Shelves.{count_of, if_there, is_there_as, objects_of, record_in, records_of, there_in}
use Rattle.charmlet_model.proofs.Maps.{elem_total, tied_elem}
use Rattle.charmlet_shelf.specs.Count.{came_out, comes_as, is_newcomer_of}
use Rattle.charmlet_shelf.specs.Due.{Due, record_after}
use Rattle.charmlet_shelf.specs.Risen.{risen}
use Rattle.charmlet_shelf.specs.Shelf.{Holds, ShowsPhase, before_due, records_before, with_record}
use Rattle.charmlet_shelf.specs.declared.phase.Phase.{Phase}
use Rattle.charmlet_shelf.specs.declared.phase.Phase.TheVariants.{Idle, Assigned, Done}
use Rattle.charmlet_shelf.proofs.Holding.{before_is}
use Rattle.charmlet_shelf.proofs.Records.{Rising, at, found_with, rising_shown, rising_with, shown_there}
use Rattle.charmlet_shelf.proofs.Risen.{sum_risen}
use Rattle.charmlet_model.proofs.ShelfCounts.{absent_weighs_nothing}

pub is_none_not : {A : Type 0} (o : Option A) → is_none o ≡ not (is_some o)
is_none_not None = refl
is_none_not (Some x) = refl

module _ (kind : Kind) where
  -- ---- records

  abbrev weight : Record → ℕ
  weight r = cond (is_there_as kind r.state) 1 0

  abbrev found_weight : Option Record → ℕ
  found_weight o = unwrap_or (option_map weight o) 0

  -- 1 where an object of this kind counts
  abbrev of_kind : Kind → ℕ
  of_kind k = cond (kind_number k == kind_number kind) 1 0

  -- what is found weighs as what was written
  found_weighs : (r : Record) → found_weight (if_there r) ≡ weight r
  found_weighs r = elim (is_some r.state) as (λ b. is_some r.state ≡ b → found_weight (cond b (Some r) None) ≡ weight r) [
    | true ↦ λ _. refl
    | false ↦ λ absent. sym (absent_weighs_nothing kind r.state absent)
  ] refl

  -- one record over the others counts instead of what was there
  counts_with : (rs : List (Elem × Record)) → Rising rs → (x : Elem) (r : Record) → there_in (with_record rs x r) kind + found_weight (at rs x) ≡ there_in rs kind + weight r
  counts_with rs rising x r =
      elim (is_some r.state) as (λ b. is_some r.state ≡ b →
      there_in (cond b (insert_entry elem_cmp rs x r) (remove_entry (is_at (elem_cmp x)) rs)) kind + found_weight (at rs x) ≡ there_in rs kind + weight r) [
        | true ↦ λ _. sum_by-insert_entry weight elem_total rs x r rising
        | false ↦ λ gone. let others = sum_by-remove_entry weight (is_at (elem_cmp x)) rs in let none = absent_weighs_nothing kind r.state gone in omega arith
      ] refl

  -- a receiver counts for its kind, there or yet to come
  receiver_counts : (due : Due) → IfSome due.receiver.state (λ s. kind_version_of s ≡ due.kind_version) → weight due.receiver + cond (comes_as kind due) 1 0 ≡ of_kind (kind_of_version due.kind_version)
  receiver_counts due before = either due.receiver.state before
    where
      either : (o : Option State) → IfSome o (λ s. kind_version_of s ≡ due.kind_version) → cond (is_there_as kind o) 1 0 + cond (is_none o && (kind_number (kind_of_version due.kind_version) == kind_number kind)) 1 0 ≡ of_kind (kind_of_version due.kind_version)
      either None h = omega arith
      either (Some s) h = let same : of_kind (kind_of s) ≡ of_kind (kind_of_version due.kind_version) = ap (λ e. of_kind (kind_of_version e)) h in omega arith

  module _ {C : Type 0} (state : C → State) where
    -- objects count as what they show
    pub by_shown : (es : List (Elem × Resident C)) → count_of state (objects_of es) kind ≡ there_in (records_of state es) kind
    by_shown [] = refl
    by_shown (e ∷ es) =
        sum_by-cons (λ object. of_kind (kind_of (state object))) e.1.object (objects_of es)
        ∙ ap (λ n. of_kind (kind_of (state e.1.object)) + n) (by_shown es)
        ∙ sym (sum_by-cons weight (record_in state e.1) (values_of (records_of state es)))

    -- and as many as in rising order
    abbrev weighs : Resident C → ℕ
    weighs resident = of_kind (kind_of (state resident.object))

    by_weight : (es : List (Elem × Resident C)) → count_of state (objects_of es) kind ≡ sum_by weighs (values_of es)
    by_weight [] = refl
    by_weight (e ∷ es) =
        sum_by-cons (λ object. of_kind (kind_of (state object))) e.1.object (objects_of es)
        ∙ ap (λ n. of_kind (kind_of (state e.1.object)) + n) (by_weight es)
        ∙ sym (sum_by-cons weighs e.1 (values_of es))

    pub count_risen : (es : List (Elem × Resident C)) → IsDistinct same_elem (keys_of es) → count_of state (objects_of (risen es)) kind ≡ count_of state (objects_of es) kind
    count_risen es distinct = by_weight (risen es) ∙ sum_risen weighs es distinct ∙ sym (by_weight es)

    -- ---- a delivery under way

    module _ (es : List (Elem × Resident C)) (rising : Rising es) where
      abbrev shown : List (Elem × Record)
      shown = records_of state es

      -- the objects are those of the records before it, and a newcomer
      pub counts_held : (due : Due) (becomes : Option State) → Holds state es due becomes → there_in shown kind ≡ there_in (before_due shown due) kind + cond (comes_as kind due) 1 0
      counts_held due becomes holds =
          let written = counts_with shown (rising_shown state es rising) due.message.to due.receiver in
          let found : found_weight (at shown due.message.to) ≡ of_kind (kind_of_version due.kind_version) = ap found_weight (shown_there state es due.message.to holds.0 holds.1) ∙ ap (λ e. of_kind (kind_of_version e)) holds.2.kind_version in
          let receiver = receiver_counts due holds.2.before in
          omega arith

      pub counts_phase : (phase : Phase) → ShowsPhase state es phase → there_in shown kind ≡ there_in (records_before shown phase) kind + cond (is_newcomer_of kind phase) 1 0
      counts_phase Idle shows = omega arith
      counts_phase (Assigned due) shows =
          counts_held due due.receiver.state shows
          ∙ ap (λ rs. there_in rs kind + cond (comes_as kind due) 1 0) (sym (before_is state es due shows.0 shows.1 rising shows.2))
      counts_phase (Done done) shows = counts_held done.due (record_after done.due).state shows

      -- ---- an object that comes out

      -- what is left, and the object that comes out, count as the delivery's receiver
      leaves : (due : Due) (o : Option State) → Holds state es due o → (result : Option C) → is_some result ≡ is_none o → IfSome result (λ object. kind_version_of (state object) ≡ due.kind_version) →
          cond (is_there_as kind o) 1 0 + came_out state result kind ≡ of_kind (kind_of_version due.kind_version)
      leaves due None holds None gone kinds = absurd (let never : ⊥ = cc in never)
      leaves due None holds (Some object) gone kinds = let same : of_kind (kind_of (state object)) ≡ of_kind (kind_of_version due.kind_version) = ap (λ e. of_kind (kind_of_version e)) kinds in omega arith
      leaves due (Some s) holds (Some object) gone kinds = absurd (let never : ⊥ = cc in never)
      leaves due (Some s) holds None gone kinds = let same : of_kind (kind_of s) ≡ of_kind (kind_of_version due.kind_version) = ap (λ e. of_kind (kind_of_version e)) (ap kind_version_of (sym holds.2.state) ∙ holds.2.kind_version) in omega arith

      pub counts_settled : (due : Due) → Holds state es due (record_after due).state → (result : Option C) (new : List (Elem × Record)) →
          new ≡ with_record (before_due shown due) due.message.to (record_after due) → is_some result ≡ is_none (record_after due).state →
          IfSome result (λ object. kind_version_of (state object) ≡ due.kind_version) →
          there_in (before_due shown due) kind + cond (comes_as kind due) 1 0 ≡ there_in new kind + came_out state result kind
      counts_settled due holds result new is gone kinds =
          let rs = shown in
          let rising_rs = rising_shown state es rising in
          let x = due.message.to in
          let written = counts_with (before_due rs due) (rising_with rs rising_rs x due.receiver) x (record_after due) in
          let there : at (before_due rs due) x ≡ if_there due.receiver = found_with rs rising_rs x x due.receiver ∙ ap (λ b. cond b (if_there due.receiver) (at rs x)) (tied_elem x) in
          let found : found_weight (at (before_due rs due) x) ≡ weight due.receiver = ap found_weight there ∙ found_weighs due.receiver in
          let receiver = receiver_counts due holds.2.before in
          let left = leaves due (record_after due).state holds result gone kinds in
          let same : there_in new kind ≡ there_in (with_record (before_due rs due) x (record_after due)) kind = ap (λ records. there_in records kind) is in
          omega arith

    -- a newcomer comes out again
    newcomer_out : (due : Due) (o : Option State) (result : Option C) → is_some result ≡ is_none o → IfSome result (λ object. kind_version_of (state object) ≡ due.kind_version) →
        cond (is_none o && (kind_number (kind_of_version due.kind_version) == kind_number kind)) 1 0 ≡ came_out state result kind
    newcomer_out due None None is kinds = absurd (let never : ⊥ = cc in never)
    newcomer_out due None (Some object) is kinds = let same : of_kind (kind_of (state object)) ≡ of_kind (kind_of_version due.kind_version) = ap (λ e. of_kind (kind_of_version e)) kinds in omega arith
    newcomer_out due (Some s) None is kinds = refl
    newcomer_out due (Some s) (Some object) is kinds = absurd (let never : ⊥ = cc in never)

    pub counts_released : (due : Due) (result : Option C) (old new : List (Elem × Record)) → new ≡ old → is_some result ≡ is_none due.receiver.state →
        IfSome result (λ object. kind_version_of (state object) ≡ due.kind_version) →
        there_in old kind + cond (comes_as kind due) 1 0 ≡ there_in new kind + came_out state result kind
    counts_released due result old new same is kinds = λ i. there_in (sym same i) kind + newcomer_out due due.receiver.state result is kinds i
