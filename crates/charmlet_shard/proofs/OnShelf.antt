-- What comes onto a shelf again.
use Rattle.std.proofs.Common.{◌≡◌, ℕ, ◌+◌, ◌==◌, true, false, cond, List, [], ◌∷◌, refl, sym, ap, ◌∙◌, arith}
use Rattle.std.specs.Prelude.{Option, Some, None, Result, Ok, Err, OnOk, is_err, is_some, option_map, unwrap_or}
use Rattle.std.specs.BTreeMap.{insert_entry, is_at}
use Rattle.std.specs.List.Sorted.{IsStrictlySortedBy}
use Rattle.std.specs.Map.{keys_of, lookup}
use Rattle.std.proofs.lemmas.Map.Entries.{sum_by-insert_entry}
use Rattle.charmlet_pup.specs.declared.fault.PupFault.{PupFault}
use Rattle.charmlet_model.specs.declared.names.Elem.{Elem}
use Rattle.charmlet_model.specs.declared.kind.Kind.{Kind}
use Rattle.charmlet_model.specs.declared.kind_version.KindVersion.{KindVersion}
use Rattle.charmlet_model.specs.declared.state.Record.{Record}
use Rattle.charmlet_model.specs.declared.state.State.{State}
use Rattle.charmlet_model.specs.Names.{elem_cmp}
use Rattle.charmlet_model.specs.Kind.{kind_number}
use Rattle.charmlet_model.specs.Packed.{IsState, Unpacks, reads_packed}
use Rattle.charmlet_model.specs.Reaction.{kind_version_of, kind_of}
use Rattle.charmlet_model.specs.Shelves.{count_of, is_there_as, there_in}
use Rattle.charmlet_model.specs.Unpacked.{read_state, state_at, state_read}
use Rattle.charmlet_model.proofs.Maps.{elem_total}
use Rattle.charmlet_model.proofs.ReadStates.{packed_is_read_back}
use Rattle.charmlet_chare.specs.Output.{output_of}
use Rattle.charmlet_world.specs.declared.element.Element.{Element}
use Rattle.charmlet_shelf.specs.Count.{objects_on}
use Rattle.charmlet_shelf.specs.Due.{Due, reaction_in, record_after}
use Rattle.charmlet_shelf.specs.PerformedDelivery.{Performed}
use Rattle.charmlet_shelf.specs.Shelf.{View, done_by, performed, settled, with_record}
use Rattle.charmlet_shelf.specs.declared.phase.Phase.{Phase}
use Rattle.charmlet_shelf.specs.declared.phase.Phase.TheVariants as phases
use Rattle.charmlet_shard.specs.Receiving.{IsSettledAs, element_on}

-- ---- packed objects

-- an object that was unpacked has the state that the bytes hold
pub unpacked_at : {T : Type 0} (kind_version : KindVersion) (old new : State) (bytes : List ℕ) (result : Result T PupFault) → is_err result ≡ false → Unpacks old bytes new result → OnOk result (IsState new) →
    kind_version_of old ≡ kind_version → new ≡ state_at kind_version bytes
unpacked_at kind_version old new bytes (Err fault) ok unpacks fits is = absurd (let never : ⊥ = cc in never)
unpacked_at kind_version old new bytes (Ok x) ok unpacks fits is =
    by (reads_packed kind_version bytes)
    (sym (λ i. read_state ((unpacks.1 ∙ is) i) (unpacks.0 i)) ∙ packed_is_read_back new fits)
  where
    by : (r : Result ℕ PupFault) → state_read kind_version bytes r ≡ Ok new → new ≡ state_at kind_version bytes
    by (Ok n) h = let same : state_at kind_version bytes ≡ new = cc in sym same
    by (Err fault) h = absurd (let never : ⊥ = cc in never)

-- and stays of its kind version
pub unpacked_kind_version : {T : Type 0} (kind_version : KindVersion) (old new : State) (bytes : List ℕ) (result : Result T PupFault) → is_err result ≡ false → Unpacks old bytes new result → kind_version_of old ≡ kind_version →
    kind_version_of new ≡ kind_version
unpacked_kind_version kind_version old new bytes (Err fault) ok unpacks is = absurd (let never : ⊥ = cc in never)
unpacked_kind_version kind_version old new bytes (Ok x) ok unpacks is = unpacks.1 ∙ is

-- ---- an object that comes onto a shelf with no delivery under way

-- 1 where the record is that of an object of the kind
abbrev weight : Kind → Record → ℕ
weight kind r = cond (is_there_as kind r.state) 1 0

-- it is counted there
pub one_more : {C : Type 0} (state : C → State) (object : C) (old new : View) (x : Elem) (r : Record) → old.phase ≡ phases.Idle → IsStrictlySortedBy elem_cmp (keys_of old.records) →
    lookup (is_at (elem_cmp x)) old.records ≡ None → r.state ≡ Some (state object) → new ≡ record old { records = insert_entry elem_cmp old.records x r } →
    (kind : Kind) → objects_on new kind ≡ objects_on old kind + count_of state (object ∷ []) kind
one_more state object old new x r idle rising absent its is kind =
    let one : weight kind r ≡ cond (kind_number (kind_of (state object)) == kind_number kind) 1 0 = ap (λ o. cond (is_there_as kind o) 1 0) its in
    let nothing : unwrap_or (option_map (weight kind) (lookup (is_at (elem_cmp x)) old.records)) 0 ≡ 0 = ap (λ o. unwrap_or (option_map (weight kind) o) 0) absent in
    let grown : there_in (insert_entry elem_cmp old.records x r) kind + unwrap_or (option_map (weight kind) (lookup (is_at (elem_cmp x)) old.records)) 0 ≡ there_in old.records kind + weight kind r =
    sum_by-insert_entry (weight kind) elem_total old.records x r rising in
    ap (λ (v : View). objects_on v kind) is ∙ omega (arith, one, nothing, grown)

-- ---- a delivery that is made

-- it has a reaction
pub made_by : (due : Due) → is_some (reaction_in due) ≡ true → (phase : Phase) → phase ≡ phases.Assigned due → (done : Performed) × (performed phase ≡ phases.Done done) × (done.due ≡ due)
made_by due reacts phase is =
    let made = some_of (reaction_in due) reacts in
    (record { due = due; output = Some (output_of made.0) }, ap performed is ∙ ap (done_by due) made.1, refl)
  where
    some_of : {A : Type 0} (o : Option A) → is_some o ≡ true → (x : A) × (o ≡ Some x)
    some_of None h = absurd (let never : ⊥ = cc in never)
    some_of (Some x) h = (x, refl)

-- and is settled
pub settled_as : (old middle last : View) (due other : Due) → old.phase ≡ phases.Assigned due → old.phase ≡ phases.Assigned other → is_some (reaction_in due) ≡ true →
    middle ≡ record old { phase = performed old.phase } → last ≡ settled middle → (element : Element) →
    ((done : Performed) → middle.phase ≡ phases.Done done → element ≡ element_on middle.number (record_after done.due)) → IsSettledAs old other last element
settled_as old middle last due other assigned also reacts is then element element_is =
    let made = made_by due reacts old.phase assigned in
    let done : middle.phase ≡ phases.Done made.0 = ap (λ (v : View). v.phase) is ∙ made.1 in
    let same : phases.Assigned due ≡ phases.Assigned other = sym assigned ∙ also in
    let one : due ≡ other = ap (due_in due) same in
    let its : made.0.due ≡ other = made.2 ∙ one in
    record {
      shelf = then ∙ ap settled is ∙ ap (λ phase. settled (record old { phase = phase })) made.1
          ∙ ap (λ d. record old { records = with_record old.records d.message.to (record_after d); phase = phases.Idle }) its;
      element_is = element_is made.0 done ∙ (λ i. element_on (is i).number (record_after (its i)));
    }
  where
    due_in : Due → Phase → Due
    due_in d (phases.Assigned e) = e
    due_in d phases.Idle = d
    due_in d (phases.Done done) = d
