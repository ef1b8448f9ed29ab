use Rattle.std.proofs.Common.{sym, ap, subst, ◌∙◌, slice_get}
use Rattle.std.specs.Prelude.{Result, Ok, Err, IfOk, OnErr, OnOk, Some, is_some}
use Rattle.std.specs.BTreeMap.{insert_entry, is_at}
use Rattle.std.specs.Map.{lookup}
use Rattle.charmlet_model.specs.Names.{elem_cmp}
use Rattle.charmlet_world.specs.Changed.{with_entry}
use Rattle.charmlet_world.specs.Standing.{risen}
use Rattle.charmlet_world.specs.Tied.{Scheduled, IsTied}
use Rattle.charmlet_world.proofs.Risen.{found_risen}
use Rattle.charmlet_world.proofs.Showing.{element_risen, row_unseen, slot_stays}
use Rattle.charmlet_world.proofs.Tying.{tied_same}
use Rattle.charmlet_world.proofs.scheduler.Scheduler.slot_for.Goals as goal

-- what follows where it is done, follows of what holds where it is done
when_ok : {T E : Type 0} {P Q : Type 0} (result : Result T E) → OnOk result P → (P → Q) → OnOk result Q
when_ok (Ok x) p f = f p
when_ok (Err e) p f = tt

if_ok : {T E : Type 0} {P Q : T → Type 0} {R : Type 0} (result : Result T E) → IfOk result P → OnOk result R → ((x : T) → P x → R → Q x) → IfOk result Q
if_ok (Ok x) p r f = f x p r
if_ok (Err e) p r f = tt

-- what follows either way
each_way : {T E : Type 0} {P Q R : Type 0} (result : Result T E) → OnOk result P → OnErr result Q → (P → R) → (Q → R) → R
each_way (Ok x) p q done failed = done p
each_way (Err e) p q done failed = failed q

pub invariant_of-self : goal.invariant_of-self
invariant_of-self c =
    let own = c.self.inside in
    let rows = own.elements.entries in
    let x = c.args.elem in
    let fs = c.slot_for.new.self.entries in
    each_way c.slot_for.result c.slot_for.ensures.risen c.slot_for.ensures.err
    (λ more. tied_same own.processors rows fs own.pending own.index (λ y. element_risen y fs ∙ (row_unseen rows fs x more y ∙ sym (element_risen y rows))) c.self.invariant)
    (λ same. subst (λ es. IsTied own.processors es own.pending own.index) (sym same) c.self.invariant)

pub returns-clause-slot : goal.returns-clause-slot
returns-clause-slot c =
    let rows = c.self.inside.elements.entries in
    let x = c.args.elem in
    if_ok c.slot_for.result c.slot_for.ensures.found c.slot_for.ensures.risen
    (λ slot at more. at ∙ ap (λ e. Some (x, e)) (sym (row_unseen rows c.slot_for.new.self.entries x more x)))

pub returns-clause-risen : goal.returns-clause-risen
returns-clause-risen c =
    let rows = c.self.inside.elements.entries in
    let x = c.args.elem in
    when_ok c.slot_for.result c.slot_for.ensures.risen (λ more.
    (more ∙ ap (insert_entry elem_cmp (risen rows) x) (sym (element_risen x rows)))
    ∙ ap (λ (d : Scheduled). with_entry (risen d.rows) x) c.self.view_is)

pub returns-clause-slots : goal.returns-clause-slots
returns-clause-slots c = λ i x e at.
    let rows = c.self.inside.elements.entries in
    let here = ap (λ (d : Scheduled). slice_get d.rows i) c.self.view_is ∙ at in
    each_way c.slot_for.result c.slot_for.ensures.entries c.slot_for.ensures.err
    (λ more. ap (λ es. slice_get es i) more ∙ slot_stays rows c.args.elem i (x, e) here)
    (λ same. ap (λ es. slice_get es i) same ∙ here)

pub returns-clause-there : goal.returns-clause-there
returns-clause-there c = λ there.
    let rows = c.self.inside.elements.entries in
    c.slot_for.ensures.there (ap is_some (sym (found_risen c.args.elem rows)) ∙ ap (λ (d : Scheduled). is_some (lookup (is_at (elem_cmp c.args.elem)) (risen d.rows))) c.self.view_is ∙ there)
