use Rattle.std.proofs.Common.{◌<◌, ℕ, List, length, sym, ap, subst, ◌∙◌, arith, rules}
use Rattle.std.specs.Prelude.{Some, option_map}
use Rattle.charmlet_model.specs.Packed.{pupped}
use Rattle.charmlet_shelf.specs.Image.{IsImageIf}
use Rattle.charmlet_persist.specs.Snapshot.Showing.{state_in}
use Rattle.charmlet_persist.proofs.SnapshotLemmas.Entries.{absent_state, is_on_shelf, refusal_is, image_there, packed_there, packed_short}
use Rattle.charmlet_persist.proofs.snapshot.records.append_record.Goals as goal

pub returns-in_default-clause-ok : goal.returns-in_default-clause-ok
returns-in_default-clause-ok g c =
    let absent = absent_state c.args.history.now c.facts.ensures c.args.shelves.now c.requires.shown c.args.elem c.args.element.now c.requires.element c.in_default.is in
    c.in_ok-append_entry.ensures (state_in c.args.history.now c.args.elem) (ap (option_map pupped) (sym absent))

pub offset_bounds-shelves-place : goal.offset_bounds-shelves-place
offset_bounds-shelves-place g c =
    let within : c.in-Some.place < length c.args.shelves.now = is_on_shelf c.args.history.now c.facts.ensures c.args.shelves.now c.requires.shown c.args.elem c.args.element.now c.requires.element c.in-Some.place c.in-Some.is in
    search rules

pub bounds-shelves-place : goal.bounds-shelves-place
bounds-shelves-place g c =
    is_on_shelf c.args.history.now c.facts.ensures c.args.shelves.now c.requires.shown c.args.elem c.args.element.now c.requires.element c.in-Some.place c.in-Some.is

pub returns-in_err-image-clause-err : goal.returns-in_err-image-clause-err
returns-in_err-image-clause-err g c =
    let memory = refusal_is c.args.history.now c.facts.ensures c.args.shelves.now c.requires.shown c.args.elem c.args.element.now c.requires.element c.in-Some.place c.in-Some.is c.index-shelves-place.result c.in_err-image.field-0.0 c.in_err-image.ensures.err in
    search rules

pub unreachable-requires : goal.unreachable-requires
unreachable-requires g c =
    let there = c.in_ok-image.ensures.ok.1 in
    image_there c.args.history.now c.facts.ensures c.args.shelves.now c.requires.shown c.args.elem c.args.element.now c.requires.element c.in-Some.place c.in-Some.is c.index-shelves-place.result
    (subst (IsImageIf _ c.args.elem) c.in_default-image.is there)

pub append_entry-requires-2 : goal.append_entry-requires-2
append_entry-requires-2 g c =
    let there = subst (IsImageIf _ c.args.elem) c.in-Some-image.is c.in_ok-image.ensures.ok.1 in
    let short = packed_short c.args.history.now c.facts.ensures c.args.shelves.now c.requires.shown c.args.elem c.args.element.now c.requires.element c.in-Some.place c.in-Some.is c.index-shelves-place.result c.in-Some-image.image there in
    omega (arith, short, ap (length {A = ℕ}) c.deref.ensures.value)

pub returns-clause-ok : goal.returns-clause-ok
returns-clause-ok g c =
    let there = subst (IsImageIf _ c.args.elem) c.in-Some-image.is c.in_ok-image.ensures.ok.1 in
    let packed = packed_there c.args.history.now c.facts.ensures c.args.shelves.now c.requires.shown c.args.elem c.args.element.now c.requires.element c.in-Some.place c.in-Some.is c.index-shelves-place.result c.in-Some-image.image there in
    c.in_ok-append_entry-2.ensures (state_in c.args.history.now c.args.elem) (ap (λ (l : List ℕ). Some l) c.deref.ensures.value ∙ packed)
