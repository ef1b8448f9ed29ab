use Rattle.std.proofs.Common.{◌≡◌, true, false, sym, ap, subst, ◌∙◌}
use Rattle.std.specs.Prelude.{Some, None, IfSome}
use Rattle.std.specs.BTreeMap.{is_at}
use Rattle.std.specs.Map.{remove_entry, set_value}
use Rattle.indexmap.specs.IndexMap.{set_value_at}
use Rattle.charmlet_model.specs.declared.message.Message.{Message}
use Rattle.charmlet_model.specs.declared.state.Resident.{Resident}
use Rattle.charmlet_model.specs.Names.{elem_cmp}
use Rattle.charmlet_model.specs.Reaction.{kind_version_of}
use Rattle.charmlet_model.specs.Shelves.{records_of}
use Rattle.charmlet_shelf.specs.Risen.{risen}
use Rattle.charmlet_shelf.specs.Shelf.{HasCounts}
use Rattle.charmlet_shelf.proofs.Records.{at, shown_same, shown_there}
use Rattle.charmlet_shelf.proofs.Risen.{found_here, rising_always, written_at}
use Rattle.charmlet_shelf.proofs.LentLemmas.{carried_out, due_is, its_due, left_alive, left_without, not_false, not_true, same_kind_version, set_here}
use Rattle.charmlet_shelf.proofs.lent.deliver_at.Goals as goal

pub advance-requires-after_bounds : goal.advance-requires-after_bounds
advance-requires-after_bounds g c κs within =
    let state = g.C.Chare.state in
    let entries = c.args.residents.now.entries in
    let es = risen entries in
    let to = c.args.to in
    let old = c.pair_mut-resident.result.1.now in
    let here : at es to ≡ Some old = found_here entries to c.args.index c.requires.stands c.pair_mut-resident.result.0.now old c.pair_mut-resident.ensures.value in
    subst (λ o. IfSome o HasCounts) (shown_there state es to old here) c.requires.counts

pub returns-in_default-clause-err : goal.returns-in_default-clause-err
returns-in_default-clause-err g c =
    let state = g.C.Chare.state in
    let entries = c.args.residents.now.entries in
    let es = risen entries in
    let to = c.args.to in
    let old = c.pair_mut-resident.result.1.now in
    let here : at es to ≡ Some old = found_here entries to c.args.index c.requires.stands c.pair_mut-resident.result.0.now old c.pair_mut-resident.ensures.value in
    let new = c.advance.new.resident in
    let written : risen (set_value_at entries c.args.index new) ≡ set_value (is_at (elem_cmp to)) es new = written_at c.args.residents.now to c.args.index new c.pair_mut-resident.ensures.unique c.requires.stands in
    ap (records_of state) written ∙ shown_same state (is_at (elem_cmp to)) es old new here c.in_default.ensures.err

pub returns-then-not-output-clause-ok : goal.returns-then-not-output-clause-ok
returns-then-not-output-clause-ok g c = λ id.
    let state = g.C.Chare.state in
    let entries = c.args.residents.now.entries in
    let es = risen entries in
    let to = c.args.to in
    let old = c.pair_mut-resident.result.1.now in
    let here : at es to ≡ Some old = found_here entries to c.args.index c.requires.stands c.pair_mut-resident.result.0.now old c.pair_mut-resident.ensures.value in
    let new = c.advance.new.resident in
    let written : risen (set_value_at entries c.args.index new) ≡ set_value (is_at (elem_cmp to)) es new = written_at c.args.residents.now to c.args.index new c.pair_mut-resident.ensures.unique c.requires.stands in
    let m : Message = record { id = id; to = to; entry = c.args.entry; words = c.args.words.now } in
    let rising = rising_always entries in
    let makes = c.in-Ok.ensures.ok in
    let lives : c.in-Ok.output.is_destroyed ≡ false = not_true c.in-Ok.output.is_destroyed c.if-not-output.true in (
      its_due state es rising m old new here c.in-Ok.output makes,
      due_is state es rising m old new here c.in-Ok.output makes,
      carried_out state es rising m old new here c.in-Ok.output makes None _ (ap (records_of state) written ∙ left_alive state es rising m old new here c.in-Ok.output makes lives) (sym lives) tt,
    )

pub unreachable-requires : goal.unreachable-requires
unreachable-requires g c =
    let state = g.C.Chare.state in
    let entries = c.args.residents.now.entries in
    let es = risen entries in
    let to = c.args.to in
    let old = c.pair_mut-resident.result.1.now in
    let here : at es to ≡ Some old = found_here entries to c.args.index c.requires.stands c.pair_mut-resident.result.0.now old c.pair_mut-resident.ensures.value in
    let new = c.advance.new.resident in
    let written : risen (set_value_at entries c.args.index new) ≡ set_value (is_at (elem_cmp to)) es new = written_at c.args.residents.now to c.args.index new c.pair_mut-resident.ensures.unique c.requires.stands in
    let none : at (risen (set_value_at entries c.args.index new)) to ≡ None = sym c.take.ensures.value ∙ c.in_default-take.is in
    let there : Some new ≡ None = sym (set_here es to old new here) ∙ ap (λ es. at es to) (sym written) ∙ none in
    cc

pub returns-clause-ok : goal.returns-clause-ok
returns-clause-ok g c = λ id.
    let state = g.C.Chare.state in
    let entries = c.args.residents.now.entries in
    let es = risen entries in
    let to = c.args.to in
    let old = c.pair_mut-resident.result.1.now in
    let here : at es to ≡ Some old = found_here entries to c.args.index c.requires.stands c.pair_mut-resident.result.0.now old c.pair_mut-resident.ensures.value in
    let new = c.advance.new.resident in
    let written : risen (set_value_at entries c.args.index new) ≡ set_value (is_at (elem_cmp to)) es new = written_at c.args.residents.now to c.args.index new c.pair_mut-resident.ensures.unique c.requires.stands in
    let m : Message = record { id = id; to = to; entry = c.args.entry; words = c.args.words.now } in
    let rising = rising_always entries in
    let makes = c.in-Ok.ensures.ok in
    let dead : c.in-Ok.output.is_destroyed ≡ true = not_false c.in-Ok.output.is_destroyed c.if-not-output.false in
    let taken : Some c.in-Some.resident ≡ Some new = sym c.in-Some.is ∙ c.take.ensures.value ∙ ap (λ es. at es to) written ∙ set_here es to old new here in
    let one : c.in-Some.resident ≡ new = cc in
    let left = ap (records_of state) (c.take.ensures.entries ∙ ap (remove_entry (is_at (elem_cmp to))) written) ∙ left_without state es rising m old new here c.in-Ok.output makes dead in (
      its_due state es rising m old new here c.in-Ok.output makes,
      due_is state es rising m old new here c.in-Ok.output makes,
      carried_out state es rising m old new here c.in-Ok.output makes (Some c.in-Some.resident.object) _ left (sym dead) (ap (λ (resident : Resident g.row.C.Denot). kind_version_of (state resident.object)) one ∙ same_kind_version state old new to c.args.entry c.args.words.now c.in-Ok.output makes),
    )
