use Rattle.std.proofs.Common.{◌≡◌, refl, ap}
use Rattle.std.specs.Prelude.{Some}
use Rattle.std.specs.BTreeMap.{is_at}
use Rattle.std.specs.Map.{lookup}
use Rattle.charmlet_kinds.specs.Ring.{state_of}
use Rattle.charmlet_model.specs.declared.names.Elem.{Elem}
use Rattle.charmlet_model.specs.declared.state.Record.{Record}
use Rattle.charmlet_model.specs.Names.{elem_cmp}
use Rattle.charmlet_state_tests.proofs.tests.objects.copies.nothing_is_copied_during_a_delivery.Goals as goal

abbrev me : Elem
me = record { array = 2; index = 7 }

pub place_copy-copied-requires-clause-here : goal.place_copy-copied-requires-clause-here
place_copy-copied-requires-clause-here g c κs =
    let s = state_of c.unpacked-ring.result in
    let r : Record = record { state = Some s; sent = 4; received = 5 } in
    let here : lookup (is_at (elem_cmp me)) c.busy_shelf_with-source.result.records ≡ Some r = ap (λ records. lookup (is_at (elem_cmp me)) records) c.busy_shelf_with-source.ensures in
    (r, s, here, refl, c.unpacked-ring.ensures.state, refl)
