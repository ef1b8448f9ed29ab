use Rattle.std.proofs.Common.{◌≡◌, ◌+◌, List, length, Option, Some, None, ap, ◌∙◌, rules}
use Rattle.std.specs.Prelude.{slice_get, slice_set}
use Rattle.charmlet_model.specs.declared.names.MsgId.{MsgId}
use Rattle.charmlet_leases.specs.Seats.Seats.{lists_out}
use Rattle.charmlet_leases.proofs.SeatsLemmas.Weaving.{count-without}
use Rattle.charmlet_leases.proofs.seats.table.take_in.Goals as goal

pub returns-clause-fewer : goal.returns-clause-fewer
returns-clause-fewer g c =
    let s = c.seat.inside in
    let there : slice_get c.args.authority.now s.place ≡ Some (Some s.ids.items) = search rules in
    let new : c.take_back.new.self ≡ slice_set c.args.authority.now s.place None = search rules in
    ap (λ (b : List (Option (List MsgId))). length (lists_out b) + 1) new ∙ count-without c.args.authority.now s.place s.ids.items there
