use Rattle.std.proofs.Common.{ℕ, arith, ap, length, sym, subst}
use Rattle.std.specs.List.{All}
use Rattle.charmlet_model.specs.declared.names.Elem.{Elem}
use Rattle.charmlet_migrate.specs.Moving.{IsIdle}
use Rattle.charmlet_model.specs.Shelves.{ShowsAll, records_of}
use Rattle.charmlet_store.specs.Store.{StoreShown, world_in}
use Rattle.charmlet_store.proofs.Residents.{residents_counted, residents_show}
use Rattle.charmlet_store.proofs.store.Store.dismantle.Goals as goal

pub lift_all-requires-clause-room : goal.lift_all-requires-clause-room
lift_all-requires-clause-room g c = omega (arith, c.in-Ok-with_capacity.ensures.capacity, c.len.ensures.len, ap (length {A = Elem × ℕ}) c.in-Ok.ensures.places)

pub lift_all-requires-clause-idle : goal.lift_all-requires-clause-idle
lift_all-requires-clause-idle g c κs within = subst (All IsIdle) (sym c.as_mut_slice.ensures.value) c.self.invariant.idle

pub returns-clause-shows : goal.returns-clause-shows
returns-clause-shows g c =
    subst (λ (s : StoreShown). ShowsAll (records_of g.C.Chare.state c.lift_all.new.residents.items) (world_in s)) c.self.view_is
    (residents_show g.C.Chare.state c.self.inside c.facts.ensures c.self.invariant c.lift_all.new.residents.items c.lift_all.ensures)

pub returns-clause-counted : goal.returns-clause-counted
returns-clause-counted g c = residents_counted g.C.Chare.state c.self.inside c.facts.ensures c.self.invariant c.lift_all.new.residents.items c.lift_all.ensures
