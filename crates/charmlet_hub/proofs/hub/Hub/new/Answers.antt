use Rattle.std.proofs.Common.{length, List, sym, ap, subst, arith}
use Rattle.charmlet_model.specs.declared.event.Event.{Event}
use Rattle.charmlet_leases.specs.Seats.Seats.{HaveAll}
use Rattle.charmlet_hub.specs.Hub.{deliveries_in}
use Rattle.charmlet_hub.proofs.Checkpoints.{none_there}
use Rattle.charmlet_hub.proofs.hub.Hub.new.Goals as goal

pub invariant_of-result : goal.invariant_of-result
invariant_of-result g c = (
  record {
    seats = subst (λ (events : List Event). HaveAll c.new.result (deliveries_in events)) (sym c.requires.history) c.new.ensures.all;
    passes = c.new-2.ensures.current c.args.sequencer.core c.requires.history;
    room = let none = ap length c.requires.assigned in omega arith;
  },
  c.requires.processors,
  c.requires.honest,
  λ place shelves at. none_there c.args.tokens c.requires.tokens place shelves at,
)
