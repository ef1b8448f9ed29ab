use Rattle.std.proofs.Common.{arith, sym, subst}
use Rattle.charmlet_ready_queue.specs.SeqNos.SeqNos.{Climbs}
use Rattle.charmlet_ready_queue.proofs.seq_nos.seq_nos.SeqNos.put_counted.Goals as goal
use Rattle.charmlet_ready_queue.proofs.SeqNosLemmas.Rising.{climbs_with}

pub invariant_of-self : goal.invariant_of-self
invariant_of-self g c = record {
  within = c.put_in-self-inside.ensures.behind;
  climbs = subst Climbs (sym c.put_in-self-inside.ensures.seq_nos) (climbs_with _ c.args.number c.self.invariant.climbs);
  fits = omega (arith, c.put_in-self-inside.new.ring.ok.0, c.put_in-self-inside.new.ring.small.1);
}
