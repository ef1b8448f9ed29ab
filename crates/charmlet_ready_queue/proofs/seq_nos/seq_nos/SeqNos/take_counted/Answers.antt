use Rattle.std.proofs.Common.{arith, sym, subst}
use Rattle.charmlet_ready_queue.specs.SeqNos.SeqNos.{Climbs}
use Rattle.charmlet_ready_queue.proofs.seq_nos.seq_nos.SeqNos.take_counted.Goals as goal
use Rattle.charmlet_ready_queue.proofs.SeqNosLemmas.Rising.{climbs_filter}

pub invariant_of-self : goal.invariant_of-self
invariant_of-self g c = record {
  within = c.take_out-self-inside.ensures.behind;
  climbs = subst Climbs (sym c.take_out-self-inside.ensures.seq_nos) (climbs_filter _ _ c.self.invariant.climbs);
  fits = omega (arith, c.take_out-self-inside.new.ring.ok.0, c.take_out-self-inside.new.ring.small.1);
}
