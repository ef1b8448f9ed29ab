use Rattle.std.proofs.Common.{arith, sym, subst}
use Rattle.charmlet_ready_queue.specs.SeqNos.SeqNos.{AllBefore, Climbs, Line}
use Rattle.charmlet_ready_queue.proofs.seq_nos.seq_nos.SeqNos.push.Goals as goal
use Rattle.charmlet_ready_queue.proofs.SeqNosLemmas.Rising.{climbs_last}

pub invariant_of-self : goal.invariant_of-self
invariant_of-self c =
    let last = subst (λ (l : Line). AllBefore c.args.number l.seq_nos) (sym c.self.view_is) c.requires.last in
    record {
      within = c.put_last-self-inside.ensures.behind;
      climbs = subst Climbs (sym c.put_last-self-inside.ensures.seq_nos) (climbs_last _ c.args.number c.self.invariant.climbs last);
      fits = grind arith;
    }

pub returns-clause-climbs : goal.returns-clause-climbs
returns-clause-climbs c =
    let last = subst (λ (l : Line). AllBefore c.args.number l.seq_nos) (sym c.self.view_is) c.requires.last in
    subst Climbs (sym c.put_last-self-inside.ensures.seq_nos) (climbs_last _ c.args.number c.self.invariant.climbs last)
