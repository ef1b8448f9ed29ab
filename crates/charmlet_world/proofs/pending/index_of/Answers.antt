use Rattle.std.proofs.Common.{sym, ap, ◌∙◌}
use Rattle.std.specs.Prelude.{Some}
use Rattle.charmlet_world.proofs.Indices.{table_eq-same}
use Rattle.charmlet_world.proofs.pending.index_of.Goals as goal

pub returns-then-eq-clause-here : goal.returns-then-eq-clause-here
returns-then-eq-clause-here c =
    let same = table_eq-same c.in-Some.here.now c.args.id (sym c.eq.ensures ∙ c.if-eq.true) in
    (c.in-Some._envelope.now, sym c.in-Some.ensures.entry ∙ ap (λ id. Some (id, c.in-Some._envelope.now)) same)
