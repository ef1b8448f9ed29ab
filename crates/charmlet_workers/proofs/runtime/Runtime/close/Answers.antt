use Rattle.std.proofs.Common.{◌≡◌, ◌∙◌, length, sym, subst, rules}
use Rattle.std.specs.Prelude.{vec_len}
use Rattle.charmlet_workers.proofs.Orders.{ordered_count}
use Rattle.charmlet_workers.proofs.runtime.Runtime.close.Goals as goal

pub close-requires-clause-count : goal.close-requires-clause-count
close-requires-clause-count g c κs within =
    let items = c.in-Ok.out.1.items in
    let long : vec_len c.in-Ok.out.1 ≡ length items = search rules in
    long ∙ ordered_count c.self.inside.shelves items c.in-Ok.ensures.values ∙ c.self.invariant

pub returns-in-Ok-close-clause-lawful : goal.returns-in-Ok-close-clause-lawful
returns-in-Ok-close-clause-lawful g c = λ honest. c.in-Ok-close.ensures.lawful (subst g.D.Disk.honest c.in-Ok-close.ensures.disk honest)

pub returns-in-Ok-close-clause-honest : goal.returns-in-Ok-close-clause-honest
returns-in-Ok-close-clause-honest g c = λ named. subst g.D.Disk.honest (sym c.in-Ok-close.ensures.disk) (c.facts.ensures.honest named)
