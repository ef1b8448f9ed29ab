use Rattle.std.proofs.Common.{◌≡◌, [], sym, ap, ◌∙◌}
use Rattle.std.specs.Cmp.{nat_cmp_total}
use Rattle.std.specs.Ordering.{nat_cmp}
use Rattle.charmlet_history.specs.Opened.{opened_client, with_clients}
use Rattle.charmlet_world.proofs.Made.{all_made}
use Rattle.charmlet_merge.proofs.history.rows.clients_of.Goals as goal

pub returns : goal.returns
returns c =
    let clients = c.loop-client.clients.entries in
    let none : c.loop-client.client-iterator ≡ [] = c.in-None.ensures.steps.0 in
    sym (ap (with_clients clients) none) ∙ c.loop-client.invariant ∙ all_made nat_cmp nat_cmp_total opened_client c.args.rows.entries c.len.ensures.ordered
