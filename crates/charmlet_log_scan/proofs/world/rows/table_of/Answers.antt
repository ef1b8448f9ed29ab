use Rattle.std.proofs.Common.{◌≡◌, ℕ, List, [], ap, sym, ◌∙◌}
use Rattle.std.specs.Cmp.{nat_cmp_total}
use Rattle.std.specs.Ordering.{nat_cmp}
use Rattle.charmlet_world.specs.Made.{as_it_is, with_made}
use Rattle.charmlet_world.proofs.Made.{made_again}
use Rattle.charmlet_world.specs.Client.Client.{Rows}
use Rattle.charmlet_log_scan.specs.World.Clients.{risen_clients}
use Rattle.charmlet_log_scan.proofs.WorldLemmas.RisenClients.{risen_with}
use Rattle.charmlet_log_scan.proofs.world.rows.table_of.Goals as goal

pub loop-client-preserved-in_ok-insert : goal.loop-client-preserved-in_ok-insert
loop-client-preserved-in_ok-insert c =
    let rows = c.loop-client.rows.entries in
    let more = risen_with rows c.insert.new.self.entries c.in-Some.client c.in-Some.row c.in_ok-insert.ensures.updates.0 in
    ap (λ (made : List (ℕ × Rows)). with_made nat_cmp as_it_is made c.next.new.self) more
    ∙ sym (ap (with_made nat_cmp as_it_is (risen_clients rows)) c.in-Some.ensures.steps) ∙ c.loop-client.invariant

pub loop-client-preserved : goal.loop-client-preserved
loop-client-preserved c =
    let rows = c.loop-client.rows.entries in
    let more = risen_with rows c.insert.new.self.entries c.in-Some.client c.in-Some.row c.in_ok-insert.ensures.updates.0 in
    ap (λ (made : List (ℕ × Rows)). with_made nat_cmp as_it_is made c.next.new.self) more
    ∙ sym (ap (with_made nat_cmp as_it_is (risen_clients rows)) c.in-Some.ensures.steps) ∙ c.loop-client.invariant

pub returns : goal.returns
returns c =
    let rows = risen_clients c.loop-client.rows.entries in
    let none : c.loop-client.client-iterator ≡ [] = c.in-None.ensures.steps.0 in
    sym (ap (with_made nat_cmp as_it_is rows) none) ∙ c.loop-client.invariant ∙ made_again nat_cmp nat_cmp_total c.args.tree.entries c.len.ensures.ordered
