use Rattle.std.proofs.Common.{◌≡◌, sym, ap, ◌∙◌}
use Rattle.std.specs.BTreeMap.{insert_entry}
use Rattle.std.specs.Cmp.{nat_eq_equiv}
use Rattle.std.specs.Ordering.{nat_cmp}
use Rattle.indexmap.specs.IndexMap.{set_value_at}
use Rattle.indexmap.proofs.CallerLemmas.{updates-with_value_at}
use Rattle.charmlet_model.specs.Row.{with_request}
use Rattle.charmlet_world.specs.Client.Client.{Rows, with_present}
use Rattle.charmlet_world.specs.Seen.{client_at}
use Rattle.charmlet_log_scan.specs.World.Clients.{client_in, risen_clients}
use Rattle.charmlet_log_scan.proofs.WorldLemmas.RisenClients.{risen_with, row_there, same_client}
use Rattle.charmlet_log_scan.proofs.world.rows.ask_at.Goals as goal

pub returns : goal.returns
returns c =
    let es = c.args.rows.now.entries in
    let k = c.args.client in
    let w = c.accept.new.self in
    let was : c.pair_mut-row.result.1.now ≡ client_at (risen_clients es) k = row_there es c.args.place k c.pair_mut-row.result.0.now c.pair_mut-row.result.1.now c.requires c.pair_mut-row.ensures.value ∙ sym (same_client k es) in
    risen_with es (set_value_at es c.args.place w) k w (updates-with_value_at c.args.rows.now c.args.place w nat_eq_equiv c.pair_mut-row.ensures.unique k (client_in es k) c.requires).0
    ∙ ap (insert_entry nat_cmp (risen_clients es) k) (c.accept.ensures ∙ ap (λ (r : Rows). with_present r (with_request r.present c.args.number)) was)
