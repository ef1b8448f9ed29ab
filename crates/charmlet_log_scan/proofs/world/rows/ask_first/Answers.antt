use Rattle.std.proofs.Common.{sym, ap, ◌∙◌}
use Rattle.std.specs.BTreeMap.{insert_entry}
use Rattle.std.specs.Ordering.{nat_cmp}
use Rattle.charmlet_model.specs.Row.{with_request}
use Rattle.charmlet_world.specs.Client.Client.{Rows, with_present}
use Rattle.charmlet_log_scan.specs.World.Clients.{risen_clients}
use Rattle.charmlet_log_scan.proofs.WorldLemmas.RisenClients.{made_none, risen_with}
use Rattle.charmlet_log_scan.proofs.world.rows.ask_first.Goals as goal

pub returns-clause-ok : goal.returns-clause-ok
returns-clause-ok c =
    let es = c.args.rows.now.entries in
    let k = c.args.client in
    risen_with es c.insert_full.new.self.entries k c.accept.new.self c.in_ok-place.ensures.updates.0
    ∙ ap (insert_entry nat_cmp (risen_clients es) k) (c.accept.ensures ∙ ap (λ (r : Rows). with_present r (with_request r.present c.args.number)) (c.new-row.ensures ∙ sym (made_none es k c.requires)))
