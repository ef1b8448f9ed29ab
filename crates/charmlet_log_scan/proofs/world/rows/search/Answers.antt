use Rattle.charmlet_log_scan.proofs.WorldLemmas.RisenClients.{is_found}
use Rattle.charmlet_log_scan.proofs.world.rows.search.Goals as goal

pub returns-clause-found : goal.returns-clause-found
returns-clause-found c = is_found c.args.client c.args.rows.now.entries c.get_index_of.result c.get_index_of.ensures.index
