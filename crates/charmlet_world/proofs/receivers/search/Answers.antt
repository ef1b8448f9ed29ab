use Rattle.charmlet_world.specs.Envelopes.{no_receiver}
use Rattle.charmlet_world.proofs.Rows.{is_found_by}
use Rattle.charmlet_world.proofs.receivers.search.Goals as goal

pub returns-clause-found : goal.returns-clause-found
returns-clause-found c = is_found_by no_receiver c.args.elem c.args.table.now.entries c.get_index_of.result c.get_index_of.ensures.index
