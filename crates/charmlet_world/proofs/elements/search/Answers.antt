use Rattle.charmlet_world.proofs.Rows.{is_found}
use Rattle.charmlet_world.proofs.elements.search.Goals as goal

pub returns-clause-found : goal.returns-clause-found
returns-clause-found c = is_found c.args.elem c.args.rows.now.entries c.get_index_of.result c.get_index_of.ensures.index
