use Rattle.charmlet_world.proofs.Indices.{found_index}
use Rattle.charmlet_world.proofs.pending.search.Goals as goal

pub returns-clause-here : goal.returns-clause-here
returns-clause-here c = found_index c.args.id c.args.envelopes.now.entries c.get_index_of.result c.get_index_of.ensures.index
