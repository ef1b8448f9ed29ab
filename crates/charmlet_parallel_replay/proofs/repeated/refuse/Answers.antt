use Rattle.std.proofs.lemmas.List.Elements.{recursion_from_All}
use Rattle.charmlet_replayers.specs.Dispatch.Keeping.{IsHeldReplayer}
use Rattle.charmlet_parallel_replay.proofs.repeated.refuse.Goals as goal

pub reclaim_objects-requires-clause-held : goal.reclaim_objects-requires-clause-held
reclaim_objects-requires-clause-held g c κs within = recursion_from_All IsHeldReplayer c.args.replayers.items c.requires.held
