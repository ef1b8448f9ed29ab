use Rattle.charmlet_ready_queue.proofs.index.index.Index.open.Goals as goal

pub returns-clause-index : goal.returns-clause-index
returns-clause-index c = λ place is. c.in_ok-self-inside.ensures.index place
