use Rattle.std.proofs.Common.{ap, ◌∙◌}
use Rattle.charmlet_model.specs.Core.{Core}
use Rattle.charmlet_workers.proofs.Orders.{numbered_in_order}
use Rattle.charmlet_workers.proofs.runtime.Runtime.open_in.Goals as goal

pub lock_all-requires-clause-shelves : goal.lock_all-requires-clause-shelves
lock_all-requires-clause-shelves g c κs within =
    let opened = c.open_store-sequencer.ensures in
    numbered_in_order g.B.RuntimeName.processors c.open_store-sequencer.result.shelves.items (opened.shelves.count ∙ ap (λ (k : Core). k.processors) opened.core ∙ c.requires.named.processors_are) opened.shelves.numbers
