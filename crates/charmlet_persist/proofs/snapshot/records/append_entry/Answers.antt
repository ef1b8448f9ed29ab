use Rattle.std.proofs.Common.{◌++◌, refl, ◌∙◌}
use Rattle.charmlet_persist.proofs.SnapshotLemmas.Entries.{entry_is}
use Rattle.charmlet_persist.proofs.snapshot.records.append_entry.Goals as goal

pub returns : goal.returns
returns c = λ state same.
    c.write_entry.ensures.bytes
    ∙ (λ i. c.in_ok-reserve.ensures.items i ++ entry_is _ c.args.elem c.args.element.now state refl same i)
