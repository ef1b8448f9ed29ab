use Rattle.charmlet_model.specs.Names.{elem_cmp}
use Rattle.charmlet_lab.specs.Same.{HasEntries}
use Rattle.charmlet_lab.proofs.same.has_records.Given as goal

-- the records so far are there
abbrev pub invariant-loop-elem : goal.invariant-loop-elem
invariant-loop-elem l =
    (HasEntries elem_cmp l.all.records l.elem-iterator → HasEntries elem_cmp l.all.records l.some.records)
    × (HasEntries elem_cmp l.all.records l.some.records → HasEntries elem_cmp l.all.records l.elem-iterator)
