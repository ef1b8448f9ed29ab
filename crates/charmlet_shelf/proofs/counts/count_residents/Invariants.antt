use Rattle.std.proofs.Common.{◌≡◌, ◌+◌, ◌==◌, cond}
use Rattle.std.specs.Prelude.{sum_by}
use Rattle.charmlet_model.specs.declared.state.Resident.{Resident}
use Rattle.charmlet_model.specs.Kind.{kind_number}
use Rattle.charmlet_model.specs.Reaction.{kind_of}
use Rattle.charmlet_model.specs.Shelves.{count_of, objects_of}
use Rattle.charmlet_shelf.proofs.counts.count_residents.Given as goal

-- with those that are left, the count is what it will be
abbrev pub invariant-loop-resident : goal.invariant-loop-resident
invariant-loop-resident g l =
    l.count + sum_by (λ (r : Resident g.row.C.Denot). cond (kind_number (kind_of (g.C.Chare.state r.object)) == kind_number l.kind) 1 0) l.resident-iterator
    ≡ count_of g.C.Chare.state (objects_of l.residents.entries) l.kind
