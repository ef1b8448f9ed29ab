-- Objects of one kind.
use Rattle.std.specs.Prelude.{◌≡◌, ◌==◌, true, List}
use Rattle.std.specs.List.{list_all}
use Rattle.charmlet_model.specs.declared.kind.Kind.{Kind}
use Rattle.charmlet_model.specs.declared.state.State.{State}
use Rattle.charmlet_model.specs.Kind.{kind_number}
use Rattle.charmlet_model.specs.Reaction.{kind_of}

-- each of the objects is of the kind
abbrev pub AreOf : {C : Type 0} → (C → State) → Kind → List C → Type 0
AreOf state kind objects = list_all
    (λ object. kind_number (kind_of (state object)) == kind_number kind) objects ≡ true
