-- Blanks that pending messages want.
use Rattle.std.specs.Prelude.{ℕ, ◌==◌, Bool, false, Option, Some, None, count_by}
use Rattle.charmlet_model.specs.declared.kind_version.KindVersion.{KindVersion}
use Rattle.charmlet_model.specs.declared.kind.Kind.{Kind}
use Rattle.charmlet_model.specs.declared.message.Message.{Message}
use Rattle.charmlet_model.specs.Core.{Core, blank_for, present}
use Rattle.charmlet_model.specs.KindVersion.{kind_of_version}
use Rattle.charmlet_model.specs.Kind.{kind_number}

-- a blank of this kind version, if one is needed, is of this kind
abbrev pub is_of_kind : Option KindVersion → Kind → Bool
is_of_kind None kind = false
is_of_kind (Some kind_version) kind = kind_number (kind_of_version kind_version) == kind_number kind

-- how many of the pending messages take a blank of this kind when they are delivered, each of which
-- constructs an element that isn't there
abbrev pub wanted_in : Core → Kind → ℕ
wanted_in core kind = count_by (λ (m : Message). is_of_kind (blank_for core m) kind)
    (present core).pending
