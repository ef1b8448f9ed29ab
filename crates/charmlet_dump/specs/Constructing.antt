-- Pending constructions: messages that take a blank when they are delivered.
use Rattle.std.specs.Prelude.{ℕ, ◌==◌, Bool, false, is_some, if◌then◌else◌, Option, Some, None, List, [], ◌∷◌, count_by}
use Rattle.charmlet_model.specs.declared.kind_version.KindVersion.{KindVersion}
use Rattle.charmlet_model.specs.declared.kind.Kind.{Kind}
use Rattle.charmlet_model.specs.declared.kind.Kind.TheVariants as kinds
use Rattle.charmlet_model.specs.declared.message.Message.{Message}
use Rattle.charmlet_model.specs.declared.TheConstants.{CONSTRUCT}
use Rattle.charmlet_model.specs.KindVersion.{kind_of_version}
use Rattle.charmlet_model.specs.Kind.{kind_number}
use Rattle.charmlet_model.specs.World.{World, version_of_array, record_of}

-- all kinds, by rising number
abbrev pub all_kinds : List Kind
all_kinds = kinds.Counter ∷ kinds.Ring ∷ kinds.Account ∷ kinds.Sum ∷ kinds.Tree ∷ kinds.Tape ∷ []

-- the kind version of the blank from which a message constructs its receiver, if it does: the
-- receiver isn't there
abbrev pub blank_in : World → Message → Option KindVersion
blank_in w m = if is_some (record_of w m.to).state then None
    else (if m.entry == CONSTRUCT then version_of_array w m.to.array else None)

-- a blank of this kind version, if one is needed, is of this kind
abbrev pub is_of_kind : Option KindVersion → Kind → Bool
is_of_kind None kind = false
is_of_kind (Some kind_version) kind = kind_number (kind_of_version kind_version) == kind_number kind

-- how many of the pending messages take a blank of this kind when they are delivered
abbrev pub constructions_in : World → Kind → ℕ
constructions_in w kind = count_by (λ (m : Message). is_of_kind (blank_in w m) kind) w.pending
