-- Kinds in their versions.
use Rattle.std.specs.Prelude.{ℕ, ◌==◌, Bool, true, false, IsTrue, List, if◌then◌else◌, Option, Some, None, option_map}
use Rattle.std.specs.List.{list_all}
use Rattle.charmlet_model.specs.declared.kind.Kind.{Kind}
use Rattle.charmlet_model.specs.declared.kind.Kind.TheVariants as kinds
use Rattle.charmlet_model.specs.declared.kind_version.KindVersion.{KindVersion}
use Rattle.charmlet_model.specs.declared.kind_version.KindVersion.TheVariants.{FirstCounter, Counter, Ring, Account, Sum, Tree, Tape}
use Rattle.charmlet_model.specs.Kind.{numbered_kind}

-- its kind
abbrev pub kind_of_version : KindVersion → Kind
kind_of_version FirstCounter = kinds.Counter
kind_of_version Counter = kinds.Counter
kind_of_version Ring = kinds.Ring
kind_of_version Account = kinds.Account
kind_of_version Sum = kinds.Sum
kind_of_version Tree = kinds.Tree
kind_of_version Tape = kinds.Tape

-- its version, from 1 on
abbrev pub number_of_version : KindVersion → ℕ
number_of_version FirstCounter = 1
number_of_version Counter = 2
number_of_version Ring = 1
number_of_version Account = 1
number_of_version Sum = 1
number_of_version Tree = 1
number_of_version Tape = 1

-- the newest version of a kind
abbrev pub newest_of : Kind → KindVersion
newest_of kinds.Counter = Counter
newest_of kinds.Ring = Ring
newest_of kinds.Account = Account
newest_of kinds.Sum = Sum
newest_of kinds.Tree = Tree
newest_of kinds.Tape = Tape

-- the newest version of a kind version's kind
abbrev pub newest : KindVersion → KindVersion
newest FirstCounter = Counter
newest Counter = Counter
newest Ring = Ring
newest Account = Account
newest Sum = Sum
newest Tree = Tree
newest Tape = Tape

-- how many versions its kind has
abbrev pub newest_version : KindVersion → ℕ
newest_version kind_version = number_of_version (newest kind_version)

-- its kind has no newer version
abbrev pub is_newest : KindVersion → Bool
is_newest FirstCounter = false
is_newest Counter = true
is_newest Ring = true
is_newest Account = true
is_newest Sum = true
is_newest Tree = true
is_newest Tape = true

-- the newest version of the kind of this number
abbrev pub numbered_version : ℕ → Option KindVersion
numbered_version n = option_map newest_of (numbered_kind n)

-- the kind of this number in this version
abbrev pub versioned : ℕ → ℕ → Option KindVersion
versioned n version =
    if n == 1 then (if version == 1 then Some FirstCounter
    else if version == 2 then Some Counter
    else None)
    else if version == 1 then numbered_version n
    else None

-- the same kind in that version, or in its newest one if there is no such version
abbrev pub in_version : ℕ → KindVersion → KindVersion
in_version version FirstCounter = if version == 1 then FirstCounter else Counter
in_version version Counter = if version == 1 then FirstCounter else Counter
in_version version Ring = Ring
in_version version Account = Account
in_version version Sum = Sum
in_version version Tree = Tree
in_version version Tape = Tape

-- no array has an older version
abbrev pub are_newest : List (ℕ × KindVersion) → Bool
are_newest manifest = list_all (λ (e : ℕ × KindVersion). is_newest e.1) manifest

-- the same as a proposition
abbrev pub AreNewest : List (ℕ × KindVersion) → Type 0
AreNewest manifest = IsTrue (are_newest manifest)
