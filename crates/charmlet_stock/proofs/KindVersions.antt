-- Blanks of a kind are made blanks of any of its versions.
use Rattle.std.proofs.Common.{◌≡◌, ℕ, ◌≤◌, if◌then◌else◌, ◌==◌, refl, sym, ap, subst, ◌∙◌, arith}
use Rattle.charmlet_model.specs.declared.kind.Kind.{Kind}
use Rattle.charmlet_model.specs.declared.kind.Kind.TheVariants as kinds
use Rattle.charmlet_model.specs.declared.kind_version.KindVersion.{KindVersion}
use Rattle.charmlet_model.specs.declared.kind_version.KindVersion.TheVariants as kind_versions
use Rattle.charmlet_model.specs.declared.state.State.{State}
use Rattle.charmlet_model.specs.KindVersion.{kind_of_version, number_of_version, newest, newest_of, newest_version, in_version}
use Rattle.charmlet_model.specs.Reaction.{kind_version_of, kind_of}
use Rattle.charmlet_model.specs.Upgrade.{blank_state}

-- the version of a kind
abbrev version_of_kind : ℕ → Kind → KindVersion
version_of_kind version kinds.Counter = if version == 1 then kind_versions.FirstCounter else kind_versions.Counter
version_of_kind version kinds.Ring = kind_versions.Ring
version_of_kind version kinds.Account = kind_versions.Account
version_of_kind version kinds.Sum = kind_versions.Sum
version_of_kind version kinds.Tree = kind_versions.Tree
version_of_kind version kinds.Tape = kind_versions.Tape

by_kind : (version : ℕ) (e : KindVersion) → in_version version e ≡ version_of_kind version (kind_of_version e)
by_kind version kind_versions.FirstCounter = refl
by_kind version kind_versions.Counter = refl
by_kind version kind_versions.Ring = refl
by_kind version kind_versions.Account = refl
by_kind version kind_versions.Sum = refl
by_kind version kind_versions.Tree = refl
by_kind version kind_versions.Tape = refl

own_version : (e : KindVersion) → version_of_kind (number_of_version e) (kind_of_version e) ≡ e
own_version kind_versions.FirstCounter = refl
own_version kind_versions.Counter = refl
own_version kind_versions.Ring = refl
own_version kind_versions.Account = refl
own_version kind_versions.Sum = refl
own_version kind_versions.Tree = refl
own_version kind_versions.Tape = refl

blank_is : (e : KindVersion) → kind_version_of (blank_state e) ≡ e
blank_is kind_versions.FirstCounter = refl
blank_is kind_versions.Counter = refl
blank_is kind_versions.Ring = refl
blank_is kind_versions.Account = refl
blank_is kind_versions.Sum = refl
blank_is kind_versions.Tree = refl
blank_is kind_versions.Tape = refl

newest_by_kind : (e : KindVersion) → newest e ≡ newest_of (kind_of_version e)
newest_by_kind kind_versions.FirstCounter = refl
newest_by_kind kind_versions.Counter = refl
newest_by_kind kind_versions.Ring = refl
newest_by_kind kind_versions.Account = refl
newest_by_kind kind_versions.Sum = refl
newest_by_kind kind_versions.Tree = refl
newest_by_kind kind_versions.Tape = refl

own_newest : (e : KindVersion) → number_of_version e ≤ newest_version e
own_newest kind_versions.FirstCounter = omega arith
own_newest kind_versions.Counter = omega arith
own_newest kind_versions.Ring = omega arith
own_newest kind_versions.Account = omega arith
own_newest kind_versions.Sum = omega arith
own_newest kind_versions.Tree = omega arith
own_newest kind_versions.Tape = omega arith

pub some_version : (e : KindVersion) → 1 ≤ number_of_version e
some_version kind_versions.FirstCounter = omega arith
some_version kind_versions.Counter = omega arith
some_version kind_versions.Ring = omega arith
some_version kind_versions.Account = omega arith
some_version kind_versions.Sum = omega arith
some_version kind_versions.Tree = omega arith
some_version kind_versions.Tape = omega arith

pub known_version : (e : KindVersion) (s : State) → kind_of s ≡ kind_of_version e → number_of_version e ≤ newest_version (kind_version_of s)
known_version e s is =
    let same : newest_version e ≡ newest_version (kind_version_of s) = ap number_of_version (newest_by_kind e ∙ ap newest_of (sym is) ∙ sym (newest_by_kind (kind_version_of s))) in
    subst (λ n. number_of_version e ≤ n) same (own_newest e)

pub as_blank : (e : KindVersion) (s : State) → kind_of s ≡ kind_of_version e → blank_state (in_version (number_of_version e) (kind_version_of s)) ≡ blank_state e
as_blank e s is = ap blank_state (by_kind (number_of_version e) (kind_version_of s) ∙ ap (version_of_kind (number_of_version e)) is ∙ own_version e)

pub as_kind_version : (e : KindVersion) (s : State) → kind_of s ≡ kind_of_version e → kind_version_of (blank_state (in_version (number_of_version e) (kind_version_of s))) ≡ e
as_kind_version e s is = ap kind_version_of (as_blank e s is) ∙ blank_is e

-- what the proof of `take_as` stands on
pub ruleset blanks_as = (some_version, known_version, as_blank, as_kind_version)
