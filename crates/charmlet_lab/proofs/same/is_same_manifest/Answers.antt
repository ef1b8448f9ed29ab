use Rattle.std.proofs.Common.{◌≡◌, true, subst, ◌∙◌, ℕ, List}
use Rattle.std.specs.Cmp.{nat_cmp_total}
use Rattle.std.specs.Ordering.{nat_cmp}
use Rattle.std.proofs.lemmas.Map.Lookups.{exact_unsigned}
use Rattle.charmlet_model.specs.declared.kind_version.KindVersion.{KindVersion}
use Rattle.charmlet_lab.specs.Same.{HasEntries}
use Rattle.charmlet_lab.proofs.Maps.{not_same, same_if_both}
use Rattle.charmlet_lab.proofs.same.is_same_manifest.Goals as goal

pub returns-then-not-has_kind_versions : goal.returns-then-not-has_kind_versions
returns-then-not-has_kind_versions c =
    let others : c.deref.result.now ≡ c.args.other.now = c.deref.ensures.value ∙ c.in_ok-others.ensures in
    let has = subst (λ (es : List (ℕ × KindVersion)). (c.has_kind_versions.result ≡ true → HasEntries nat_cmp c.args.one.now es) × (HasEntries nat_cmp c.args.one.now es → c.has_kind_versions.result ≡ true)) others c.has_kind_versions.ensures in
    subst (λ b. (b ≡ true → c.args.one.now ≡ c.args.other.now) × (c.args.one.now ≡ c.args.other.now → b ≡ true)) c.if-not-has_kind_versions.true
    (not_same nat_cmp nat_cmp_total exact_unsigned c.has_kind_versions.result c.args.one.now c.args.other.now c.requires.one c.if-not-has_kind_versions.true has)

pub returns : goal.returns
returns c =
    let others : c.deref.result.now ≡ c.args.other.now = c.deref.ensures.value ∙ c.in_ok-others.ensures in
    let arrays : c.deref-2.result.now ≡ c.args.one.now = c.deref-2.ensures.value ∙ c.in_ok-arrays.ensures in
    let given = subst (λ (es : List (ℕ × KindVersion)). (c.has_kind_versions-2.result ≡ true → HasEntries nat_cmp c.args.other.now es) × (HasEntries nat_cmp c.args.other.now es → c.has_kind_versions-2.result ≡ true)) arrays c.has_kind_versions-2.ensures in
    same_if_both nat_cmp nat_cmp_total exact_unsigned c.has_kind_versions-2.result c.args.one.now c.args.other.now c.requires.one c.requires.other
    (subst (HasEntries nat_cmp c.args.one.now) others (c.has_kind_versions.ensures.0 c.if-not-has_kind_versions.false)) given
