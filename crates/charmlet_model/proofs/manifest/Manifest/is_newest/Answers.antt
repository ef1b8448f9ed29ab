use Rattle.std.proofs.Common.{◌≡◌, ℕ, false, ◌&&◌, ap, sym, ◌∙◌}
use Rattle.std.specs.List.{list_all}
use Rattle.std.proofs.lemmas.List.Folds.{list_all-map}
use Rattle.charmlet_model.specs.declared.kind_version.KindVersion.{KindVersion}
use Rattle.charmlet_model.specs.KindVersion.{are_newest, is_newest}
use Rattle.charmlet_model.proofs.manifest.Manifest.is_newest.Goals as goal

pub loop-kind_version-init : goal.loop-kind_version-init
loop-kind_version-init c =
    ap are_newest (sym c.self.view_is)
    ∙ sym (list_all-map is_newest (λ (e : ℕ × KindVersion). e.1) c.self.inside.kind_versions.entries)
    ∙ ap (list_all is_newest) (sym (c.into_iter-kind_version-iterator.ensures.into_iter_gives ∙ c.values-kind_version-items.ensures.rest))

pub returns-then-not-is_newest : goal.returns-then-not-is_newest
returns-then-not-is_newest c =
    sym (c.loop-kind_version.invariant ∙ ap (list_all is_newest) c.in-Some.ensures.steps ∙ ap (λ b. b && list_all is_newest c.next.new.self) (sym c.is_newest.ensures ∙ c.if-not-is_newest.true))

pub loop-kind_version-preserved : goal.loop-kind_version-preserved
loop-kind_version-preserved c =
    c.loop-kind_version.invariant ∙ ap (list_all is_newest) c.in-Some.ensures.steps ∙ ap (λ b. b && list_all is_newest c.next.new.self) (sym c.is_newest.ensures ∙ c.if-not-is_newest.false)

pub returns : goal.returns
returns c = sym (c.loop-kind_version.invariant ∙ ap (list_all is_newest) c.in-None.ensures.steps.0)
