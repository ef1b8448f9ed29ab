use Rattle.std.proofs.Common.{ℕ, List, sym, ap, subst, ◌∙◌}
use Rattle.charmlet_model.specs.declared.kind_version.KindVersion.{KindVersion}
use Rattle.charmlet_model.specs.Fit.{IsFit}
use Rattle.charmlet_model.specs.Sound.{new_world}
use Rattle.charmlet_model.proofs.Upgrades.{fit-up}
use Rattle.charmlet_model.specs.KindVersion.{newest}
use Rattle.charmlet_model.specs.Upgrade.{up_manifest}
use Rattle.charmlet_model.proofs.NewestManifests.{retained}
use Rattle.charmlet_model.proofs.manifest.Manifest.upgrade.Goals as goal

pub invariant_of-self : goal.invariant_of-self
invariant_of-self c =
    let is = retained _ (λ f array old keeps new g called. (called.called.met.0, sym called.leaves ∙ called.called.met.1 ∙ ap newest called.shows.1)) _ c.self.inside.kind_versions.entries c.retain.new.self.entries c.retain.ensures.filtered in
    subst (λ (entries : List (ℕ × KindVersion)). IsFit (new_world entries)) (sym is) (fit-up (new_world c.self.inside.kind_versions.entries) c.self.invariant)

pub returns : goal.returns
returns c =
    retained _ (λ f array old keeps new g called. (called.called.met.0, sym called.leaves ∙ called.called.met.1 ∙ ap newest called.shows.1)) _ c.self.inside.kind_versions.entries c.retain.new.self.entries c.retain.ensures.filtered
    ∙ ap up_manifest c.self.view_is
