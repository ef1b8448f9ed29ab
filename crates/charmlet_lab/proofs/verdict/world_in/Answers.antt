use Rattle.std.proofs.Common.{◌≡◌, ◌+◌, [], ◌∷◌, rules, sym, ap, subst, ◌∙◌}
use Rattle.charmlet_model.specs.Fit.{IsFit}
use Rattle.charmlet_model.specs.Core.{present}
use Rattle.charmlet_model.proofs.SoundLemmas.{sound_fit}
use Rattle.charmlet_history.specs.Kept.{core_in}
use Rattle.charmlet_recovery.specs.Recovered.{Found, recovered}
use Rattle.charmlet_persist.specs.Snapshot.Showing.{event_count}
use Rattle.charmlet_reference.specs.Recovery.Views.{files, seen}
use Rattle.charmlet_lab.proofs.Read.{image_recovers, seen_found}
use Rattle.charmlet_lab.proofs.verdict.world_in.Goals as goal

pub unreachable-requires : goal.unreachable-requires
unreachable-requires g c =
    let core = core_in c.args.engine.now.store.history in
    let text : c.deref-2.result.now ≡ 1 ∷ c.in_ok-image.image.items = search rules in
    let is : seen c.in_ok-world.field-0 ≡ Found (present core) (event_count core + 0) (core.generation + 1) =
    c.in_ok-world.ensures ∙ ap (λ bytes. recovered (files bytes [])) text ∙ image_recovers core c.in_ok-image.image.items c.facts.ensures.sound c.requires.newest c.in_ok-image.ensures.ok c.in_ok-image.ensures.within in
    seen_found c.in_ok-world.field-0 (present core) (event_count core + 0) (core.generation + 1) is c.in_default.not-Found

pub returns-clause-is : goal.returns-clause-is
returns-clause-is g c =
    let core = core_in c.args.engine.now.store.history in
    let text : c.deref-2.result.now ≡ 1 ∷ c.in_ok-image.image.items = search rules in
    let is : Found c.in-Found.world c.in-Found.events c.in-Found.generation ≡ Found (present core) (event_count core + 0) (core.generation + 1) =
    sym (ap seen c.in-Found.is) ∙ c.in_ok-world.ensures ∙ ap (λ bytes. recovered (files bytes [])) text
    ∙ image_recovers core c.in_ok-image.image.items c.facts.ensures.sound c.requires.newest c.in_ok-image.ensures.ok c.in_ok-image.ensures.within in
    cc

pub returns-clause-fit : goal.returns-clause-fit
returns-clause-fit g c =
    let core = core_in c.args.engine.now.store.history in
    let text : c.deref-2.result.now ≡ 1 ∷ c.in_ok-image.image.items = search rules in
    let is : Found c.in-Found.world c.in-Found.events c.in-Found.generation ≡ Found (present core) (event_count core + 0) (core.generation + 1) =
    sym (ap seen c.in-Found.is) ∙ c.in_ok-world.ensures ∙ ap (λ bytes. recovered (files bytes [])) text
    ∙ image_recovers core c.in_ok-image.image.items c.facts.ensures.sound c.requires.newest c.in_ok-image.ensures.ok c.in_ok-image.ensures.within in
    let same : c.in-Found.world ≡ present core = cc in
    subst IsFit (sym same) (sound_fit core c.facts.ensures.sound)
