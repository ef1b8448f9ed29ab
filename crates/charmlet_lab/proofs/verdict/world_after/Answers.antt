use Rattle.std.proofs.Common.{◌≡◌, ◌+◌, [], ◌∷◌, ◌++◌, arith, take, take_all, sym, ap, subst, ◌∙◌, true}
use Rattle.std.proofs.lemmas.List.{take_more}
use Rattle.charmlet_model.specs.Fit.{IsFit}
use Rattle.charmlet_model.specs.Sound.{new_world}
use Rattle.charmlet_model.specs.World.{World, after, can, world}
use Rattle.charmlet_model.proofs.Fits.{fit-world}
use Rattle.charmlet_model.proofs.Histories.{world-append}
use Rattle.charmlet_record.specs.Reading.{Kinds}
use Rattle.charmlet_lab.specs.Rounds.{arrays_of}
use Rattle.charmlet_lab.proofs.Folded.{can_next}
use Rattle.charmlet_lab.proofs.Rounds.{same_arrays}
use Rattle.charmlet_lab.proofs.verdict.world_after.Goals as goal

pub loop-event-preserved : goal.loop-event-preserved
loop-event-preserved c =
    let w = new_world (arrays_of c.args.script.now) in
    let events = c.args.events.now in
    let i = c.loop-event.event-index in
    let e = c.event-item.result in
    let more : take (i + 1) events ≡ take i events ++ e ∷ [] = take_more events i e c.loop-event-test.true ∙ ap (λ x. take i events ++ x ∷ []) (sym c.event-item.is) in
    let able = can_next w events i e c.requires.each_can more in
    c.in_ok-after.ensures.after (subst (λ (plain : World). can plain e ≡ true) (sym c.loop-event.invariant) able)
    ∙ ap (λ (plain : World). after plain e) c.loop-event.invariant ∙ sym (world-append w (take i events) (e ∷ [])) ∙ ap (world w) (sym more)

pub returns-clause-fit : goal.returns-clause-fit
returns-clause-fit c =
    let kinds = c.in_ok-manifest.manifest in
    let whole : c.loop-event.plain ≡ world (new_world (arrays_of c.args.script.now)) c.args.events.now = c.loop-event.invariant ∙ ap (world (new_world (arrays_of c.args.script.now))) (take_all c.loop-event.event-index c.args.events.now (omega (arith, c.loop-event-test.false))) in
    let fit = subst (λ (k : Kinds). IsFit (new_world k)) (sym (same_arrays c.args.script.now kinds c.in_ok-manifest.ensures.manifest)) c.facts.ensures in
    subst IsFit (sym whole) (fit-world (new_world (arrays_of c.args.script.now)) c.args.events.now fit c.requires.events c.requires.each_can)
