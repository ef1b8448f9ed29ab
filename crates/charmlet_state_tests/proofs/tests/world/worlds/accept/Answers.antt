use Rattle.std.proofs.Common.{◌≡◌, true, rules, sym, ap, subst, ◌∙◌}
use Rattle.charmlet_model.specs.declared.event.Event.TheVariants.{Accept}
use Rattle.charmlet_model.specs.Fit.{IsFit}
use Rattle.charmlet_model.specs.World.{World, IsRequest, after, can}
use Rattle.charmlet_model.proofs.Fits.{fit-after}
use Rattle.charmlet_world.specs.Seen.{Shows, seen}
use Rattle.charmlet_world.proofs.Suiting.{requests_are_new}
use Rattle.charmlet_state_tests.proofs.tests.world.worlds.accept.Goals as goal

pub accept-requires : goal.accept-requires
accept-requires c =
    let r = c.args.request.now in
    let words = c.in_ok-from_slice.field-0 in
    let event : IsRequest r.client r.number r.to r.entry words = search rules in
    let can_be : can c.args.plain.now (Accept r.client r.number r.to r.entry words) ≡ true = sym c.can.ensures ∙ c.if-not-can.false in
    record { apart = requests_are_new (seen c.args.world.now) c.args.plain.now r.client r.number r.to r.entry words c.requires.shows c.requires.fit event can_be }

pub returns : goal.returns
returns c =
    let r = c.args.request.now in
    let w = c.args.plain.now in
    let words = c.in_ok-from_slice.field-0 in
    let event : IsRequest r.client r.number r.to r.entry words = search rules in
    let can_be : can w (Accept r.client r.number r.to r.entry words) ≡ true = sym c.can.ensures ∙ c.if-not-can.false in
    let same = c.in_ok-words.ensures.words ∙ sym c.in_ok-from_slice.ensures.words in
    let next = c.in_ok-after.ensures.after can_be in
    record {
      shows = subst (λ (v : World). Shows (seen c.accept.new.self) v) (ap (λ words. after w (Accept r.client r.number r.to r.entry words)) same ∙ sym next) (c.in_ok-accept.ensures.world w c.requires.shows);
      fit = subst IsFit (sym next) (fit-after w (Accept r.client r.number r.to r.entry words) c.requires.fit event can_be);
      none = c.in_ok-accept.ensures.promised ∙ c.requires.none;
    }
