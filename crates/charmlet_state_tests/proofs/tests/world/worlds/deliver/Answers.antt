use Rattle.std.proofs.Common.{◌≡◌, Bool, true, false, not, refl, arith, sym, ap, subst, ◌∙◌}
use Rattle.std.specs.Prelude.{Option, None, Some, IfSome, is_none, is_some, option_and_then}
use Rattle.charmlet_model.specs.declared.state.State.{State}
use Rattle.charmlet_model.specs.declared.event.Event.TheVariants.{Deliver}
use Rattle.charmlet_model.specs.Fit.{IsFit}
use Rattle.charmlet_model.specs.World.{World, can, message_among, reaction_of}
use Rattle.charmlet_model.proofs.Fits.{fit-after}
use Rattle.charmlet_chare.specs.declared.output.Output.{Output}
use Rattle.charmlet_world.specs.Changed.{IsOutputOf, Suits}
use Rattle.charmlet_world.specs.Seen.{IsSlot, Shows, seen}
use Rattle.charmlet_world.proofs.Suiting.{deliveries_suit}
use Rattle.charmlet_state_tests.proofs.tests.world.worlds.deliver.Goals as goal

-- a state that isn't there
gone : (o : Option State) (b : Bool) → is_some o ≡ not b → b ≡ is_none o
gone None true h = refl
gone None false h = absurd (let no : ⊥ = cc in no)
gone (Some s) true h = absurd (let no : ⊥ = cc in no)
gone (Some s) false h = refl

pub commit-requires-clause-suits : goal.commit-requires-clause-suits
commit-requires-clause-suits c =
    let w = c.args.plain.now in
    let id = c.args.id in
    let m = c.in-Some.message.now in
    let r = c.in-Some-2.reaction in
    let output : Output = record { sends = r.sends; reply = r.reply; is_destroyed = c.is_none.result } in
    let can_be : can w (Deliver id) ≡ true = sym c.can.ensures ∙ c.if-not-can.false in
    let reacts = ap (option_and_then (reaction_of w)) (sym c.in-Some.ensures) ∙ sym c.in_ok-reaction.ensures ∙ c.in-Some-2.is in
    let outcome : IsOutputOf w id output = (r, reacts, λ i. record { sends = r.sends; reply = r.reply; is_destroyed = gone r.state c.is_none.result c.is_none.ensures i }) in
    let is : message_among id c.args.world.now.pending ≡ Some m = ap (message_among id) c.requires.shows.pending ∙ sym c.in-Some.ensures in
    let still : message_among id c.assign.new.self.pending ≡ Some m = ap (message_among id) c.in_ok-slot.ensures.pending ∙ is in
    let at : IsSlot c.assign.new.self.rows c.in_ok-slot.slot m.to = subst (λ o. IfSome o (λ m. IsSlot c.assign.new.self.rows c.in_ok-slot.slot m.to)) is c.in_ok-slot.ensures.slot in
    subst (λ o. IfSome o (Suits c.assign.new.self c.in_ok-slot.slot output)) (sym still)
    (deliveries_suit c.assign.new.self w id m c.in_ok-slot.slot output (c.in_ok-slot.ensures.world w c.requires.shows) c.requires.fit can_be still at outcome)

pub returns : goal.returns
returns c =
    let w = c.args.plain.now in
    let id = c.args.id in
    let r = c.in-Some-2.reaction in
    let output : Output = record { sends = r.sends; reply = r.reply; is_destroyed = c.is_none.result } in
    let can_be : can w (Deliver id) ≡ true = sym c.can.ensures ∙ c.if-not-can.false in
    let reacts = ap (option_and_then (reaction_of w)) (sym c.in-Some.ensures) ∙ sym c.in_ok-reaction.ensures ∙ c.in-Some-2.is in
    let outcome : IsOutputOf w id output = (r, reacts, λ i. record { sends = r.sends; reply = r.reply; is_destroyed = gone r.state c.is_none.result c.is_none.ensures i }) in
    let next = c.in_ok-after.ensures.after can_be in
    let promised = c.in_ok-slot.ensures.promised in
    record {
      shows = subst (λ (v : World). Shows (seen c.commit.new.self) v) (sym next) (c.commit.ensures.world w (c.in_ok-slot.ensures.world w c.requires.shows) outcome);
      fit = subst IsFit (sym next) (fit-after w (Deliver id) c.requires.fit tt can_be);
      none = omega (arith, c.commit.ensures.promised, promised, c.requires.none);
    }
