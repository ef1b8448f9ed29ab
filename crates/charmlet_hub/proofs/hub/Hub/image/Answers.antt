use Rattle.std.proofs.Common.{◌≡◌, ◌∙◌, Some, ap, sym, subst}
use Rattle.std.specs.Prelude.{IfSome, is_some, slice_get, slice_set}
use Rattle.std.specs.List.{All}
use Rattle.charmlet_model.specs.Core.{Core, present}
use Rattle.charmlet_history.specs.Kept.{core_in}
use Rattle.charmlet_stock.proofs.Results.{when_ok}
use Rattle.charmlet_persist.specs.FuzzyCheckpoint.Checkpoint.{IsRunning, IsShownBy}
use Rattle.charmlet_sequencer.specs.Sequencer.{SequencerShown}
use Rattle.charmlet_hub.specs.Checkpoint.{IsCheckpointed, Token, with_images_if}
use Rattle.charmlet_hub.specs.Hub.{IsHub, shown_by}
use Rattle.charmlet_hub.proofs.Hubs.{rebusied}
use Rattle.charmlet_hub.proofs.Checkpoints.{image_keeps, images_shown, with_shelf}
use Rattle.charmlet_hub.proofs.hub.Hub.image.Goals as goal

pub take_images-requires-clause-shown : goal.take_images-requires-clause-shown
take_images-requires-clause-shown g c =
    let h = c.self.inside in
    let locked = c.args.locked.now in
    let core : core_in c.history.result.now ≡ h.sequencer.core = c.history.ensures ∙ ap (λ (s : SequencerShown _). s.core) c.agree.ensures.sequencer in
    subst (λ (k : Core). All (IsShownBy (present k)) c.args.images.items) (sym core)
    (images_shown h.sequencer.core c.facts.ensures.sound locked.number locked.records c.args.images.items c.agree.ensures.shows c.requires.images)

pub invariant_of-self-2 : goal.invariant_of-self-2
invariant_of-self-2 g c =
    let h = c.self.inside in
    let locked = c.args.locked.now in
    let images = c.args.images.items in
    let fragment = c.checkpoint.inside.fragment in
    let token : Token = record { begun = c.checkpoint.inside.begun; shelves = c.checkpoint.inside.shelves } in
    let more = c.take_images.new.running in
    let core : core_in c.history.result.now ≡ h.sequencer.core = c.history.ensures ∙ ap (λ (s : SequencerShown _). s.core) c.agree.ensures.sequencer in
    let here : slice_get h.tokens fragment.0 ≡ Some (Some token) = c.agree-2.ensures.agrees ∙ ap Some c.checkpoint.invariant in
    let taken : more ≡ with_images_if h.running images = when_ok (more ≡ with_images_if h.running images) c.take_images.result (sym c.is_err.ensures.value ∙ c.if-is_err.false) c.take_images.ensures.ok in
    let running = subst (λ (k : Core). IfSome more (IsRunning k)) core c.take_images.ensures.running in
    let written : c.change.new.self ≡ slice_set h.tokens fragment.0 (Some (with_shelf token)) = c.change.ensures.authority ∙ (λ i. slice_set (c.agree-2.ensures.authority i) (c.agree-2.ensures.fragment i).0 (Some (with_shelf token))) in
    subst (λ (s : SequencerShown _). IsHub (shown_by s (is_some more) h.seats h.passes) × h.processors ≡ g.B.RuntimeName.processors × (g.B.RuntimeName.honest → g.D.Disk.honest s.disk) × IsCheckpointed s.core more c.change.new.self)
    (sym c.agree.ensures.sequencer) (
      rebusied h.sequencer (is_some h.running) (is_some more) h.seats h.passes c.self.invariant.0,
      c.self.invariant.1,
      c.self.invariant.2,
      image_keeps h.sequencer.core c.facts.ensures.sound h.running more h.tokens c.change.new.self fragment.0 token locked.number locked.records images c.self.invariant.3 here (c.requires.next ∙ ap (λ (t : Token). t.shelves) (sym c.checkpoint.view_is))
          c.agree.ensures.shows c.requires.images taken running written,
    )
