use Rattle.std.proofs.Common.{◌≡◌, ◌∙◌, ℕ, false, Ok, Some, sym, subst}
use Rattle.std.specs.Prelude.{IfErr, IfOk, is_some}
use Rattle.charmlet_model.specs.Core.{Move, Refuses}
use Rattle.charmlet_model.specs.Run.{Goes, StoreView}
use Rattle.charmlet_sequencer.specs.Relocating.{IsAway, StaysOrLeaves}
use Rattle.charmlet_sequencer.specs.Sequencer.{store_of}
use Rattle.charmlet_hub.specs.Hub.{HubShown, store_in}
use Rattle.charmlet_hub.proofs.Busy.{idle_same}
use Rattle.charmlet_hub.proofs.hub.Hub.locate_for_move.Goals as goal

pub returns-clause-ok : goal.returns-clause-ok
returns-clause-ok g c =
    let h = c.self.inside in
    let none : is_some h.running ≡ false = sym c.is_some.ensures ∙ c.if-is_some.false in
    subst (λ (v : HubShown _). IfOk c.locate_for_move.result (λ source. StaysOrLeaves (store_in v) c.args.elem c.args.processor source)) c.self.view_is
    (subst (λ (s : StoreView). IfOk c.locate_for_move.result (λ source. StaysOrLeaves s c.args.elem c.args.processor source)) (idle_same (is_some h.running) (store_of h.sequencer) none c.facts.ensures.idle) c.locate_for_move.ensures.ok)

pub returns-clause-err : goal.returns-clause-err
returns-clause-err g c =
    let h = c.self.inside in
    let none : is_some h.running ≡ false = sym c.is_some.ensures ∙ c.if-is_some.false in
    subst (λ (v : HubShown _). IfErr c.locate_for_move.result (λ refusal. Goes (store_in v) (Move c.args.elem c.args.processor) (Refuses refusal) (store_in v))) c.self.view_is
    (subst (λ (s : StoreView). IfErr c.locate_for_move.result (λ refusal. Goes s (Move c.args.elem c.args.processor) (Refuses refusal) s)) (idle_same (is_some h.running) (store_of h.sequencer) none c.facts.ensures.idle) c.locate_for_move.ensures.err)

pub returns-clause-away : goal.returns-clause-away
returns-clause-away g c =
    subst (λ (v : HubShown _). (place : ℕ) → IsAway v.core c.args.elem place c.args.processor → v.core.halted ≡ false → v.busy ≡ false → c.locate_for_move.result ≡ Ok (Some place)) c.self.view_is
    (λ place away going _. c.locate_for_move.ensures.away place away going)
