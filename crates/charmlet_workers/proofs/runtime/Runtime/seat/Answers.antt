use Rattle.std.proofs.Common.{◌≡◌, ◌<◌, ◌≤◌, true, arith, sym, ap, ◌∙◌}
use Rattle.std.proofs.lemmas.Bool.Decides.{nat_tests}
use Rattle.charmlet_model.specs.Core.{is_processor}
use Rattle.charmlet_hub.specs.Hub.{HubShown}
use Rattle.charmlet_workers.specs.Runtime.{RuntimeShown}
use Rattle.charmlet_workers.proofs.Refusals.{seat_bad, seat_refused, seat_there}
use Rattle.charmlet_workers.proofs.runtime.Runtime.seat.Goals as goal

pub returns-clause-is_there : goal.returns-clause-is_there
returns-clause-is_there g c =
    let hub = c.deref_mut.result.now in
    let count : hub.core.processors ≡ g.B.RuntimeName.processors = ap (λ (h : HubShown _). h.core.processors) (c.deref_mut.ensures.value ∙ sym c.deref.ensures) ∙ c.facts.ensures.of.processors_are in
    let own : g.B.RuntimeName.processors ≡ c.args.self.now.processors = ap (λ (v : RuntimeShown). v.processors) c.self.view_is in
    seat_there (is_processor hub.core c.args.processor ≡ true) (c.args.processor < c.args.self.now.processors) c.lend_seat.result (λ within. grind (arith, nat_tests)) c.lend_seat.ensures.is_there

pub returns-clause-bad : goal.returns-clause-bad
returns-clause-bad g c =
    let hub = c.deref_mut.result.now in
    let count : hub.core.processors ≡ g.B.RuntimeName.processors = ap (λ (h : HubShown _). h.core.processors) (c.deref_mut.ensures.value ∙ sym c.deref.ensures) ∙ c.facts.ensures.of.processors_are in
    let own : g.B.RuntimeName.processors ≡ c.args.self.now.processors = ap (λ (v : RuntimeShown). v.processors) c.self.view_is in
    seat_bad (is_processor hub.core c.args.processor) _ c.lend_seat.result (c.args.self.now.processors ≤ c.args.processor) (λ beyond. grind (arith, nat_tests)) c.lend_seat.ensures.is_there c.lend_seat.ensures.err

pub returns-clause-err : goal.returns-clause-err
returns-clause-err g c =
    let hub = c.deref_mut.result.now in
    let count : hub.core.processors ≡ g.B.RuntimeName.processors = ap (λ (h : HubShown _). h.core.processors) (c.deref_mut.ensures.value ∙ sym c.deref.ensures) ∙ c.facts.ensures.of.processors_are in
    let own : g.B.RuntimeName.processors ≡ c.args.self.now.processors = ap (λ (v : RuntimeShown). v.processors) c.self.view_is in
    seat_refused (is_processor hub.core c.args.processor) _ c.lend_seat.result (c.args.processor < c.args.self.now.processors) (λ within. grind (arith, nat_tests)) c.lend_seat.ensures.err
