use Rattle.std.proofs.Common.{◌≡◌, ap, ◌∙◌}
use Rattle.charmlet_model.specs.Core.{Release, next_core}
use Rattle.charmlet_history.specs.Kept.{core_in}
use Rattle.charmlet_delivery.specs.Workplace.{workplace_of}
use Rattle.charmlet_delivery.proofs.Turning.{released_idle, turned_released}
use Rattle.charmlet_delivery.proofs.parts.release.Goals as goal

pub returns-clause-turns : goal.returns-clause-turns
returns-clause-turns g c =
    let old = workplace_of c.args.history.now c.args.shelf.now c.args.stock.now in
    let new = workplace_of c.release.new.self c.release_shelf.new.shelf c.release_shelf.new.stock in
    let core = core_in old.history in
    let done = c.release_shelf.ensures in
    let released : core_in new.history ≡ next_core core (Release old.shelf.number) = c.release.ensures.released ∙ ap (λ p. next_core core (Release p)) c.number.ensures in
    turned_released old new c.requires.consistent done.held done.supplied done.keeping c.facts.ensures.sound released
    (done.shelf ∙ ap (λ phase. record old.shelf { phase = phase }) (released_idle old.shelf.phase c.requires.assigned))
