use Rattle.std.proofs.Common.{◌≡◌, ap, subst, ◌∙◌}
use Rattle.std.specs.Prelude.{IfSome}
use Rattle.charmlet_model.specs.Core.{Commit, next_core}
use Rattle.charmlet_history.specs.Kept.{core_in}
use Rattle.charmlet_shelf.specs.Shelf.{settled}
use Rattle.charmlet_delivery.specs.UnderWay.{IsUnderWay, due_in}
use Rattle.charmlet_delivery.specs.Workplace.{workplace_of}
use Rattle.charmlet_delivery.proofs.Turning.{made_in, turned_committed}
use Rattle.charmlet_delivery.proofs.parts.finish.Goals as goal

pub returns-clause-turns : goal.returns-clause-turns
returns-clause-turns g c =
    let old = workplace_of c.args.history.now c.args.shelf.now c.args.stock.now in
    let new = workplace_of c.finish.new.self c.settle_shelf.new.shelf c.settle_shelf.new.stock in
    let core = core_in old.history in
    let on = old.shelf.number in
    let its = made_in old.shelf.phase c.args.output c.requires.made in
    let under_way : IsUnderWay core on its.0.due = subst (λ phase. IfSome (due_in phase) (IsUnderWay core on)) its.1 c.requires.consistent.due in
    let done = c.settle_shelf.ensures in
    let committed : core_in new.history ≡ next_core core (Commit on) = c.finish.ensures ∙ ap (λ p. next_core core (Commit p)) c.number.ensures in
    turned_committed old new c.requires.consistent done.held done.supplied done.keeping c.facts.ensures its.0.due under_way committed
    (done.shelf ∙ ap (λ phase. settled (record old.shelf { phase = phase })) its.1)
