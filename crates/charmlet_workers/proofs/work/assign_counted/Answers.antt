use Rattle.std.proofs.Common.{◌≡◌, ◌<◌, None, Some, rules, sym, ap, subst}
use Rattle.charmlet_model.specs.Core.{Core, assigned_to}
use Rattle.charmlet_history.specs.Kept.{oldest_on_in}
use Rattle.charmlet_migrate.specs.Moving.{IsIdle}
use Rattle.charmlet_shelf.specs.Shelf.{View}
use Rattle.charmlet_hub.specs.Hub.{HubShown, store_in}
use Rattle.charmlet_workers.proofs.Refusals.{none_assigned, oldest_refused}
use Rattle.charmlet_workers.proofs.work.assign_counted.Goals as goal

pub returns-clause-refused : goal.returns-clause-refused
returns-clause-refused g c = λ idle.
    let hub = c.args.hub.now in
    let processor = c.args.locked.now.number in
    let core : c.assign.new.self.core ≡ hub.core = ap (λ (h : HubShown _). h.core) c.in-Err.ensures.err.0 in
    let shelf : c.assign.new.locked ≡ c.args.locked.now = c.in-Err.ensures.err.1 in
    let none : assigned_to hub.core processor ≡ None =
    subst (λ (x : Core × View). assigned_to x.0 x.1.number ≡ None) (λ i. (core i, shelf i))
    (none_assigned c.assign.new.self.core c.assign.new.locked (subst IsIdle (sym shelf) idle) c.agree.ensures.due) in
    let within : processor < hub.core.processors = subst (λ (x : Core × View). x.1.number < x.0.processors) (λ i. (core i, shelf i)) c.agree.ensures.on in
    let oldest : oldest_on_in hub.core processor ≡ Some c.in-Some.id = search rules in
    oldest_refused hub (store_in c.assign.new.self) processor c.in-Some.id c.in-Err.refusal c.facts.ensures.sound within none oldest c.in-Err.ensures.goes
