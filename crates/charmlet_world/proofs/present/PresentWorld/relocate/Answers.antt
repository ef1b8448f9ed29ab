use Rattle.std.proofs.Common.{sym, ap, subst, ◌∙◌}
use Rattle.charmlet_world.specs.Changed.{relocated}
use Rattle.charmlet_world.specs.Seen.{Held, Seen, Shows, seen}
use Rattle.charmlet_world.proofs.Showing.{relocated_shows}
use Rattle.charmlet_world.proofs.present.PresentWorld.relocate.Goals as goal

pub returns-clause-seen : goal.returns-clause-seen
returns-clause-seen c =
    let own = c.self.inside in
    (λ i. record { manifest = own.manifest; processors = c.in_ok-relocate.ensures.processors i; elements = c.in_ok-relocate.ensures.risen i; pending = c.in_ok-relocate.ensures.pending i; clients = own.clients.entries })
    ∙ ap (λ (h : Held). relocated (seen h) c.args.elem c.args.processor) c.self.view_is

pub returns-clause-world : goal.returns-clause-world
returns-clause-world c = λ w shows.
    subst (λ (k : Seen). Shows k w) (sym (returns-clause-seen c)) (relocated_shows (seen c.args.self.now) w shows c.args.elem c.args.processor c.requires.there)
