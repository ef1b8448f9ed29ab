use Rattle.std.proofs.Common.{◌++◌, ◌∷◌, [], sym, ap, subst, ◌∙◌}
use Rattle.charmlet_model.specs.World.{after, request}
use Rattle.charmlet_model.specs.declared.event.Event.TheVariants.{Accept}
use Rattle.charmlet_world.specs.Changed.{accepted}
use Rattle.charmlet_world.specs.Seen.{Held, Seen, Shows, seen}
use Rattle.charmlet_world.specs.Standing.{risen}
use Rattle.charmlet_world.specs.Tied.{Scheduled}
use Rattle.charmlet_world.proofs.Showing.{accepted_shows}
use Rattle.charmlet_world.proofs.present.PresentWorld.accept.Goals as goal

pub returns-clause-ok : goal.returns-clause-ok
returns-clause-ok c =
    let own = c.self.inside in
    let processors = ap (λ (d : Scheduled). d.processors) c.hint_head.ensures ∙ c.push.ensures.processors ∙ c.in_ok-reserve.ensures.processors in
    let rows = ap (λ (d : Scheduled). risen d.rows) c.hint_head.ensures ∙ ap risen c.push.ensures.rows ∙ ap risen c.in_ok-reserve.ensures.rows in
    let pending = ap (λ (d : Scheduled). d.pending) c.hint_head.ensures ∙ c.push.ensures.pending ∙ ap (λ ms. ms ++ request c.args.client c.args.number c.args.to c.args.entry c.args.words ∷ []) c.in_ok-reserve.ensures.pending in
    (λ i. record { manifest = own.manifest; processors = processors i; elements = rows i; pending = pending i; clients = c.in_ok-note_request.ensures.ok i })
    ∙ ap (λ (h : Held). accepted (seen h) c.args.client c.args.number c.args.to c.args.entry c.args.words) c.self.view_is

pub returns-clause-world : goal.returns-clause-world
returns-clause-world c = λ w shows.
    subst (λ (k : Seen). Shows k (after w (Accept c.args.client c.args.number c.args.to c.args.entry c.args.words))) (sym (returns-clause-ok c))
    (accepted_shows (seen c.args.self.now) w shows c.args.client c.args.number c.args.to c.args.entry c.args.words)
