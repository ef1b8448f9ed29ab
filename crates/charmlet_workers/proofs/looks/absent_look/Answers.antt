use Rattle.std.proofs.Common.{◌≡◌, None, ap, ◌∙◌, rules}
use Rattle.charmlet_model.specs.Core.{place_of}
use Rattle.charmlet_migrate.specs.element.Element.{Element}
use Rattle.charmlet_history.specs.Kept.{core_in}
use Rattle.charmlet_workers.proofs.LooksLemmas.{absent_seen}
use Rattle.charmlet_workers.proofs.looks.absent_look.Goals as goal

pub returns-clause-look : goal.returns-clause-look
returns-clause-look c =
    let x = c.args.elem in
    let none : place_of (core_in c.args.history.now) x ≡ None = search rules in
    absent_seen (core_in c.args.history.now) x c.element-counts.result.sent c.element-counts.result.received c.facts.ensures.sound none
    (ap (λ (e : Element). e.sent) c.element-counts.ensures ∙ (c.facts.ensures.counts x).sent) (ap (λ (e : Element). e.received) c.element-counts.ensures ∙ (c.facts.ensures.counts x).received)
