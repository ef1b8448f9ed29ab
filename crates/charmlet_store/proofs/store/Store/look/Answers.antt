use Rattle.std.proofs.Common.{ap, ◌∙◌}
use Rattle.charmlet_model.specs.World.{record_of}
use Rattle.charmlet_migrate.specs.element.Element.{Element}
use Rattle.charmlet_store.specs.Store.{StoreShown, world_in}
use Rattle.charmlet_store.proofs.store.Store.look.Goals as goal

pub returns-clause-ok : goal.returns-clause-ok
returns-clause-ok g c =
    let x = c.args.elem in
    let counts = c.facts.ensures.counts x in
    record {
      standing = c.in_ok-standing.ensures.ok;
      sent = ap (λ (e : Element). e.sent) c.element-counts.ensures ∙ counts.sent ∙ ap (λ (s : StoreShown). (record_of (world_in s) x).sent) c.self.view_is;
      received = ap (λ (e : Element). e.received) c.element-counts.ensures ∙ counts.received ∙ ap (λ (s : StoreShown). (record_of (world_in s) x).received) c.self.view_is;
    }
