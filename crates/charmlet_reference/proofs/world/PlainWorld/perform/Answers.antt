use Rattle.std.proofs.Common.{◌≡◌, List, ◌++◌, sym, ap, ◌∙◌, rules}
use Rattle.std.specs.List.{remove}
use Rattle.std.specs.BTreeMap.{insert_entry}
use Rattle.charmlet_model.specs.declared.message.Message.{Message}
use Rattle.charmlet_model.specs.Names.{elem_cmp}
use Rattle.charmlet_model.specs.World.{World, advanced, answered, numbered, record_of}
use Rattle.charmlet_reference.proofs.world.PlainWorld.perform.Goals as goal

pub returns-clause-ok : goal.returns-clause-ok
returns-clause-ok c =
    let w : World = c.args.self.now in
    let o = c.args.reaction in
    let view = c.self.view_is in
    let manifest = ap (λ (v : World). v.manifest) view in
    let records : c.keep.new.records.entries ≡ insert_entry elem_cmp w.records c.args.to (advanced (record_of w c.args.to) o) = search rules in
    let seq_nos : c.in_ok-seq_nos.seq_nos.items ≡ numbered c.args.to (record_of w c.args.to).sent o.sends = search rules in
    let others = c.remove.ensures.items
    ∙ ap (λ (ms : List Message). remove ms c.args.place) (c.reserve.ensures.items ∙ ap (λ (v : World). v.pending) view)
    ∙ sym c.requires.place in
    let pending = c.in-Ok.ensures.items ∙ (λ i. others i ++ seq_nos i) in
    let clients = c.in_ok-keep.ensures.clients ∙ ap (λ (v : World). answered v.clients c.args.id.origin c.args.id.number o.reply) view in
    λ i. record { manifest = manifest i; records = records i; pending = pending i; clients = clients i }
