use Rattle.std.proofs.Common.{◌≡◌, ℕ, ap, ◌∙◌, subst, replicate}
use Rattle.std.specs.Prelude.{true}
use Rattle.charmlet_world.specs.Client.Client.{Rows, durable_row}
use Rattle.charmlet_world.proofs.ClientLemmas.RowsLemmas.{rows, rows-flushed}
use Rattle.charmlet_world.proofs.client.client.Client.flush.Goals as goal

pub returns : goal.returns
returns c =
    let own = c.self.inside in
    let present = own.present in
    let durable = c.mark_durable.new.durable.items in
    subst (λ (r : Rows). rows present (durable_row present present.last c.clear.new.self durable) ≡ rows r.present r.present)
    c.self.view_is
    (rows-flushed present c.clear.new.self durable c.clear.ensures (c.mark_durable.ensures ∙ ap (λ (n : ℕ). replicate n true) c.len.ensures.count))
