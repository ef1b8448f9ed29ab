use Rattle.std.proofs.Common.{ℕ, ap, ◌∙◌, replicate}
use Rattle.std.specs.Prelude.{true}
use Rattle.charmlet_world.proofs.ClientLemmas.RowsLemmas.{rows-flushed}
use Rattle.charmlet_world.proofs.client.client.Client.of.Goals as goal

pub returns : goal.returns
returns c =
    rows-flushed c.args.row c.new.result c.mark_durable.new.durable.items c.new.ensures
    (c.mark_durable.ensures ∙ ap (λ (n : ℕ). replicate n true) c.len.ensures.count)
