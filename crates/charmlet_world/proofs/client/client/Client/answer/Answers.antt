use Rattle.std.proofs.Common.{◌≡◌, ℕ, ◌-◌, ap, subst, true}
use Rattle.charmlet_model.specs.Row.{awaits, with_reply}
use Rattle.charmlet_model.proofs.Windows.{awaited-parts}
use Rattle.charmlet_world.specs.Client.Client.{Rows, durable_row}
use Rattle.charmlet_world.proofs.ClientLemmas.RowsLemmas.{row, rows, rows-replied}
use Rattle.charmlet_world.proofs.client.client.Client.answer.Goals as goal

pub returns : goal.returns
returns c =
    let own = c.self.inside in
    let number = c.args.number in
    let present = row own.present.last c.set.new.self in
    subst (λ (r : Rows). awaits r.present number ≡ true → rows present (durable_row present own.durable_last own.dropped c.unmark.new.durable.items) ≡ rows (with_reply r.present number c.args.reply) r.durable)
    c.self.view_is
    (λ waits. rows-replied own.present own.durable_last own.dropped own.durable.items c.unmark.new.durable.items c.set.new.self number (number - c.below.result - 1) c.args.reply
    (ap (λ (b : ℕ). number - b - 1) c.below.ensures) (awaited-parts own.present number waits).1 c.set.ensures c.unmark.ensures)
    c.requires
