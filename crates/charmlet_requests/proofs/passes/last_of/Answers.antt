use Rattle.std.proofs.Common.{Some, None, sym, ap, ◌∙◌}
use Rattle.std.specs.Option.{option_copied}
use Rattle.charmlet_model.specs.declared.client.ClientRow.{ClientRow}
use Rattle.charmlet_model.specs.World.{row_of}
use Rattle.charmlet_requests.proofs.Rows.{row_in}
use Rattle.charmlet_requests.proofs.passes.last_of.Goals as goal

pub returns-in-Some : goal.returns-in-Some
returns-in-Some c =
    let entries = c.clients.result.now.entries in
    let row = row_in entries c.args.client (Some c.in-Some.rows.now) (sym c.get.ensures.value ∙ ap option_copied c.in-Some.is) in
    ap (λ (r : ClientRow). r.last) (c.present.ensures ∙ sym row ∙ ap (λ clients. row_of clients c.args.client) c.clients.ensures)

pub returns-in-None : goal.returns-in-None
returns-in-None c =
    let entries = c.clients.result.now.entries in
    let row = row_in entries c.args.client None (sym c.get.ensures.value ∙ ap option_copied c.in-None.is) in
    ap (λ (r : ClientRow). r.last) (sym row ∙ ap (λ clients. row_of clients c.args.client) c.clients.ensures)
