use Rattle.std.proofs.Common.{◌≡◌, ℕ, List, true, sym, ap, subst, ◌∙◌, nat_eq, arith}
use Rattle.std.specs.Prelude.{None}
use Rattle.std.specs.Map.{lookup}
use Rattle.charmlet_model.specs.declared.names.Origin.{Origin}
use Rattle.charmlet_model.specs.Row.{awaits, no_client}
use Rattle.charmlet_model.proofs.Windows.{awaited-parts, inside-parts}
use Rattle.charmlet_world.specs.Client.Client.{Rows}
use Rattle.charmlet_world.specs.Seen.{client_at, new_client}
use Rattle.charmlet_world.specs.Changed.{IsAwaited}
use Rattle.charmlet_log_scan.proofs.WorldLemmas.RisenClients.{made_none}
use Rattle.charmlet_log_scan.proofs.world.rows.ClientRows.keep_reply.Goals as goal

pub unreachable-requires : goal.unreachable-requires
unreachable-requires c =
    let es = c.self.inside.rows.entries in
    let k = c.in-Client.client in
    let none : lookup (nat_eq k) es ≡ None = c.place_of.ensures.nowhere c.in_default-place_of.is in
    let waits : awaits (client_at c.args.self.now k).present c.args.id.number ≡ true = subst (λ (o : Origin). IsAwaited c.args.self.now o c.args.id.number) c.in-Client.is c.requires in
    let own : client_at c.args.self.now k ≡ new_client = ap (λ (rows : List (ℕ × Rows)). client_at rows k) (sym c.self.view_is) ∙ made_none es k none in
    let empty : awaits no_client c.args.id.number ≡ true = ap (λ (r : Rows). awaits r.present c.args.id.number) (sym own) ∙ waits in
    let inside = inside-parts no_client c.args.id.number (awaited-parts no_client c.args.id.number empty).0 in
    omega arith
