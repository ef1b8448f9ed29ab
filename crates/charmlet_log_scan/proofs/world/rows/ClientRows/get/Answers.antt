use Rattle.std.proofs.Common.{◌≡◌, sym, ap, ◌∙◌, slice_get, nat_eq, option_copied}
use Rattle.std.specs.Prelude.{None, Some}
use Rattle.std.specs.BTreeMap.{is_at}
use Rattle.std.specs.Map.{lookup}
use Rattle.std.specs.Ordering.{nat_cmp}
use Rattle.charmlet_log_scan.proofs.WorldLemmas.RisenClients.{client_there, found_risen}
use Rattle.charmlet_log_scan.proofs.world.rows.ClientRows.get.Goals as goal

pub returns-in_err-place : goal.returns-in_err-place
returns-in_err-place c =
    let es = c.self.inside.rows.entries in
    let k = c.args.client in
    let none : lookup (nat_eq k) es ≡ None = c.place_of.ensures.nowhere c.in_err-place.was in
    ap option_copied c.from_residual.ensures ∙ sym none ∙ sym (found_risen k es) ∙ ap (lookup (is_at (nat_cmp k))) c.self.view_is

pub returns : goal.returns
returns c =
    let es = c.self.inside.rows.entries in
    let k = c.args.client in
    let at : slice_get es c.in_ok-place.place ≡ Some (c.in_ok-_client._client.now, c.in_ok-_client.row.now) = sym c.in_ok-_client.ensures.entry in
    let key = client_there es c.in_ok-place.place k c.in_ok-_client._client.now c.in_ok-_client.row.now c.in_ok-place.ensures.found at in
    sym c.in_ok-_client.ensures.value ∙ ap (λ x. lookup (nat_eq x) es) key ∙ sym (found_risen k es) ∙ ap (lookup (is_at (nat_cmp k))) c.self.view_is
