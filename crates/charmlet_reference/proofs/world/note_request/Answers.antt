use Rattle.std.proofs.Common.{◌≡◌, refl, sym, ap, subst, ◌∙◌}
use Rattle.std.specs.Prelude.{Some, IsSome, unwrap_or}
use Rattle.std.specs.Option.{option_copied_mut}
use Rattle.std.specs.Ordering.{nat_cmp}
use Rattle.std.specs.Cmp.{nat_cmp_total}
use Rattle.std.specs.Map.{lookup}
use Rattle.std.specs.BTreeMap.{insert_entry, is_at}
use Rattle.std.proofs.lemmas.Map.Lookups.{exact_unsigned}
use Rattle.charmlet_model.specs.Row.{no_client, with_request}
use Rattle.charmlet_model.proofs.Entries.{set_is_insert}
use Rattle.charmlet_reference.proofs.world.note_request.Goals as goal

pub returns-in-Some-clause-ok : goal.returns-in-Some-clause-ok
returns-in-Some-clause-ok c =
    let es = c.args.clients.now.entries in
    let here : lookup (is_at (nat_cmp c.args.client)) es ≡ Some c.in-Some.row.now = sym c.get_mut.ensures.value ∙ ap option_copied_mut c.in-Some.is in
    let w = c.accept.new.self in
    (c.get_mut.follows.holds w).0
    ∙ set_is_insert nat_cmp nat_cmp_total exact_unsigned c.args.client w es c.get_mut.ensures.ordered (subst IsSome (sym here) refl)
    ∙ ap (insert_entry nat_cmp es c.args.client) (c.accept.ensures ∙ ap (λ o. with_request (unwrap_or o no_client) c.args.number) (sym here))
