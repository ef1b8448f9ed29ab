use Rattle.std.proofs.Common.{◌≡◌, true, refl, sym, ap, subst, ◌∙◌, arith}
use Rattle.std.specs.Prelude.{Some, None, IsSome, unwrap_or}
use Rattle.std.specs.Option.{option_copied_mut}
use Rattle.std.specs.Ordering.{nat_cmp}
use Rattle.std.specs.Cmp.{nat_cmp_total}
use Rattle.std.specs.Map.{lookup}
use Rattle.std.specs.BTreeMap.{insert_entry, is_at}
use Rattle.std.proofs.lemmas.Map.Lookups.{exact_unsigned}
use Rattle.charmlet_model.specs.declared.names.Origin.{Origin}
use Rattle.charmlet_model.specs.Row.{awaits, no_client, with_reply}
use Rattle.charmlet_model.proofs.Windows.{awaited-parts, inside-parts}
use Rattle.charmlet_world.specs.Client.Client.{with_present}
use Rattle.charmlet_world.specs.Seen.{client_at, new_client}
use Rattle.charmlet_world.specs.Changed.{IsAwaited, with_answer}
use Rattle.charmlet_model.proofs.Entries.{set_is_insert}
use Rattle.charmlet_world.proofs.clients.keep_reply.Goals as goal

pub unreachable-requires : goal.unreachable-requires
unreachable-requires c =
    let es = c.args.clients.now.entries in
    let k = c.in-Client.client in
    let none : lookup (is_at (nat_cmp k)) es ≡ None = sym c.get_mut.ensures.value ∙ ap option_copied_mut c.in_default-get_mut.is in
    let waits : awaits (client_at es k).present c.args.id.number ≡ true = subst (λ (o : Origin). IsAwaited es o c.args.id.number) c.in-Client.is c.requires in
    let empty : awaits no_client c.args.id.number ≡ true = ap (λ o. awaits (unwrap_or o new_client).present c.args.id.number) (sym none) ∙ waits in
    let inside = inside-parts no_client c.args.id.number (awaited-parts no_client c.args.id.number empty).0 in
    omega arith

pub answer-requires : goal.answer-requires
answer-requires c =
    let es = c.args.clients.now.entries in
    let k = c.in-Client.client in
    let here : lookup (is_at (nat_cmp k)) es ≡ Some c.in-Some.row.now = sym c.get_mut.ensures.value ∙ ap option_copied_mut c.in-Some.is in
    let waits : awaits (client_at es k).present c.args.id.number ≡ true = subst (λ (o : Origin). IsAwaited es o c.args.id.number) c.in-Client.is c.requires in
    ap (λ o. awaits (unwrap_or o new_client).present c.args.id.number) (sym here) ∙ waits

pub returns : goal.returns
returns c =
    let es = c.args.clients.now.entries in
    let k = c.in-Client.client in
    let here : lookup (is_at (nat_cmp k)) es ≡ Some c.in-Some.row.now = sym c.get_mut.ensures.value ∙ ap option_copied_mut c.in-Some.is in
    let w = c.answer.new.self in
    (c.get_mut.follows.holds w).0
    ∙ set_is_insert nat_cmp nat_cmp_total exact_unsigned k w es c.get_mut.ensures.ordered (subst IsSome (sym here) refl)
    ∙ ap (insert_entry nat_cmp es k) (c.answer.ensures ∙ ap (λ o. with_present (unwrap_or o new_client) (with_reply (unwrap_or o new_client).present c.args.id.number c.args.reply)) (sym here))
    ∙ ap (λ origin. with_answer es origin c.args.id.number c.args.reply) (sym c.in-Client.is)
