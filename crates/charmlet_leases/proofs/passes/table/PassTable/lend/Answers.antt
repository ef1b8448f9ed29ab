use Rattle.std.proofs.Common.{◌≡◌, ◌+◌, ℕ, List, [], ◌∷◌, ◌++◌, Option, Some, length, ap, sym, ◌∙◌, subst, false, rules}
use Rattle.std.specs.Ordering.{nat_cmp}
use Rattle.std.specs.BTreeSet.{insert_key}
use Rattle.charmlet_model.specs.Core.{present}
use Rattle.charmlet_model.specs.World.{client_of}
use Rattle.charmlet_history.specs.Kept.{core_in}
use Rattle.charmlet_requests.specs.Pass.{is_out}
use Rattle.charmlet_leases.specs.Passes.Passes.{HeldPass, AreCurrent, lent_since, passes_out}
use Rattle.charmlet_leases.proofs.PassesLemmas.Places.{count-lent}
use Rattle.charmlet_leases.proofs.PassesLemmas.Requests.{are_current-lent}
use Rattle.charmlet_leases.proofs.PassesLemmas.Sets.{length-out}
use Rattle.charmlet_leases.proofs.passes.table.PassTable.lend.Goals as goal

pub invariant_of-self-2 : goal.invariant_of-self-2
invariant_of-self-2 g c =
    let held = c.self.inside.authority in
    let h : HeldPass = lent_since c.args.client c.last.result c.event_count.result in
    let new : c.issue-fragment.new.self ≡ held ++ Some h ∷ [] = c.issue-fragment.ensures.authority in
    let out : c.lend.new.self ≡ insert_key nat_cmp c.self.inside.out c.args.client = search rules in
    let was_in : is_out c.args.client c.self.inside.out ≡ false = search rules in
    ap (λ l. length (passes_out l)) new ∙ count-lent held h ∙ ap (λ n. n + 1) c.self.invariant ∙ sym (ap length out ∙ length-out c.self.inside.out c.args.client was_in)

pub returns-clause-current : goal.returns-clause-current
returns-clause-current g c =
    let core = core_in c.args.history.now in
    let held = c.self.inside.authority in
    let h : HeldPass = lent_since c.args.client c.last.result c.event_count.result in
    let new : c.issue-fragment.new.self ≡ held ++ Some h ∷ [] = c.issue-fragment.ensures.authority in
    let last : c.last.result ≡ (client_of (present core) c.args.client).last = search rules in
    let count : c.event_count.result ≡ core.before + length core.history = c.event_count.ensures.count in
    let out : c.lend.new.self ≡ insert_key nat_cmp c.self.inside.out c.args.client = search rules in
    let was_in : is_out c.args.client c.self.inside.out ≡ false = search rules in
    subst (λ (x : List ℕ × List (Option HeldPass)). AreCurrent (record { out = x.0; held = x.1 }) core) (λ i. (sym out i, sym new i))
    (are_current-lent (record { out = c.self.inside.out; held = held }) core c.args.client h was_in (λ i. lent_since c.args.client (last i) (count i))
    (subst (λ p. AreCurrent p core) (sym c.self.view_is) c.requires))
