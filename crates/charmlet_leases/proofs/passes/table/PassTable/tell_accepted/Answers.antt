use Rattle.std.proofs.Common.{◌≡◌, Some, Ok, false, not, length, ap, sym, ◌∙◌, subst, rules}
use Rattle.std.specs.Prelude.{slice_get, slice_set, OnOk}
use Rattle.charmlet_model.specs.declared.told.Told.TheVariants.{Accepted}
use Rattle.charmlet_history.specs.Kept.{core_in}
use Rattle.charmlet_requests.specs.Knowing.{IsNoLess, is_unknown}
use Rattle.charmlet_requests.specs.Pass.{Pass, IsTold, IsUpToDate, known, with_told}
use Rattle.charmlet_leases.specs.Passes.Passes.{HeldPass, LentPasses, AreCurrent, IsCurrent, IsKept, passes_out, held_by, with_answer}
use Rattle.charmlet_leases.proofs.PassesLemmas.OtherSteps.{stays}
use Rattle.charmlet_leases.proofs.PassesLemmas.Places.{count-set, kept-same}
use Rattle.charmlet_leases.proofs.PassesLemmas.Requests.{Known, known_by, accepted_holds, are_current-written, kept-written, told-current}
use Rattle.charmlet_leases.proofs.PassesLemmas.Rising.{unknown_is_least}
use Rattle.charmlet_leases.proofs.passes.table.PassTable.tell_accepted.Goals as goal

known_at : (g : _) (c : goal.After-write_told g) → Known c.self.inside.authority c.pass.inside.fragment c.pass.inside.pass (core_in c.args.history.now) c.self.inside.out
known_at g c =
    known_by c.self.inside.authority c.pass.inside.fragment c.pass.inside.pass (core_in c.args.history.now) c.self.inside.out
    c.agree.ensures.agrees c.pass.invariant.0 c.pass.invariant.1 (subst (λ p. AreCurrent p (core_in c.args.history.now)) (sym c.self.view_is) c.requires.current)

pub invariant_of-self-2 : goal.invariant_of-self-2
invariant_of-self-2 g c =
    let held = c.self.inside.authority in
    let fragment = c.pass.inside.fragment in
    let h = held_by fragment.1 in
    let knows = known_at g c in
    let next : HeldPass = with_answer h c.hear.new.self c.last-last.result Accepted in
    let new : c.write_told.new.authority ≡ slice_set held fragment.0 (Some next) = search rules in
    ap (λ l. length (passes_out l)) new ∙ count-set held fragment.0 h next knows.there ∙ c.self.invariant

pub returns-clause-current : goal.returns-clause-current
returns-clause-current g c =
    let core = core_in c.args.history.now in
    let sound = c.facts.ensures.sound in
    let held = c.self.inside.authority in
    let fragment = c.pass.inside.fragment in
    let h = held_by fragment.1 in
    let knows = known_at g c in
    let next : HeldPass = with_answer h c.hear.new.self c.last-last.result Accepted in
    let new : c.write_told.new.authority ≡ slice_set held fragment.0 (Some next) = search rules in
    let told : IsTold c.pass.inside.pass core = subst (λ (p : Pass). IsTold p core) knows.is knows.current.told in
    let up_to_date : IsUpToDate c.pass.inside.pass core = subst (λ (p : Pass). IsUpToDate p core) knows.is knows.current.up_to_date in
    let is : c.hear.new.self ≡ with_told c.pass.inside.pass c.last-last.result Accepted = search rules in
    let holds = accepted_holds core c.pass.inside.pass c.last-last.result c.last-last.ensures c.requires.durable up_to_date in
    let last = c.last-last.result in
    let nothing : not (is_unknown (known c.pass.inside.pass last)) ≡ false = search rules in
    let more : IsNoLess (known c.pass.inside.pass last) Accepted = unknown_is_least (known c.pass.inside.pass last) Accepted nothing in
    let ok : c.hear.result ≡ Ok tt = search rules in
    let less : IsNoLess Accepted (known c.hear.new.self last) = subst (λ r. OnOk r (IsNoLess Accepted (known c.hear.new.self last))) ok (c.hear.ensures.heard more) in
    let current : IsCurrent next core =
    told-current core h c.pass.inside.pass c.hear.new.self c.last-last.result Accepted knows.is knows.current (ap (λ (p : Pass). p.client) is) (ap (λ (p : Pass). p.lent_at) is) (ap (λ (p : Pass). p.last) is) (c.hear.ensures.holds core sound holds told) holds more less c.hear.ensures.kept in
    subst (λ l. AreCurrent (record { out = c.self.inside.out; held = l }) core) (sym new)
    (are_current-written (record { out = c.self.inside.out; held = held }) core core fragment.0 h next knows.there (ap (λ (p : Pass). p.client) is ∙ sym (ap (λ (p : Pass). p.client) knows.is)) current
    (λ client apart. stays client core) sound sound knows.are)

pub returns-clause-kept : goal.returns-clause-kept
returns-clause-kept g c =
    let fragment = c.pass.inside.fragment in
    let next : HeldPass = with_answer (held_by fragment.1) c.hear.new.self c.last-last.result Accepted in
    let new : c.write_told.new.authority ≡ slice_set c.self.inside.authority fragment.0 (Some next) = search rules in
    let shared : c.write_told.new.fragment ≡ (fragment.0, Some next) = search rules in
    subst (λ (x : LentPasses × (HeldPass × HeldPass)). IsKept x.0 (record { out = c.self.inside.out; held = c.write_told.new.authority }) x.1.0 x.1.1) (λ i. (c.self.view_is i, (c.pass.view_is i, held_by (sym shared i).1)))
    (kept-written c.self.inside.authority c.write_told.new.authority fragment c.pass.inside.pass (core_in c.args.history.now) c.self.inside.out next (known_at g c) new)

-- ---- where it made no request

pub returns-then-accept_count-eq0-clause-kept : goal.returns-then-accept_count-eq0-clause-kept
returns-then-accept_count-eq0-clause-kept g c =
    let h = held_by c.pass.inside.fragment.1 in
    let there : slice_get c.self.inside.authority c.pass.inside.fragment.0 ≡ Some (Some h) = c.agree.ensures.agrees ∙ ap Some c.pass.invariant.0 in
    let fragment : c.agree.new.fragment ≡ c.pass.inside.fragment = search rules in
    let authority : c.agree.new.self ≡ c.self.inside.authority = search rules in
    subst (λ (x : (LentPasses × LentPasses) × (HeldPass × HeldPass)). IsKept x.0.0 x.0.1 x.1.0 x.1.1) (λ i. ((c.self.view_is i, record { out = c.self.inside.out; held = sym authority i }), (c.pass.view_is i, held_by (sym fragment i).1)))
    (kept-same (record { out = c.self.inside.out; held = c.self.inside.authority }) c.pass.inside.fragment.0 h there)

-- ---- where it knows of its last request

pub returns-then-knows-clause-kept : goal.returns-then-knows-clause-kept
returns-then-knows-clause-kept g c =
    let h = held_by c.pass.inside.fragment.1 in
    let there : slice_get c.self.inside.authority c.pass.inside.fragment.0 ≡ Some (Some h) = c.agree.ensures.agrees ∙ ap Some c.pass.invariant.0 in
    let fragment : c.agree.new.fragment ≡ c.pass.inside.fragment = search rules in
    let authority : c.agree.new.self ≡ c.self.inside.authority = search rules in
    subst (λ (x : (LentPasses × LentPasses) × (HeldPass × HeldPass)). IsKept x.0.0 x.0.1 x.1.0 x.1.1) (λ i. ((c.self.view_is i, record { out = c.self.inside.out; held = sym authority i }), (c.pass.view_is i, held_by (sym fragment i).1)))
    (kept-same (record { out = c.self.inside.out; held = c.self.inside.authority }) c.pass.inside.fragment.0 h there)
