use Rattle.std.proofs.Common.{◌≡◌, ℕ, Some, length, Ok, Err, Result, refl, ap, sym, ◌∙◌, subst, rules}
use Rattle.std.specs.Prelude.{slice_set, OnErr}
use Rattle.charmlet_model.specs.declared.told.Told.{Told}
use Rattle.charmlet_model.specs.declared.refusal.Refusal.{Refusal}
use Rattle.charmlet_model.specs.declared.refusal.Refusal.TheVariants as refusals
use Rattle.charmlet_model.specs.Reaction.{capped}
use Rattle.charmlet_model.specs.Core.{Status, Steps, Refuses, Tells}
use Rattle.charmlet_model.proofs.ToldLemmas.{told_durable}
use Rattle.charmlet_history.specs.Kept.{core_in, plenty, told_or_refused}
use Rattle.charmlet_requests.specs.Pass.{Pass, IsHeard, IsTold, with_told}
use Rattle.charmlet_leases.specs.Passes.Passes.{HeldPass, LentPasses, AreCurrent, IsAnswered, IsCurrent, IsKept, passes_out, held_by, with_answer}
use Rattle.charmlet_leases.proofs.PassesLemmas.OtherSteps.{stays}
use Rattle.charmlet_leases.proofs.PassesLemmas.Places.{count-set, kept-same}
use Rattle.charmlet_leases.proofs.PassesLemmas.Requests.{Known, known_by, are_current-written, heard_answered, kept-written, told-current, status_wanted}
use Rattle.charmlet_leases.proofs.passes.table.PassTable.status.Goals as goal

-- ---- where it is answered

known_at : (g : _) (c : goal.After-write_told g) → Known c.self.inside.authority c.pass.inside.fragment c.pass.inside.pass (core_in c.args.history.now) c.self.inside.out
known_at g c =
    known_by c.self.inside.authority c.pass.inside.fragment c.pass.inside.pass (core_in c.args.history.now) c.self.inside.out
    c.agree.ensures.agrees c.pass.invariant.0 c.pass.invariant.1 (subst (λ p. AreCurrent p (core_in c.args.history.now)) (sym c.self.view_is) c.requires)

pub returns-clause-answered : goal.returns-clause-answered
returns-clause-answered g c =
    let core = core_in c.args.history.now in
    let h = held_by c.pass.inside.fragment.1 in
    let known = known_at g c in
    let next : HeldPass = with_answer h c.status.new.pass c.args.number c.in-Ok.told in
    let fragment : c.write_told.new.fragment ≡ (c.pass.inside.fragment.0, Some next) = search rules in
    let heard : IsHeard c.pass.inside.pass c.status.new.pass core core c.args.number (Ok c.in-Ok.told) = subst (IsHeard c.pass.inside.pass c.status.new.pass core core c.args.number) c.in-Ok.is c.status.ensures.heard in
    let told : IsTold c.pass.inside.pass core = subst (λ (p : Pass). IsTold p core) known.is known.current.told in
    subst (λ (x : HeldPass × HeldPass). IsAnswered x.0 x.1 c.args.number (Ok c.in-Ok.told)) (λ i. (c.pass.view_is i, held_by (sym fragment i).1))
    (heard_answered h next c.pass.inside.pass c.status.new.pass core core c.args.number (Ok c.in-Ok.told) heard told known.is refl refl refl refl tt tt)

pub invariant_of-self-2 : goal.invariant_of-self-2
invariant_of-self-2 g c =
    let held = c.self.inside.authority in
    let fragment = c.pass.inside.fragment in
    let h = held_by fragment.1 in
    let known = known_at g c in
    let next : HeldPass = with_answer h c.status.new.pass c.args.number c.in-Ok.told in
    let new : c.write_told.new.authority ≡ slice_set held fragment.0 (Some next) = search rules in
    ap (λ l. length (passes_out l)) new ∙ count-set held fragment.0 h next known.there ∙ c.self.invariant

pub returns-clause-kept : goal.returns-clause-kept
returns-clause-kept g c =
    let fragment = c.pass.inside.fragment in
    let next : HeldPass = with_answer (held_by fragment.1) c.status.new.pass c.args.number c.in-Ok.told in
    let new : c.write_told.new.authority ≡ slice_set c.self.inside.authority fragment.0 (Some next) = search rules in
    let shared : c.write_told.new.fragment ≡ (fragment.0, Some next) = search rules in
    subst (λ (x : LentPasses × (HeldPass × HeldPass)). IsKept x.0 (record { out = c.self.inside.out; held = c.write_told.new.authority }) x.1.0 x.1.1) (λ i. (c.self.view_is i, (c.pass.view_is i, held_by (sym shared i).1)))
    (kept-written c.self.inside.authority c.write_told.new.authority fragment c.pass.inside.pass (core_in c.args.history.now) c.self.inside.out next (known_at g c) new)

pub returns-clause-current : goal.returns-clause-current
returns-clause-current g c =
    let core = core_in c.args.history.now in
    let held = c.self.inside.authority in
    let fragment = c.pass.inside.fragment in
    let h = held_by fragment.1 in
    let known = known_at g c in
    let next : HeldPass = with_answer h c.status.new.pass c.args.number c.in-Ok.told in
    let new : c.write_told.new.authority ≡ slice_set held fragment.0 (Some next) = search rules in
    let told : IsTold c.pass.inside.pass core = subst (λ (p : Pass). IsTold p core) known.is known.current.told in
    let is : c.status.new.pass ≡ with_told c.pass.inside.pass c.args.number c.in-Ok.told = search rules in
    let current : IsCurrent next core =
    let steps : Steps core plenty (Status c.pass.inside.pass.client c.args.number) (record { answer = Tells c.in-Ok.told; core = core; blanks = plenty }) =
    subst (λ (r : Result Told Refusal). Steps core plenty (Status c.pass.inside.pass.client c.args.number) (record { answer = told_or_refused r; core = core; blanks = plenty })) c.in-Ok.is (c.status.ensures.steps plenty) in
    let true_now = told_durable core plenty (Status c.pass.inside.pass.client c.args.number) (record { answer = Tells c.in-Ok.told; core = core; blanks = plenty }) c.pass.inside.pass.client c.args.number c.in-Ok.told (refl, refl) steps refl in
    let heard : IsHeard c.pass.inside.pass c.status.new.pass core core c.args.number (Ok c.in-Ok.told) = subst (IsHeard c.pass.inside.pass c.status.new.pass core core c.args.number) c.in-Ok.is c.status.ensures.heard in
    let no_less = heard.no_less told in
    told-current core h c.pass.inside.pass c.status.new.pass c.args.number c.in-Ok.told known.is known.current (ap (λ (p : Pass). p.client) is) (ap (λ (p : Pass). p.lent_at) is) (ap (λ (p : Pass). p.last) is) (c.status.ensures.heard.holds told) true_now no_less.0 no_less.1 heard.kept in
    subst (λ l. AreCurrent (record { out = c.self.inside.out; held = l }) core) (sym new)
    (are_current-written (record { out = c.self.inside.out; held = held }) core core fragment.0 h next known.there (ap (λ (p : Pass). p.client) is ∙ sym (ap (λ (p : Pass). p.client) known.is)) current
    (λ client apart. stays client core) c.facts.ensures.sound c.facts.ensures.sound known.are)

-- ---- where it is refused

known_before : (g : _) (c : goal.In-Err g) → Known c.self.inside.authority c.pass.inside.fragment c.pass.inside.pass (core_in c.args.history.now) c.self.inside.out
known_before g c =
    known_by c.self.inside.authority c.pass.inside.fragment c.pass.inside.pass (core_in c.args.history.now) c.self.inside.out
    c.agree.ensures.agrees c.pass.invariant.0 c.pass.invariant.1 (subst (λ p. AreCurrent p (core_in c.args.history.now)) (sym c.self.view_is) c.requires)

pub returns-in-Err-clause-answered : goal.returns-in-Err-clause-answered
returns-in-Err-clause-answered g c =
    let core = core_in c.args.history.now in
    let h = held_by c.pass.inside.fragment.1 in
    let fragment : c.agree.new.fragment ≡ c.pass.inside.fragment = search rules in
    let known = known_before g c in
    let refusal = c.in-Err.refusal in
    let same : c.status.new.pass ≡ c.pass.inside.pass = subst (λ (r : Result Told Refusal). OnErr r (c.status.new.pass ≡ c.pass.inside.pass)) c.in-Err.is c.status.ensures.heard.err in
    let heard : IsHeard c.pass.inside.pass c.status.new.pass core core c.args.number (Err refusal) = subst (IsHeard c.pass.inside.pass c.status.new.pass core core c.args.number) c.in-Err.is c.status.ensures.heard in
    let told : IsTold c.pass.inside.pass core = subst (λ (p : Pass). IsTold p core) known.is known.current.told in
    let steps : Steps core plenty (Status c.pass.inside.pass.client c.args.number) (record { answer = Refuses refusal; core = core; blanks = plenty }) =
    subst (λ (r : Result Told Refusal). Steps core plenty (Status c.pass.inside.pass.client c.args.number) (record { answer = told_or_refused r; core = core; blanks = plenty })) c.in-Err.is (c.status.ensures.steps plenty) in
    let want : (n : ℕ) → refusal ≡ refusals.OutOfTurn n → n ≡ capped h.pass.last 1 = λ n e. absurd (status_wanted core plenty c.pass.inside.pass.client c.args.number core refusal steps n e) in
    subst (λ (x : HeldPass × HeldPass). IsAnswered x.0 x.1 c.args.number (Err refusal)) (λ i. (c.pass.view_is i, held_by (sym fragment i).1))
    (heard_answered h h c.pass.inside.pass c.status.new.pass core core c.args.number (Err refusal) heard told known.is (known.is ∙ sym same) tt refl refl refl want)

pub returns-in-Err-clause-kept : goal.returns-in-Err-clause-kept
returns-in-Err-clause-kept g c =
    let fragment : c.agree.new.fragment ≡ c.pass.inside.fragment = search rules in
    let authority : c.agree.new.self ≡ c.self.inside.authority = search rules in
    let known = known_before g c in
    subst (λ (x : (LentPasses × LentPasses) × (HeldPass × HeldPass)). IsKept x.0.0 x.0.1 x.1.0 x.1.1) (λ i. ((c.self.view_is i, record { out = c.self.inside.out; held = sym authority i }), (c.pass.view_is i, held_by (sym fragment i).1)))
    (kept-same (record { out = c.self.inside.out; held = c.self.inside.authority }) c.pass.inside.fragment.0 (held_by c.pass.inside.fragment.1) known.there)
