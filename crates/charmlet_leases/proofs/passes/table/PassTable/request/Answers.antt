use Rattle.std.proofs.Common.{◌≡◌, ℕ, Some, length, Ok, Err, Result, refl, ap, sym, ◌∙◌, subst, rules}
use Rattle.std.specs.Prelude.{slice_set, OnErr}
use Rattle.charmlet_model.specs.declared.told.Told.{Told}
use Rattle.charmlet_model.specs.declared.refusal.Refusal.{Refusal}
use Rattle.charmlet_model.specs.declared.refusal.Refusal.TheVariants as refusals
use Rattle.charmlet_model.specs.Reaction.{capped}
use Rattle.charmlet_model.specs.Core.{Request, Steps, Tells, Refuses}
use Rattle.charmlet_history.specs.Kept.{core_in, plenty, told_or_refused}
use Rattle.charmlet_requests.specs.Pass.{Pass, IsHeard, IsTold, IsUpToDate}
use Rattle.charmlet_leases.specs.Passes.Passes.{HeldPass, LentPasses, AreCurrent, IsAnswered, IsCurrent, IsKept, passes_out, held_by, with_request}
use Rattle.charmlet_leases.proofs.PassesLemmas.Places.{count-set, kept-same}
use Rattle.charmlet_leases.proofs.PassesLemmas.Requests.{Known, known_by, are_current-written, heard_answered, kept-written, others_go_on, own-current, wanted}
use Rattle.charmlet_leases.proofs.passes.table.PassTable.request.Goals as goal

-- ---- where the request is answered

known_at : (g : _) (c : goal.After-write_accept g) → Known c.self.inside.authority c.pass.inside.fragment c.pass.inside.pass (core_in c.args.history.now) c.self.inside.out
known_at g c =
    known_by c.self.inside.authority c.pass.inside.fragment c.pass.inside.pass (core_in c.args.history.now) c.self.inside.out
    c.agree.ensures.agrees c.pass.invariant.0 c.pass.invariant.1 (subst (λ p. AreCurrent p (core_in c.args.history.now)) (sym c.self.view_is) c.requires)

pub returns-clause-answered : goal.returns-clause-answered
returns-clause-answered g c =
    let core = core_in c.args.history.now in
    let after = core_in c.request.new.history in
    let number = c.args.request.now.number in
    let h = held_by c.pass.inside.fragment.1 in
    let known = known_at g c in
    let next = with_request h c.request.new.pass c.args.request.now c.in-Ok.told in
    let fragment : c.write_accept.new.fragment ≡ (c.pass.inside.fragment.0, Some next) = search rules in
    let heard : IsHeard c.pass.inside.pass c.request.new.pass core after number (Ok c.in-Ok.told) = subst (IsHeard c.pass.inside.pass c.request.new.pass core after number) c.in-Ok.is c.request.ensures.heard in
    let told : IsTold c.pass.inside.pass core = subst (λ (p : Pass). IsTold p core) known.is known.current.told in
    subst (λ (x : HeldPass × HeldPass). IsAnswered x.0 x.1 number (Ok c.in-Ok.told)) (λ i. (c.pass.view_is i, held_by (sym fragment i).1))
    (heard_answered h next c.pass.inside.pass c.request.new.pass core after number (Ok c.in-Ok.told) heard told known.is refl refl refl refl tt tt)

pub invariant_of-self-2 : goal.invariant_of-self-2
invariant_of-self-2 g c =
    let held = c.self.inside.authority in
    let fragment = c.pass.inside.fragment in
    let h = held_by fragment.1 in
    let known = known_at g c in
    let next = with_request h c.request.new.pass c.args.request.now c.in-Ok.told in
    let new : c.write_accept.new.authority ≡ slice_set held fragment.0 (Some next) = search rules in
    ap (λ l. length (passes_out l)) new ∙ count-set held fragment.0 h next known.there ∙ c.self.invariant

pub returns-clause-kept : goal.returns-clause-kept
returns-clause-kept g c =
    let fragment = c.pass.inside.fragment in
    let next = with_request (held_by fragment.1) c.request.new.pass c.args.request.now c.in-Ok.told in
    let new : c.write_accept.new.authority ≡ slice_set c.self.inside.authority fragment.0 (Some next) = search rules in
    let shared : c.write_accept.new.fragment ≡ (fragment.0, Some next) = search rules in
    subst (λ (x : LentPasses × (HeldPass × HeldPass)). IsKept x.0 (record { out = c.self.inside.out; held = c.write_accept.new.authority }) x.1.0 x.1.1) (λ i. (c.self.view_is i, (c.pass.view_is i, held_by (sym shared i).1)))
    (kept-written c.self.inside.authority c.write_accept.new.authority fragment c.pass.inside.pass (core_in c.args.history.now) c.self.inside.out next (known_at g c) new)

pub returns-clause-current : goal.returns-clause-current
returns-clause-current g c =
    let core = core_in c.args.history.now in
    let after = core_in c.request.new.history in
    let held = c.self.inside.authority in
    let fragment = c.pass.inside.fragment in
    let asked = c.args.request.now in
    let h = held_by fragment.1 in
    let client = h.pass.client in
    let known = known_at g c in
    let next = with_request h c.request.new.pass asked c.in-Ok.told in
    let new : c.write_accept.new.authority ≡ slice_set held fragment.0 (Some next) = search rules in
    let own : c.pass.inside.pass.client ≡ client = sym (ap (λ (p : Pass). p.client) known.is) in
    let told : IsTold c.pass.inside.pass core = subst (λ (p : Pass). IsTold p core) known.is known.current.told in
    let up_to_date : IsUpToDate c.pass.inside.pass core = subst (λ (p : Pass). IsUpToDate p core) known.is known.current.up_to_date in
    let same_client : c.request.new.pass.client ≡ c.pass.inside.pass.client = search rules in
    let same_lent : c.request.new.pass.lent_at ≡ c.pass.inside.pass.lent_at = search rules in
    let steps : Steps core plenty (Request client asked.number asked.to asked.entry asked.words.now) (record { answer = Tells c.in-Ok.told; core = after; blanks = plenty }) =
    subst (λ (x : ℕ × Result Told Refusal). Steps core plenty (Request x.0 asked.number asked.to asked.entry asked.words.now) (record { answer = told_or_refused x.1; core = after; blanks = plenty })) (λ i. (own i, c.in-Ok.is i)) (c.request.ensures.steps plenty) in
    let heard : IsHeard c.pass.inside.pass c.request.new.pass core after asked.number (Ok c.in-Ok.told) = subst (IsHeard c.pass.inside.pass c.request.new.pass core after asked.number) c.in-Ok.is c.request.ensures.heard in
    let heard' : IsHeard h.pass c.request.new.pass core after asked.number (Ok c.in-Ok.told) = subst (λ (p : Pass). IsHeard p c.request.new.pass core after asked.number (Ok c.in-Ok.told)) (sym known.is) heard in
    let no_less = heard'.no_less known.current.told in
    let current : IsCurrent next after =
    own-current core plenty client asked.number asked.to asked.entry asked.words.now c.facts.ensures.sound after c.in-Ok.told steps h next refl known.current
    (c.request.ensures.heard.holds told) (c.request.ensures.up_to_date up_to_date) (same_client ∙ own) (same_lent ∙ sym (ap (λ (p : Pass). p.lent_at) known.is)) refl refl refl refl no_less.0 no_less.1 heard'.kept in
    subst (λ l. AreCurrent (record { out = c.self.inside.out; held = l }) after) (sym new)
    (are_current-written (record { out = c.self.inside.out; held = held }) core after fragment.0 h next known.there (same_client ∙ own) current
    (others_go_on core plenty client asked.number asked.to asked.entry asked.words.now c.facts.ensures.sound after c.in-Ok.told steps)
    c.facts.ensures.sound c.facts-2.ensures.sound known.are)

-- ---- where it is refused

known_before : (g : _) (c : goal.In-Err g) → Known c.self.inside.authority c.pass.inside.fragment c.pass.inside.pass (core_in c.args.history.now) c.self.inside.out
known_before g c =
    known_by c.self.inside.authority c.pass.inside.fragment c.pass.inside.pass (core_in c.args.history.now) c.self.inside.out
    c.agree.ensures.agrees c.pass.invariant.0 c.pass.invariant.1 (subst (λ p. AreCurrent p (core_in c.args.history.now)) (sym c.self.view_is) c.requires)

pub returns-in-Err-clause-answered : goal.returns-in-Err-clause-answered
returns-in-Err-clause-answered g c =
    let core = core_in c.args.history.now in
    let after = core_in c.request.new.history in
    let asked = c.args.request.now in
    let h = held_by c.pass.inside.fragment.1 in
    let fragment : c.agree.new.fragment ≡ c.pass.inside.fragment = search rules in
    let known = known_before g c in
    let own : c.pass.inside.pass.client ≡ h.pass.client = sym (ap (λ (p : Pass). p.client) known.is) in
    let refusal = c.in-Err.refusal in
    let same : c.request.new.pass ≡ c.pass.inside.pass = subst (λ (r : Result Told Refusal). OnErr r (c.request.new.pass ≡ c.pass.inside.pass)) c.in-Err.is c.request.ensures.heard.err in
    let heard : IsHeard c.pass.inside.pass c.request.new.pass core after asked.number (Err refusal) = subst (IsHeard c.pass.inside.pass c.request.new.pass core after asked.number) c.in-Err.is c.request.ensures.heard in
    let told : IsTold c.pass.inside.pass core = subst (λ (p : Pass). IsTold p core) known.is known.current.told in
    let steps : Steps core plenty (Request h.pass.client asked.number asked.to asked.entry asked.words.now) (record { answer = Refuses refusal; core = after; blanks = plenty }) =
    subst (λ (x : ℕ × Result Told Refusal). Steps core plenty (Request x.0 asked.number asked.to asked.entry asked.words.now) (record { answer = told_or_refused x.1; core = after; blanks = plenty })) (λ i. (own i, c.in-Err.is i)) (c.request.ensures.steps plenty) in
    let want : (n : ℕ) → refusal ≡ refusals.OutOfTurn n → n ≡ capped h.pass.last 1 = λ n e. wanted core plenty h.pass.client asked.number asked.to asked.entry asked.words.now after refusal steps n e ∙ ap (λ l. capped l 1) known.current.up_to_date in
    subst (λ (x : HeldPass × HeldPass). IsAnswered x.0 x.1 asked.number (Err refusal)) (λ i. (c.pass.view_is i, held_by (sym fragment i).1))
    (heard_answered h h c.pass.inside.pass c.request.new.pass core after asked.number (Err refusal) heard told known.is (known.is ∙ sym same) tt refl refl refl want)

pub returns-in-Err-clause-kept : goal.returns-in-Err-clause-kept
returns-in-Err-clause-kept g c =
    let fragment : c.agree.new.fragment ≡ c.pass.inside.fragment = search rules in
    let authority : c.agree.new.self ≡ c.self.inside.authority = search rules in
    let known = known_before g c in
    subst (λ (x : (LentPasses × LentPasses) × (HeldPass × HeldPass)). IsKept x.0.0 x.0.1 x.1.0 x.1.1) (λ i. ((c.self.view_is i, record { out = c.self.inside.out; held = sym authority i }), (c.pass.view_is i, held_by (sym fragment i).1)))
    (kept-same (record { out = c.self.inside.out; held = c.self.inside.authority }) c.pass.inside.fragment.0 (held_by c.pass.inside.fragment.1) known.there)
