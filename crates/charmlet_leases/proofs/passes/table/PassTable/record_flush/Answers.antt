use Rattle.std.proofs.Common.{◌≡◌, ◌≤◌, Some, refl, length, ap, sym, ◌∙◌, subst, rules}
use Rattle.std.specs.Prelude.{slice_set}
use Rattle.charmlet_history.specs.Kept.{core_in}
use Rattle.charmlet_leases.specs.Passes.Passes.{HeldPass, LentPasses, AreCurrent, IsKept, event_count, passes_out, held_by}
use Rattle.charmlet_leases.proofs.PassesLemmas.OtherSteps.{stays}
use Rattle.charmlet_leases.proofs.PassesLemmas.Places.{count-set}
use Rattle.charmlet_leases.proofs.PassesLemmas.Requests.{Known, known_by, are_current-written, flushed-before, flushed-current, kept-written}
use Rattle.charmlet_leases.proofs.passes.table.PassTable.record_flush.Goals as goal

known_at : (g : _) (c : goal.After-write_flush g) → Known c.self.inside.authority c.pass.inside.fragment c.pass.inside.pass (core_in c.args.history.now) c.self.inside.out
known_at g c =
    known_by c.self.inside.authority c.pass.inside.fragment c.pass.inside.pass (core_in c.args.history.now) c.self.inside.out
    c.agree.ensures.agrees c.pass.invariant.0 c.pass.invariant.1 (subst (λ p. AreCurrent p (core_in c.args.history.now)) (sym c.self.view_is) c.requires.current)

pub invariant_of-self : goal.invariant_of-self
invariant_of-self g c =
    let held = c.self.inside.authority in
    let fragment = c.pass.inside.fragment in
    let h = held_by fragment.1 in
    let next : HeldPass = record h { flushed = event_count (core_in c.args.history.now) } in
    let new : c.write_flush.new.authority ≡ slice_set held fragment.0 (Some next) = search rules in
    ap (λ l. length (passes_out l)) new ∙ count-set held fragment.0 h next (known_at g c).there ∙ c.self.invariant

pub returns-clause-current : goal.returns-clause-current
returns-clause-current g c =
    let core = core_in c.args.history.now in
    let sound = c.facts.ensures.sound in
    let held = c.self.inside.authority in
    let fragment = c.pass.inside.fragment in
    let h = held_by fragment.1 in
    let knows = known_at g c in
    let next : HeldPass = record h { flushed = event_count core } in
    let new : c.write_flush.new.authority ≡ slice_set held fragment.0 (Some next) = search rules in
    subst (λ l. AreCurrent (record { out = c.self.inside.out; held = l }) core) (sym new)
    (are_current-written (record { out = c.self.inside.out; held = held }) core core fragment.0 h next knows.there refl (flushed-current core h c.requires.durable knows.current)
    (λ client apart. stays client core) sound sound knows.are)

pub returns-clause-kept : goal.returns-clause-kept
returns-clause-kept g c =
    let fragment = c.pass.inside.fragment in
    let next : HeldPass = record (held_by fragment.1) { flushed = event_count (core_in c.args.history.now) } in
    let new : c.write_flush.new.authority ≡ slice_set c.self.inside.authority fragment.0 (Some next) = search rules in
    let shared : c.write_flush.new.fragment ≡ (fragment.0, Some next) = search rules in
    subst (λ (x : LentPasses × (HeldPass × HeldPass)). IsKept x.0 (record { out = c.self.inside.out; held = c.write_flush.new.authority }) x.1.0 x.1.1) (λ i. (c.self.view_is i, (c.pass.view_is i, held_by (sym shared i).1)))
    (kept-written c.self.inside.authority c.write_flush.new.authority fragment c.pass.inside.pass (core_in c.args.history.now) c.self.inside.out next (known_at g c) new)

pub returns-clause-rising : goal.returns-clause-rising
returns-clause-rising g c =
    let core = core_in c.args.history.now in
    subst (λ (h : HeldPass). h.flushed ≤ event_count core) c.pass.view_is (flushed-before core (held_by c.pass.inside.fragment.1) c.requires.durable (known_at g c).current)
