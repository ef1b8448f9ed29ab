use Rattle.std.proofs.Common.{is_some, sym, ap, subst, ◌∙◌}
use Rattle.std.specs.Ordering.{nat_cmp}
use Rattle.std.specs.BTreeMap.{is_at}
use Rattle.std.specs.Map.{lookup, remove_entry}
use Rattle.charmlet_history.specs.Assigned.{AreApart, Assignments, all_entries}
use Rattle.charmlet_history.proofs.Apart.{IsElsewhere, other_found, other_taken, own_found, own_taken}
use Rattle.charmlet_history.proofs.assigned.Assigned.remove.Goals.{in_default-via-in-Some+else-own-processor, in_default-via-in_default}
use Rattle.charmlet_history.proofs.assigned.Assigned.remove.Goals as goal

pub returns-in-Some-clause-value : goal.returns-in-Some-clause-value
returns-in-Some-clause-value c =
    let others = c.self.inside.others.entries in
    let whole = ap (λ first. all_entries first others) (sym c.in-Some.is) ∙ ap (λ (a : Assignments). a.entries) c.self.view_is in
    sym (ap is_some (own_found others c.in-Some.own c.in-Some.field-0-1)) ∙ (λ i. is_some (lookup (is_at (nat_cmp (c.if-own-processor.true i))) (whole i)))

pub returns-in-Some-clause-entries : goal.returns-in-Some-clause-entries
returns-in-Some-clause-entries c =
    let others = c.self.inside.others.entries in
    let whole = ap (λ first. all_entries first others) (sym c.in-Some.is) ∙ ap (λ (a : Assignments). a.entries) c.self.view_is in
    let apart = subst (λ first. AreApart first others) c.in-Some.is c.self.invariant in
    sym (own_taken others c.in-Some.own c.in-Some.field-0-1 apart) ∙ (λ i. remove_entry (is_at (nat_cmp (c.if-own-processor.true i))) (whole i))

pub returns-in_default-clause-value : goal.returns-in_default-clause-value
returns-in_default-clause-value c =
    let first = c.self.inside.first in
    let others = c.self.inside.others.entries in
    let p = c.args.processor in
    let away : IsElsewhere first p = elim c.in_default.branch [
      | in_default-via-in-Some+else-own-processor w ↦ subst (λ o. IsElsewhere o p) (sym w.in-Some.is) w.if-own-processor.false
      | in_default-via-in_default w ↦ subst (λ o. IsElsewhere o p) (sym w.in_default.is) tt
    ] in
    c.is_some.ensures ∙ ap is_some (c.remove.ensures.value ∙ sym (other_found first others p away) ∙ ap (λ (a : Assignments). lookup (is_at (nat_cmp p)) a.entries) c.self.view_is)

pub returns-in_default-clause-entries : goal.returns-in_default-clause-entries
returns-in_default-clause-entries c =
    let first = c.self.inside.first in
    let others = c.self.inside.others.entries in
    let p = c.args.processor in
    let away : IsElsewhere first p = elim c.in_default.branch [
      | in_default-via-in-Some+else-own-processor w ↦ subst (λ o. IsElsewhere o p) (sym w.in-Some.is) w.if-own-processor.false
      | in_default-via-in_default w ↦ subst (λ o. IsElsewhere o p) (sym w.in_default.is) tt
    ] in
    ap (all_entries first) c.remove.ensures.entries ∙ other_taken first others c.self.invariant p away ∙ ap (λ (a : Assignments). remove_entry (is_at (nat_cmp p)) a.entries) c.self.view_is
