use Rattle.std.proofs.Common.{sym, ap, subst, ◌∙◌}
use Rattle.std.specs.Ordering.{nat_cmp}
use Rattle.std.specs.BTreeMap.{is_at}
use Rattle.std.specs.Map.{lookup}
use Rattle.charmlet_history.specs.Assigned.{Assignments, all_entries}
use Rattle.charmlet_history.proofs.Apart.{IsElsewhere, other_found, own_found}
use Rattle.charmlet_history.proofs.assigned.Assigned.get.Goals.{in_default-via-in-Some+else-own-processor, in_default-via-in_default}
use Rattle.charmlet_history.proofs.assigned.Assigned.get.Goals as goal

pub returns-in-Some : goal.returns-in-Some
returns-in-Some c =
    let others = c.self.inside.others.entries in
    let whole = ap (λ first. all_entries first others) (sym c.in-Some.is) ∙ ap (λ (a : Assignments). a.entries) c.self.view_is in
    sym (own_found others c.in-Some.own c.in-Some.id) ∙ (λ i. lookup (is_at (nat_cmp (c.if-own-processor.true i))) (whole i))

pub returns-in_default : goal.returns-in_default
returns-in_default c =
    let first = c.self.inside.first in
    let others = c.self.inside.others.entries in
    let p = c.args.processor in
    let away : IsElsewhere first p = elim c.in_default.branch [
      | in_default-via-in-Some+else-own-processor w ↦ subst (λ o. IsElsewhere o p) (sym w.in-Some.is) w.if-own-processor.false
      | in_default-via-in_default w ↦ subst (λ o. IsElsewhere o p) (sym w.in_default.is) tt
    ] in
    c.copied.ensures ∙ c.get.ensures.value ∙ sym (other_found first others p away) ∙ ap (λ (a : Assignments). lookup (is_at (nat_cmp p)) a.entries) c.self.view_is
