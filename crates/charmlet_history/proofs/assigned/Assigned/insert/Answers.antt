use Rattle.std.proofs.Common.{rules, ◌≡◌, true, is_some, sym, ap, subst, ◌∙◌}
use Rattle.std.specs.Ordering.{nat_cmp}
use Rattle.std.specs.BTreeMap.{insert_entry, is_at}
use Rattle.std.specs.Map.{lookup}
use Rattle.charmlet_history.specs.Assigned.{AreApart, Assignments, all_entries}
use Rattle.charmlet_history.proofs.Apart.{all_with, apart_with, never_empty}
use Rattle.charmlet_history.proofs.assigned.Assigned.insert.Goals as goal

pub returns-in_err-insert-clause-memory : goal.returns-in_err-insert-clause-memory
returns-in_err-insert-clause-memory c = λ empty.
    let whole = ap (λ (a : Assignments). a.entries) c.self.view_is in
    let some : is_some c.self.inside.first ≡ true = search rules in
    absurd (never_empty c.self.inside.first c.self.inside.others.entries c.self.invariant some (whole ∙ empty))

pub invariant_of-self-2 : goal.invariant_of-self-2
invariant_of-self-2 c =
    let first = c.self.inside.first in
    let others = c.self.inside.others.entries in
    let free = ap (λ (a : Assignments). is_some (lookup (is_at (nat_cmp c.args.processor)) a.entries)) c.self.view_is ∙ c.requires in
    subst (AreApart first) (sym c.in_ok-insert.ensures.entries) (apart_with first others c.self.invariant c.args.processor c.args.id free)

pub returns-clause-entries : goal.returns-clause-entries
returns-clause-entries c =
    let first = c.self.inside.first in
    let others = c.self.inside.others.entries in
    let p = c.args.processor in
    let free = ap (λ (a : Assignments). is_some (lookup (is_at (nat_cmp p)) a.entries)) c.self.view_is ∙ c.requires in
    ap (all_entries first) c.in_ok-insert.ensures.entries ∙ all_with first others c.self.invariant p c.args.id free
    ∙ ap (λ (a : Assignments). insert_entry nat_cmp a.entries p c.args.id) c.self.view_is
