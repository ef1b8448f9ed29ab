use Rattle.std.proofs.Common.{rules, ◌≡◌, [], ◌∷◌, ◌++◌, refl, sym, ap, subst, ◌∙◌}
use Rattle.std.specs.Prelude.{length, slice_get, vec_len}
use Rattle.charmlet_leases.specs.Passes.Passes.{HeldPass}
use Rattle.std.specs.BTreeMap.{insert_entry}
use Rattle.std.specs.Ordering.{nat_cmp}
use Rattle.charmlet_cli_workers.specs.Heard.{AreAccepted, AreLater, AreTidy, KnowTheSame}
use Rattle.charmlet_cli_workers.proofs.Asking.{accepts_pushed, tidy_lent, tidy_placed}
use Rattle.charmlet_cli_workers.proofs.Hearing.{last_pass, one_more, same_passes}
use Rattle.charmlet_cli_workers.proofs.Knowing.{rows_pushed}
use Rattle.charmlet_cli_workers.proofs.clients.Clients.lend.Goals as goal

pub returns-then-is_err-clause-later : goal.returns-then-is_err-clause-later
returns-then-is_err-clause-later g c = subst (AreLater c.args.self.now.passes.items) (sym c.reserve.ensures.items) (same_passes c.args.self.now.passes.items)

pub returns-then-is_err-2-clause-later : goal.returns-then-is_err-2-clause-later
returns-then-is_err-2-clause-later g c = subst (AreLater c.args.self.now.passes.items) (sym c.reserve.ensures.items) (same_passes c.args.self.now.passes.items)

pub returns-in-Err-clause-later : goal.returns-in-Err-clause-later
returns-in-Err-clause-later g c = subst (AreLater c.args.self.now.passes.items) (sym c.reserve.ensures.items) (same_passes c.args.self.now.passes.items)

pub returns-in-Ok-clause-place : goal.returns-in-Ok-clause-place
returns-in-Ok-clause-place g c =
    let passes = c.args.self.now.passes.items in
    let pass = c.in-Ok.pass in
    let items : c.push_reserved.new.self.items ≡ passes ++ pass ∷ [] = c.push_reserved.ensures.items ∙ ap (λ xs. xs ++ pass ∷ []) c.reserve.ensures.items in
    let long : vec_len c.args.self.now.passes ≡ length passes = search rules in (
      pass,
      ap (λ xs. slice_get xs c.len-place.result) items ∙ ap (slice_get (passes ++ pass ∷ [])) (c.len-place.ensures ∙ long) ∙ last_pass passes pass,
      ap (λ (held : HeldPass). held.pass.client) c.in-Ok.ensures.lent.new,
    )

pub returns-in-Ok-clause-later : goal.returns-in-Ok-clause-later
returns-in-Ok-clause-later g c =
    let passes = c.args.self.now.passes.items in
    let pass = c.in-Ok.pass in
    let items : c.push_reserved.new.self.items ≡ passes ++ pass ∷ [] = c.push_reserved.ensures.items ∙ ap (λ xs. xs ++ pass ∷ []) c.reserve.ensures.items in
    subst (AreLater passes) (sym items) (one_more passes pass)

pub returns-then-is_err-clause-accepted : goal.returns-then-is_err-clause-accepted
returns-then-is_err-clause-accepted g c = subst (AreAccepted c.args.self.now.passes.items) (sym c.reserve.ensures.items) (λ client. refl)

pub returns-then-is_err-2-clause-accepted : goal.returns-then-is_err-2-clause-accepted
returns-then-is_err-2-clause-accepted g c = subst (AreAccepted c.args.self.now.passes.items) (sym c.reserve.ensures.items) (λ client. refl)

pub returns-in-Err-clause-accepted : goal.returns-in-Err-clause-accepted
returns-in-Err-clause-accepted g c = subst (AreAccepted c.args.self.now.passes.items) (sym c.reserve.ensures.items) (λ client. refl)

pub returns-in-Ok-clause-accepted : goal.returns-in-Ok-clause-accepted
returns-in-Ok-clause-accepted g c =
    let passes = c.args.self.now.passes.items in
    let pass = c.in-Ok.pass in
    let items : c.push_reserved.new.self.items ≡ passes ++ pass ∷ [] = c.push_reserved.ensures.items ∙ ap (λ xs. xs ++ pass ∷ []) c.reserve.ensures.items in
    subst (AreAccepted passes) (sym items) (accepts_pushed passes pass (ap (λ (held : HeldPass). held.accepts) c.in-Ok.ensures.lent.new))

pub returns-then-is_err-clause-tidy : goal.returns-then-is_err-clause-tidy
returns-then-is_err-clause-tidy g c = subst (λ passes. AreTidy passes c.args.self.now.places.entries) (sym c.reserve.ensures.items) c.requires.tidy

pub returns-then-is_err-2-clause-tidy : goal.returns-then-is_err-2-clause-tidy
returns-then-is_err-2-clause-tidy g c =
    let same : c.insert.new.self.entries ≡ c.args.self.now.places.entries = search rules in
    subst (λ passes. AreTidy passes c.insert.new.self.entries) (sym c.reserve.ensures.items) (subst (AreTidy c.args.self.now.passes.items) (sym same) c.requires.tidy)

pub returns-in-Err-clause-tidy : goal.returns-in-Err-clause-tidy
returns-in-Err-clause-tidy g c =
    let passes = c.args.self.now.passes.items in
    let places = c.args.self.now.places.entries in
    let put : c.insert.new.self.entries ≡ insert_entry nat_cmp places c.args.client c.len-place.result = search rules in
    subst (λ items. AreTidy items c.insert.new.self.entries) (sym c.reserve.ensures.items)
    (subst (AreTidy passes) (sym put) (tidy_placed c.args.client c.len-place.result passes places c.requires.none c.requires.tidy))

pub returns-in-Ok-clause-tidy : goal.returns-in-Ok-clause-tidy
returns-in-Ok-clause-tidy g c =
    let passes = c.args.self.now.passes.items in
    let places = c.args.self.now.places.entries in
    let pass = c.in-Ok.pass in
    let lent = c.in-Ok.ensures.lent in
    let items : c.push_reserved.new.self.items ≡ passes ++ pass ∷ [] = c.push_reserved.ensures.items ∙ ap (λ xs. xs ++ pass ∷ []) c.reserve.ensures.items in
    let long : vec_len c.args.self.now.passes ≡ length passes = search rules in
    let place : c.len-place.result ≡ length passes = c.len-place.ensures ∙ long in
    let put : c.insert.new.self.entries ≡ insert_entry nat_cmp places c.args.client c.len-place.result = search rules in
    let tidy = tidy_lent c.args.client lent.last pass.since passes places pass lent.new c.requires.none c.requires.tidy in
    subst (λ items. AreTidy items c.insert.new.self.entries) (sym items)
    (subst (AreTidy (passes ++ pass ∷ [])) (sym (put ∙ ap (insert_entry nat_cmp places c.args.client) place)) tidy)

pub returns-then-is_err-clause-untold : goal.returns-then-is_err-clause-untold
returns-then-is_err-clause-untold g c = subst (KnowTheSame c.args.self.now.passes.items) (sym c.reserve.ensures.items) (λ client. refl)

pub returns-then-is_err-2-clause-untold : goal.returns-then-is_err-2-clause-untold
returns-then-is_err-2-clause-untold g c = subst (KnowTheSame c.args.self.now.passes.items) (sym c.reserve.ensures.items) (λ client. refl)

pub returns-in-Err-clause-untold : goal.returns-in-Err-clause-untold
returns-in-Err-clause-untold g c = subst (KnowTheSame c.args.self.now.passes.items) (sym c.reserve.ensures.items) (λ client. refl)

pub returns-in-Ok-clause-untold : goal.returns-in-Ok-clause-untold
returns-in-Ok-clause-untold g c =
    let passes = c.args.self.now.passes.items in
    let pass = c.in-Ok.pass in
    let items : c.push_reserved.new.self.items ≡ passes ++ pass ∷ [] = c.push_reserved.ensures.items ∙ ap (λ xs. xs ++ pass ∷ []) c.reserve.ensures.items in
    subst (KnowTheSame passes) (sym items) (rows_pushed passes pass (ap (λ (held : HeldPass). held.pass.row) c.in-Ok.ensures.lent.new))
