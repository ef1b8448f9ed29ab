use Rattle.std.proofs.Common.{refl, subst, take, Result}
use Rattle.std.specs.Prelude.{OnOk}
use Rattle.charmlet_model.specs.declared.told.Told.{Told}
use Rattle.charmlet_model.specs.declared.refusal.Refusal.{Refusal}
use Rattle.charmlet_model.specs.Core.{Status, Steps, Tells}
use Rattle.charmlet_model.specs.Told.{Holds}
use Rattle.charmlet_model.proofs.ToldLemmas.{told_durable}
use Rattle.charmlet_history.specs.Kept.{core_in, plenty, told_or_refused}
use Rattle.charmlet_requests.specs.Knowing.{IsNoLess}
use Rattle.charmlet_requests.specs.Pass.{IsTold, known}
use Rattle.charmlet_requests.proofs.Truth.{told-known}
use Rattle.charmlet_requests.proofs.Turns.{status-says}
use Rattle.charmlet_requests.proofs.asked.status.Goals as goal

steps-at : (c : goal.In_ok-hear) → Steps (core_in c.args.history.now) plenty (Status c.args.pass.now.client c.args.number) (record { answer = Tells c.in_ok-told.told; core = core_in c.args.history.now; blanks = plenty })
steps-at c =
    let core = core_in c.args.history.now in
    subst (λ n. Steps core plenty (Status n c.args.number) (record { answer = Tells c.in_ok-told.told; core = core; blanks = plenty })) c.client.ensures
    (subst (λ (r : Result Told Refusal). Steps core plenty (Status c.client.result c.args.number) (record { answer = told_or_refused r; core = core; blanks = plenty })) (c.in_ok-told.was {u = tt}) (c.status.ensures plenty))

no_less-at : (c : goal.In_ok-hear) → IsTold c.args.pass.now (core_in c.args.history.now) →
    IsNoLess (known c.args.pass.now c.args.number) c.in_ok-told.told × IsNoLess c.in_ok-told.told (known c.hear.new.self c.args.number)
no_less-at c all =
    let core = core_in c.args.history.now in
    let says = status-says core plenty c.args.pass.now.client c.args.number core c.in_ok-told.told (steps-at c) in
    let before : IsNoLess (known c.args.pass.now c.args.number) c.in_ok-told.told =
    subst (IsNoLess (known c.args.pass.now c.args.number)) says (told-known core c.facts.ensures.sound c.args.pass.now c.args.number all) in (
      before,
      subst (λ r. OnOk r (IsNoLess c.in_ok-told.told (known c.hear.new.self c.args.number))) (c.in_ok-hear.was {u = tt}) (c.hear.ensures.heard before),
    )

holds-at : (c : goal.In_ok-hear) → IsTold c.args.pass.now (core_in c.args.history.now) → IsTold c.hear.new.self (core_in c.args.history.now)
holds-at c all =
    let core = core_in c.args.history.now in
    let told_true : Holds core.opening (take core.durable core.history) c.args.pass.now.client c.args.number c.in_ok-told.told =
    told_durable core plenty (Status c.args.pass.now.client c.args.number) (record { answer = Tells c.in_ok-told.told; core = core; blanks = plenty })
    c.args.pass.now.client c.args.number c.in_ok-told.told (refl, refl) (steps-at c) refl in
    c.hear.ensures.holds core c.facts.ensures.sound told_true all

pub returns-clause-heard : goal.returns-clause-heard
returns-clause-heard c = record { no_less = no_less-at c; kept = c.hear.ensures.kept; holds = holds-at c; err = tt }
