use Rattle.std.proofs.Common.{◌≡◌, ℕ, List, take, true, refl, sym, ap, subst, ◌∙◌, Result, Ok, Err}
use Rattle.std.specs.Prelude.{OnErr, OnOk}
use Rattle.charmlet_model.specs.declared.names.Elem.{Elem}
use Rattle.charmlet_model.specs.declared.told.Told.{Told}
use Rattle.charmlet_model.specs.declared.refusal.Refusal.{Refusal}
use Rattle.charmlet_model.specs.Core.{Core, CoreAnswer, Blanks, Request, Steps, Tells, has_words, is_repeat, next_core}
use Rattle.charmlet_model.specs.Told.{Holds}
use Rattle.charmlet_history.specs.Kept.{core_in, plenty, told_or_refused}
use Rattle.charmlet_model.proofs.ToldLemmas.{told_durable}
use Rattle.charmlet_requests.specs.Knowing.{IsNoLess}
use Rattle.charmlet_requests.specs.Pass.{Pass, IsTold, IsUpToDate, known, with_accept, with_told}
use Rattle.charmlet_requests.proofs.Refusals.{on_err, refused_heard, refused_memory}
use Rattle.charmlet_requests.proofs.Truth.{told-known}
use Rattle.charmlet_requests.proofs.Turns.{IsAnswered, answered, refused-same, repeat-of-words, lacks-memory, again-same, still-told, still-up_to_date}
use Rattle.charmlet_requests.proofs.asked.request.Goals as goal

-- the step by the pass's client and by what it was answered
asked-by : (old new : Core) (blanks : Blanks) (asking client number : ℕ) (to : Elem) (entry : ℕ) (words : List ℕ) (result answer : Result Told Refusal) → asking ≡ client → result ≡ answer →
    Steps old blanks (Request asking number to entry words) (record { answer = told_or_refused result; core = new; blanks = blanks }) →
    Steps old blanks (Request client number to entry words) (record { answer = told_or_refused answer; core = new; blanks = blanks })
asked-by old new blanks asking client number to entry words result answer same is steps =
    subst (λ n. Steps old blanks (Request n number to entry words) (record { answer = told_or_refused answer; core = new; blanks = blanks })) same
    (subst (λ (r : Result Told Refusal). Steps old blanks (Request asking number to entry words) (record { answer = told_or_refused r; core = new; blanks = blanks })) is steps)

-- where the history refuses the request
same-refused : (c : goal.After-from_residual) → core_in c.request.new.self ≡ core_in c.args.history.now
same-refused c =
    refused-same (core_in c.args.history.now) plenty c.args.pass.now.client c.args.request.now.number c.args.request.now.to c.args.request.now.entry c.args.request.now.words.now
    (core_in c.request.new.self) c.in_err-told.field-0.0
    (asked-by (core_in c.args.history.now) (core_in c.request.new.self) plenty c.client.result c.args.pass.now.client c.args.request.now.number c.args.request.now.to c.args.request.now.entry c.args.request.now.words.now
    c.request.result (Err c.in_err-told.field-0.0) c.client.ensures (c.in_err-told.was {u = tt}) (c.request.ensures.steps plenty))

pub returns-in_err-told-clause-heard : goal.returns-in_err-told-clause-heard
returns-in_err-told-clause-heard c =
    refused_heard c.args.pass.now c.args.pass.now (core_in c.args.history.now) (core_in c.request.new.self) c.args.request.now.number c.from_residual.result c.from_residual.ensures.0 (same-refused c) refl

pub returns-in_err-told-clause-up_to_date : goal.returns-in_err-told-clause-up_to_date
returns-in_err-told-clause-up_to_date c is = subst (IsUpToDate c.args.pass.now) (sym (same-refused c)) is

pub returns-in_err-told-clause-same : goal.returns-in_err-told-clause-same
returns-in_err-told-clause-same c = on_err c.from_residual.result (same-refused c)

-- ---- where the pass has no memory for what was told

told-then : (c : goal.Joined-told) (blanks : Blanks) → IsAnswered (core_in c.args.history.now) blanks c.args.pass.now.client c.args.request.now.number c.args.request.now.to c.args.request.now.entry c.args.request.now.words.now (core_in c.request.new.self) c.in_ok-told.told
told-then c blanks =
    answered (core_in c.args.history.now) blanks c.args.pass.now.client c.args.request.now.number c.args.request.now.to c.args.request.now.entry c.args.request.now.words.now (core_in c.request.new.self) c.in_ok-told.told
    (asked-by (core_in c.args.history.now) (core_in c.request.new.self) blanks c.client.result c.args.pass.now.client c.args.request.now.number c.args.request.now.to c.args.request.now.entry c.args.request.now.words.now
    c.request.result (Ok c.in_ok-told.told) c.client.ensures (c.in_ok-told.was {u = tt}) (c.request.ensures.steps blanks))

-- it has words, and so the request is a repeat
repeated : (c : goal.Joined-told) (blanks : Blanks) → is_repeat (core_in c.args.history.now) c.args.pass.now.client c.args.request.now.number ≡ true
repeated c blanks =
    let then = told-then c blanks in
    let has : has_words c.in_ok-told.told ≡ true = subst (λ r. OnErr r (has_words c.in_ok-told.told ≡ true)) (c.in_err-hear.was {u = tt}) c.hear.ensures.words in
    repeat-of-words (core_in c.args.history.now) blanks c.args.pass.now.client c.args.request.now.number c.args.request.now.to c.args.request.now.entry c.args.request.now.words.now
    c.facts.ensures.sound then.passes (ap has_words then.says ∙ has)

same-repeated : (c : goal.Joined-told) → core_in c.request.new.self ≡ core_in c.args.history.now
same-repeated c =
    let then = told-then c plenty in
    then.next ∙ again-same (core_in c.args.history.now) plenty c.args.pass.now.client c.args.request.now.number c.args.request.now.to c.args.request.now.entry c.args.request.now.words.now c.facts.ensures.sound then.passes (repeated c plenty)

same-pass : (c : goal.Joined-told) → c.hear.new.self ≡ c.args.pass.now
same-pass c = subst (λ r. OnErr r (c.hear.new.self ≡ c.args.pass.now)) (c.in_err-hear.was {u = tt}) c.hear.ensures.err

pub returns-in_err-hear-clause-steps : goal.returns-in_err-hear-clause-steps
returns-in_err-hear-clause-steps c blanks =
    let then = told-then c blanks in
    let steps = lacks-memory (core_in c.args.history.now) blanks c.args.pass.now.client c.args.request.now.number c.args.request.now.to c.args.request.now.entry c.args.request.now.words.now c.facts.ensures.sound then.passes (repeated c blanks) in
    subst (λ (core : Core). Steps (core_in c.args.history.now) blanks (Request c.args.pass.now.client c.args.request.now.number c.args.request.now.to c.args.request.now.entry c.args.request.now.words.now)
    (record { answer = told_or_refused c.from_residual-in_err-hear.result; core = core; blanks = blanks })) (sym then.next)
    (subst (λ (answer : CoreAnswer). Steps (core_in c.args.history.now) blanks (Request c.args.pass.now.client c.args.request.now.number c.args.request.now.to c.args.request.now.entry c.args.request.now.words.now)
    (record { answer = answer; core = next_core (core_in c.args.history.now) (Request c.args.pass.now.client c.args.request.now.number c.args.request.now.to c.args.request.now.entry c.args.request.now.words.now); blanks = blanks }))
    (sym (refused_memory c.from_residual-in_err-hear.result c.from_residual-in_err-hear.ensures.1)) steps)

pub returns-in_err-hear-clause-heard : goal.returns-in_err-hear-clause-heard
returns-in_err-hear-clause-heard c =
    refused_heard c.args.pass.now c.hear.new.self (core_in c.args.history.now) (core_in c.request.new.self) c.args.request.now.number c.from_residual-in_err-hear.result c.from_residual-in_err-hear.ensures.0 (same-repeated c) (same-pass c)

pub returns-in_err-hear-clause-up_to_date : goal.returns-in_err-hear-clause-up_to_date
returns-in_err-hear-clause-up_to_date c is =
    subst (λ (core : Core). IsUpToDate c.hear.new.self core) (sym (same-repeated c)) (subst (λ (p : Pass). IsUpToDate p (core_in c.args.history.now)) (sym (same-pass c)) is)

pub returns-in_err-hear-clause-same : goal.returns-in_err-hear-clause-same
returns-in_err-hear-clause-same c = on_err c.from_residual-in_err-hear.result (same-repeated c)

-- ---- where it is answered

steps-at : (c : goal.After-accept) → Steps (core_in c.args.history.now) plenty (Request c.args.pass.now.client c.args.request.now.number c.args.request.now.to c.args.request.now.entry c.args.request.now.words.now)
    (record { answer = Tells c.in_ok-told.told; core = core_in c.request.new.self; blanks = plenty })
steps-at c =
    asked-by (core_in c.args.history.now) (core_in c.request.new.self) plenty c.client.result c.args.pass.now.client c.args.request.now.number c.args.request.now.to c.args.request.now.entry c.args.request.now.words.now
    c.request.result (Ok c.in_ok-told.told) c.client.ensures (c.in_ok-told.was {u = tt}) (c.request.ensures.steps plenty)

told-at : (c : goal.After-accept) → IsAnswered (core_in c.args.history.now) plenty c.args.pass.now.client c.args.request.now.number c.args.request.now.to c.args.request.now.entry c.args.request.now.words.now (core_in c.request.new.self) c.in_ok-told.told
told-at c = answered (core_in c.args.history.now) plenty c.args.pass.now.client c.args.request.now.number c.args.request.now.to c.args.request.now.entry c.args.request.now.words.now (core_in c.request.new.self) c.in_ok-told.told (steps-at c)

no_less-at : (c : goal.After-accept) → IsTold c.args.pass.now (core_in c.args.history.now) →
    IsNoLess (known c.args.pass.now c.args.request.now.number) c.in_ok-told.told × IsNoLess c.in_ok-told.told (known c.accept.new.self c.args.request.now.number)
no_less-at c all =
    let then = told-at c in
    let before : IsNoLess (known c.args.pass.now c.args.request.now.number) c.in_ok-told.told =
    subst (IsNoLess (known c.args.pass.now c.args.request.now.number)) then.says (told-known (core_in c.args.history.now) c.facts.ensures.sound c.args.pass.now c.args.request.now.number all) in
    let heard : IsNoLess c.in_ok-told.told (known c.hear.new.self c.args.request.now.number) =
    subst (λ r. OnOk r (IsNoLess c.in_ok-told.told (known c.hear.new.self c.args.request.now.number))) (c.in_ok-hear.was {u = tt}) (c.hear.ensures.heard before) in
    (before, subst (λ (p : Pass). IsNoLess c.in_ok-told.told (known p c.args.request.now.number)) (sym c.accept.ensures) heard)

holds-at : (c : goal.After-accept) → IsTold c.args.pass.now (core_in c.args.history.now) → IsTold c.accept.new.self (core_in c.request.new.self)
holds-at c all =
    let old = core_in c.args.history.now in
    let then = told-at c in
    let client = c.args.pass.now.client in
    let told_true : Holds old.opening (take old.durable old.history) client c.args.request.now.number c.in_ok-told.told =
    told_durable old plenty (Request client c.args.request.now.number c.args.request.now.to c.args.request.now.entry c.args.request.now.words.now) (record { answer = Tells c.in_ok-told.told; core = core_in c.request.new.self; blanks = plenty })
    client c.args.request.now.number c.in_ok-told.told (refl, refl) (steps-at c) refl in
    let heard : IsTold c.hear.new.self old = c.hear.ensures.holds old c.facts.ensures.sound told_true all in
    let kept : IsTold c.accept.new.self old = subst (λ (p : Pass). IsTold p old) (sym c.accept.ensures) heard in
    let later : IsTold c.accept.new.self (next_core old (Request client c.args.request.now.number c.args.request.now.to c.args.request.now.entry c.args.request.now.words.now)) =
    still-told old plenty client c.args.request.now.number c.args.request.now.to c.args.request.now.entry c.args.request.now.words.now c.accept.new.self c.facts.ensures.sound kept in
    subst (IsTold c.accept.new.self) (sym then.next) later

pub returns-clause-heard : goal.returns-clause-heard
returns-clause-heard c = record {
  no_less = no_less-at c;
  kept = λ other. subst (λ (p : Pass). IsNoLess (known c.args.pass.now other) (known p other)) (sym c.accept.ensures) (c.hear.ensures.kept other);
  holds = holds-at c;
  err = tt;
}

pub returns-clause-up_to_date : goal.returns-clause-up_to_date
returns-clause-up_to_date c is =
    let old = core_in c.args.history.now in
    let then = told-at c in
    let client = c.args.pass.now.client in
    let heard_is : c.hear.new.self ≡ with_told c.args.pass.now c.args.request.now.number c.in_ok-told.told =
    subst (λ r. OnOk r (c.hear.new.self ≡ with_told c.args.pass.now c.args.request.now.number c.in_ok-told.told)) (c.in_ok-hear.was {u = tt}) c.hear.ensures.ok in
    let heard : IsUpToDate c.hear.new.self old = subst (λ (p : Pass). IsUpToDate p old) (sym heard_is) is in
    let own : c.hear.new.self.client ≡ client = ap (λ (p : Pass). p.client) heard_is in
    let later : IsUpToDate (with_accept c.hear.new.self c.args.request.now.number) (next_core old (Request client c.args.request.now.number c.args.request.now.to c.args.request.now.entry c.args.request.now.words.now)) =
    still-up_to_date old plenty client c.args.request.now.number c.args.request.now.to c.args.request.now.entry c.args.request.now.words.now c.hear.new.self own c.facts.ensures.sound then.passes heard in
    subst (λ (p : Pass). IsUpToDate p (core_in c.request.new.self)) (sym c.accept.ensures)
    (subst (IsUpToDate (with_accept c.hear.new.self c.args.request.now.number)) (sym then.next) later)
