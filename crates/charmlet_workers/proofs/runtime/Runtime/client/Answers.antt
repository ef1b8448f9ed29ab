use Rattle.std.proofs.Common.{◌≡◌, ◌+◌, sym, ap, subst, ◌∙◌, length, arith}
use Rattle.std.specs.Prelude.{IfOk}
use Rattle.charmlet_model.specs.Core.{present}
use Rattle.charmlet_model.specs.World.{client_of}
use Rattle.charmlet_hub.specs.Hub.{HubShown}
use Rattle.charmlet_workers.specs.Runtime.{IsLent, RuntimeShown}
use Rattle.charmlet_workers.proofs.Refusals.{pass_refused}
use Rattle.charmlet_workers.proofs.Runtimes.{lent_if}
use Rattle.charmlet_workers.proofs.runtime.Runtime.client.Goals as goal

pub returns-clause-lent : goal.returns-clause-lent
returns-clause-lent g c =
    let hub = c.deref_mut.result.now in
    let before : hub.core.before ≡ g.B.RuntimeName.before = ap (λ (h : HubShown _). h.core.before) (c.deref_mut.ensures.value ∙ sym c.deref.ensures) ∙ c.facts.ensures.of.before_is in
    subst (λ (v : RuntimeShown). IfOk c.lend_pass.result (IsLent c.args.client v.before)) c.self.view_is
    (lent_if c.args.client g.B.RuntimeName.before (client_of (present hub.core) c.args.client).last (hub.core.before + length hub.core.history) c.lend_pass.result (omega (arith, before)) c.lend_pass.ensures.pass)

pub returns-clause-err : goal.returns-clause-err
returns-clause-err g c = pass_refused _ c.lend_pass.result c.lend_pass.ensures.err
