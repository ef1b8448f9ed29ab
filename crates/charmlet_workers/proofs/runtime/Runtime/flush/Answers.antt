use Rattle.std.proofs.Common.{◌≡◌, sym, subst}
use Rattle.std.specs.Prelude.{IfOk}
use Rattle.charmlet_model.specs.Core.{Flush}
use Rattle.charmlet_model.specs.Run.{Goes}
use Rattle.charmlet_history.specs.Kept.{counts_or_refused}
use Rattle.charmlet_leases.specs.Passes.Passes.{TellAll}
use Rattle.charmlet_hub.specs.Hub.{HubShown, store_in}
use Rattle.charmlet_workers.specs.Runtime.{AreFlushed, RuntimeShown, named}
use Rattle.charmlet_workers.proofs.Flushing.{flushed_if}
use Rattle.charmlet_workers.proofs.runtime.Runtime.flush.Goals as goal

pub returns-clause-flushed : goal.returns-clause-flushed
returns-clause-flushed g c =
    let hub = c.deref_mut.result.now in
    let next = c.deref-2.result.now in
    let told = c.flush-flushed in
    let facts = c.facts-2.ensures in
    let same : told.new.self ≡ next = sym c.deref-2.ensures in
    let goes = subst (λ (h : HubShown _). Goes (store_in hub) Flush (counts_or_refused told.result) (store_in h)) same told.ensures.goes in
    let kept = subst (λ (h : HubShown _). IfOk told.result (λ count. TellAll count hub.passes c.args.passes.now h.passes)) same told.ensures.kept in
    subst (λ (v : RuntimeShown). IfOk told.result (AreFlushed v told.new.passes)) c.self.view_is
    (flushed_if (named g.B.RuntimeName.opening g.B.RuntimeName.before g.B.RuntimeName.processors g.B.RuntimeName.generation) hub next c.args.passes.now told.new.passes told.result (record { of = record { of = facts.of; later = facts.later }; sound = facts.sound }) goes kept told.ensures.told
    facts.hub.passes.each)
