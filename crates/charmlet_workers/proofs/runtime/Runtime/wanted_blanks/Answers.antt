use Rattle.std.proofs.Common.{◌≡◌, sym, ap, subst, ◌∙◌}
use Rattle.charmlet_model.specs.Core.{Core}
use Rattle.charmlet_history.specs.Wanting.{wanted_in}
use Rattle.charmlet_hub.specs.Hub.{HubShown}
use Rattle.charmlet_workers.specs.Runtime.{RuntimeShown, WasTrue}
use Rattle.charmlet_workers.proofs.Runtimes.{seen_at}
use Rattle.charmlet_workers.proofs.runtime.Runtime.wanted_blanks.Goals as goal

pub returns : goal.returns
returns g c =
    let is : c.deref-2.result.now.core ≡ c.deref.result.now.core = ap (λ (h : HubShown _). h.core) (c.deref-2.ensures ∙ sym c.deref.ensures) in
    let property = λ (core : Core). c.wanted_blanks.result ≡ wanted_in core c.args.kind in
    subst (λ (v : RuntimeShown). WasTrue v property) c.self.view_is
    (seen_at (record { of = record { of = c.facts.ensures.of; later = c.facts.ensures.later }; sound = c.facts.ensures.sound }) is property c.wanted_blanks.ensures)
