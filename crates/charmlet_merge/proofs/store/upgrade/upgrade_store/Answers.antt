use Rattle.std.proofs.Common.{◌≡◌, List, [], ap, ◌∙◌}
use Rattle.charmlet_model.specs.declared.event.Event.{Event}
use Rattle.charmlet_model.specs.Core.{Core, present}
use Rattle.charmlet_model.specs.KindVersion.{are_newest}
use Rattle.charmlet_model.specs.World.{world}
use Rattle.charmlet_history.specs.Kept.{core_in}
use Rattle.charmlet_model.specs.declared.kind.Kind.{Kind}
use Rattle.charmlet_stock.specs.declared.by_kind.ByKind.{ByKind}
use Rattle.charmlet_stock.specs.declared.pile.Tally.{Tally}
use Rattle.charmlet_stock.specs.ByKind.{at}
use Rattle.charmlet_store.specs.Store.{StoreShown}
use Rattle.charmlet_replay.proofs.Upgrades.{is_upgraded}
use Rattle.charmlet_merge.proofs.store.upgrade.upgrade_store.Goals as goal

pub upgrade-requires-clause-new : goal.upgrade-requires-clause-new
upgrade-requires-clause-new g c κs within = ap (λ (k : Core). k.history) c.requires.ready.opened

pub upgrade-requires-clause-unassigned : goal.upgrade-requires-clause-unassigned
upgrade-requires-clause-unassigned g c κs within = ap (λ (k : Core). k.assigned) c.requires.ready.opened

pub returns-clause-ok : goal.returns-clause-ok
returns-clause-ok g c = λ processors given s repeated.
    let old = c.args.store in
    let core = core_in old.history in
    let nothing : core.history ≡ [] = ap (λ (k : Core). k.history) repeated.ready.opened in
    let arrays = ap (λ (es : List Event). (world core.opening es).manifest) nothing in
    is_upgraded _ processors given s old c.upgrade.new.self c.is_newest-is_current.result repeated c.upgrade.ensures.core c.upgrade.ensures.census
    (c.is_newest-is_current.ensures ∙ ap are_newest (c.manifest.ensures ∙ ap (λ (s : StoreShown). (present (core_in s.history)).manifest) c.store.view_is ∙ arrays))

pub returns-clause-supplied : goal.returns-clause-supplied
returns-clause-supplied g c = ap (λ (v : ByKind Tally). λ (kind : Kind). (at v kind).supplied) c.upgrade.ensures.census
