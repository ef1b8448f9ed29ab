use Rattle.std.proofs.Common.{Bool, true, false, rules}
use Rattle.charmlet_model.specs.Core.{Core}
use Rattle.charmlet_history.specs.Kept.{core_in}
use Rattle.charmlet_recover.specs.declared.wanted.Wanted.{Wanted}
use Rattle.charmlet_engine.specs.Constructions.{AreConstructions}
use Rattle.charmlet_engine.specs.Restarted.{gone_on}
use Rattle.charmlet_engine.proofs.reopened.Reopened.constructions.Goals as goal

-- a store has the same world once it goes on
still_pending : (is_current : Bool) (core : Core) (wanted : Wanted) → AreConstructions core wanted → AreConstructions (gone_on is_current core) wanted
still_pending true core wanted are = are
still_pending false core wanted are = are

pub returns : goal.returns
returns g c =
    let core = core_in c.args.self.now.store.history in
    let are : AreConstructions core c.constructions_in.result = search rules in
    still_pending c.args.self.now.is_current core c.constructions_in.result are
