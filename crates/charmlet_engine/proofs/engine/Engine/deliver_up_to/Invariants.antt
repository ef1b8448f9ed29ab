use Rattle.std.proofs.Common.{◌≡◌}
use Rattle.charmlet_engine.specs.Advances.{Advances}
use Rattle.charmlet_engine.specs.Delivering.{Drains}
use Rattle.charmlet_engine.specs.Engine.{supplied_of, view_of}
use Rattle.charmlet_engine.proofs.engine.Engine.deliver_up_to.Given as goal

-- so many were delivered
abbrev pub invariant-loop-count : goal.invariant-loop-count
invariant-loop-count g l = Drains (view_of l.fn.self) l.count (view_of l.self) × (supplied_of l.self ≡ supplied_of l.fn.self) × (l.self.disk ≡ l.fn.self.disk)
    × Advances g.D.Disk l.fn.self l.self
