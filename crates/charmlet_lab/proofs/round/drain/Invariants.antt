use Rattle.std.proofs.Common.{◌≡◌, ◌-◌, false}
use Rattle.charmlet_model.specs.Run.{StoreView}
use Rattle.charmlet_engine.specs.Advances.{Advances}
use Rattle.charmlet_engine.specs.Engine.{core_of, view_of}
use Rattle.charmlet_lab.specs.Lines.{Drains}
use Rattle.charmlet_lab.specs.Rounds.{HaltsByFailure}
use Rattle.charmlet_lab.proofs.round.drain.Given as goal

-- the engine went on, and isn't halted, as its disk didn't fail; and once the rest is drained, all
-- is
abbrev pub invariant-loop : goal.invariant-loop
invariant-loop g l =
    Advances g.D.Disk l.initial.engine l.engine
    × ((last : StoreView) → Drains (l.most - l.counter) (view_of l.engine) last
    → Drains l.most (view_of l.initial.engine) last)
    × ((core_of l.initial.engine).halted ≡ false → (core_of l.engine).halted ≡ false)
    × HaltsByFailure g.D.Disk l.initial.engine l.engine
