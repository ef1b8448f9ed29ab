use Rattle.std.proofs.Common.{◌≡◌, ◌≤◌, ◌++◌, map, take, drop}
use Rattle.std.specs.List.{AllByRecursion}
use Rattle.charmlet_history.specs.Kept.{core_in}
use Rattle.charmlet_leases.specs.Passes.Passes.{AreCurrent, HeldPass, LentPasses, TellAll, event_count, with_flush}
use Rattle.charmlet_leases.proofs.passes.table.PassTable.tell.Given as goal

abbrev pub invariant-loop-i : goal.invariant-loop-i
invariant-loop-i g l =
    AreCurrent l.self (core_in l.fn.history)
    × (l.self.out ≡ l.initial.self.out)
    × (l.passes ≡ map (with_flush (event_count (core_in l.fn.history))) (take l.i l.fn.passes) ++ drop l.i l.fn.passes)
    × ((last : LentPasses) → TellAll (event_count (core_in l.fn.history)) l.self (drop l.i l.fn.passes) last → TellAll (event_count (core_in l.fn.history)) l.initial.self l.fn.passes last)
    × AllByRecursion (λ (held : HeldPass). held.flushed ≤ event_count (core_in l.fn.history)) (take l.i l.fn.passes)
