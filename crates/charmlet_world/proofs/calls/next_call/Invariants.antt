use Rattle.std.proofs.Common.{◌≡◌, take}
use Rattle.charmlet_world.specs.Envelopes.{calls_in}
use Rattle.charmlet_world.proofs.calls.next_call.Given as goal

-- what is passed has no calls
abbrev pub invariant-loop-end : goal.invariant-loop-end
invariant-loop-end l = record {
  same : calls_in l.to (take l.end l.envelopes.entries) ≡ calls_in l.to (take l.fn.end l.envelopes.entries);
  count : l.count ≡ l.fn.count;
}

abbrev pub decreases-loop-end : goal.decreases-loop-end
decreases-loop-end l = l.end
