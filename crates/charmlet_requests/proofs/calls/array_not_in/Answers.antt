use Rattle.std.proofs.Common.{◌≤◌, length, arith}
use Rattle.std.specs.Map.{keys_of}
use Rattle.charmlet_requests.proofs.Gaps.{all-low, count-of-all}
use Rattle.charmlet_requests.proofs.calls.array_not_in.Goals as goal

-- otherwise there would be 65 arrays
pub unreachable-requires : goal.unreachable-requires
unreachable-requires c =
    let manifest = c.args.manifest.now in
    let few = c.requires.few in
    let past = c.loop-array-test.false in
    let all : 65 ≤ length manifest =
    count-of-all manifest 0 65 c.requires.rising (all-low (keys_of manifest)) (λ k low within. c.loop-array.invariant k (omega arith)) in
    omega arith
