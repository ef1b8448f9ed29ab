use Rattle.std.proofs.Common.{refl}
use Rattle.charmlet_halves.proofs.half_bytes.closed_gate.Goals as goal

pub returns-in-Closed-clause-closed : goal.returns-in-Closed-clause-closed
returns-in-Closed-clause-closed g c = λ honest.
    let gate = c.in-Closed.ensures (g.D.Disk.file c.args.disk.now c.args.half).now (c.in_ok-size.ensures.read honest) in
    (λ long. (gate.closed refl).1, gate)
