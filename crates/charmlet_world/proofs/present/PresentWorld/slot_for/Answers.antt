use Rattle.std.proofs.Common.{ap, ◌∙◌}
use Rattle.std.specs.Prelude.{Result, Ok, Err, OnOk}
use Rattle.charmlet_world.specs.Changed.{with_entry}
use Rattle.charmlet_world.specs.Seen.{Held, seen}
use Rattle.charmlet_world.specs.Standing.{risen}
use Rattle.charmlet_world.proofs.present.PresentWorld.slot_for.Goals as goal

-- what follows where it is done, follows of what holds where it is done
when_ok : {T E : Type 0} {P Q : Type 0} (result : Result T E) → OnOk result P → (P → Q) → OnOk result Q
when_ok (Ok x) p f = f p
when_ok (Err e) p f = tt

pub returns-clause-seen : goal.returns-clause-seen
returns-clause-seen c =
    let own = c.self.inside in
    when_ok c.slot_for.result c.slot_for.ensures.risen (λ more.
    (λ i. record { manifest = own.manifest; processors = c.slot_for.ensures.processors i; elements = more i; pending = c.slot_for.ensures.pending i; clients = own.clients.entries })
    ∙ ap (λ (h : Held). record (seen h) { elements = with_entry (risen h.rows) c.args.elem }) c.self.view_is)
