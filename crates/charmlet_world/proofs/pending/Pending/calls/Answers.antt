use Rattle.std.proofs.Common.{◌≤◌, sym, ap, subst, ◌∙◌, length}
use Rattle.std.specs.List.{AllByRecursion}
use Rattle.charmlet_ready_queue.specs.declared.index.chain.Call.{Call}
use Rattle.charmlet_world.specs.declared.receivers.Receiver.{Receiver}
use Rattle.charmlet_world.specs.Envelopes.{calls_in}
use Rattle.charmlet_world.specs.Tied.{calls_down}
use Rattle.charmlet_world.specs.Waiting.{Waiting}
use Rattle.charmlet_world.proofs.Enveloped.{calls_are, calls_before}
use Rattle.charmlet_world.proofs.pending.Pending.calls.Goals as goal

pub new-requires : goal.new-requires
new-requires c =
    let es = c.self.inside.envelopes.entries in
    let to = c.args.to in
    let rec = c.receiver-receiver.ensures in
    let counted = c.self.invariant.counted to in
    let young : AllByRecursion (λ (d : Call). d.number ≤ c.receiver-receiver.result.youngest) (calls_in to es) = subst (λ (r : Receiver). AllByRecursion (λ (d : Call). d.number ≤ r.youngest) (calls_in to es)) (sym rec) counted.youngest in
    ap (λ (r : Receiver). r.count) rec ∙ counted.count ∙ ap length (calls_before to c.receiver-receiver.result.youngest c.end_of-end.result es young c.end_of-end.ensures)

pub returns : goal.returns
returns c =
    let es = c.self.inside.envelopes.entries in
    let to = c.args.to in
    let rec = c.receiver-receiver.ensures in
    let counted = c.self.invariant.counted to in
    let young : AllByRecursion (λ (d : Call). d.number ≤ c.receiver-receiver.result.youngest) (calls_in to es) = subst (λ (r : Receiver). AllByRecursion (λ (d : Call). d.number ≤ r.youngest) (calls_in to es)) (sym rec) counted.youngest in
    c.new.ensures ∙ sym (calls_before to c.receiver-receiver.result.youngest c.end_of-end.result es young c.end_of-end.ensures) ∙ calls_are to es
    ∙ ap (λ (w : Waiting). calls_down to w.seq_nos w.messages) c.self.view_is
