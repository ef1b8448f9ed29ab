use Rattle.std.proofs.Common.{ℕ, ◌<◌, ◌≤◌, List, ap, subst, ◌∙◌}
use Rattle.charmlet_model.specs.declared.names.Elem.{Elem}
use Rattle.charmlet_model.specs.World.{record_at}
use Rattle.charmlet_parallel_replay.specs.Image.Counts.{count_at}
use Rattle.charmlet_parallel_replay.proofs.ImageLemmas.Counting.{noted, passed_over}
use Rattle.charmlet_parallel_replay.proofs.image.counts.note_received.Goals as goal

pub returns-then-delivery-received_by-clause-noted : goal.returns-then-delivery-received_by-clause-noted
returns-then-delivery-received_by-clause-noted c = λ records are.
    let d = c.args.delivery.now in
    let less : d.received ≤ (record_at records d.message.to).received = subst (λ n. d.received ≤ n) (c.received_by.ensures ∙ are d.message.to) c.if-delivery-received_by.true in
    passed_over c.args.counts.now.entries c.args.elements.now.entries records d are less

pub returns-clause-noted : goal.returns-clause-noted
returns-clause-noted c = λ records are x.
    let d = c.args.delivery.now in
    let elements = c.args.elements.now.entries in
    let less : (record_at records d.message.to).received < d.received = subst (λ n. n < d.received) (c.received_by.ensures ∙ are d.message.to) c.if-delivery-received_by.false in
    ap (λ (es : List (Elem × ℕ)). count_at es elements x) c.in_ok-insert.ensures.entries ∙ noted c.args.counts.now.entries elements records d are less x
