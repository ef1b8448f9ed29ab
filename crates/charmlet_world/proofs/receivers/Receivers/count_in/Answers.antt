use Rattle.std.proofs.Common.{◌+◌, ap, ◌∙◌}
use Rattle.charmlet_world.specs.declared.receivers.Receiver.{Receiver}
use Rattle.charmlet_world.specs.Envelopes.{Received, receiver_in}
use Rattle.charmlet_world.proofs.Receiving.{other_changed, own_changed, value_is}
use Rattle.charmlet_world.proofs.receivers.Receivers.count_in.Goals as goal

pub returns-clause-count : goal.returns-clause-count
returns-clause-count c =
    let x = c.args.elem in
    let es = c.self.inside.table.entries in
    let mid = c.index_for-index.new.table.entries in
    let w : Receiver = record { count = c.at-receiver.result.count + 1; youngest = c.args.seq } in
    let found = c.index_for-index.ensures.found in
    let was = value_is x (receiver_in es x) c.at-receiver.result mid c.index_for-index.result found c.at-receiver.ensures in
    ap (λ (r : Receiver). r.count) (own_changed x w mid c.set.new.table.entries (λ y. c.set.ensures.changed x y (receiver_in es x) found))
    ∙ ap (λ (r : Receiver). r.count + 1) was ∙ ap (λ (r : Received). (receiver_in r.entries x).count + 1) c.self.view_is

pub returns-clause-youngest : goal.returns-clause-youngest
returns-clause-youngest c =
    let x = c.args.elem in
    let es = c.self.inside.table.entries in
    let mid = c.index_for-index.new.table.entries in
    let w : Receiver = record { count = c.at-receiver.result.count + 1; youngest = c.args.seq } in
    ap (λ (r : Receiver). r.youngest) (own_changed x w mid c.set.new.table.entries (λ y. c.set.ensures.changed x y (receiver_in es x) c.index_for-index.ensures.found))

pub returns-clause-others : goal.returns-clause-others
returns-clause-others c = λ y other.
    let x = c.args.elem in
    let es = c.self.inside.table.entries in
    let mid = c.index_for-index.new.table.entries in
    let w : Receiver = record { count = c.at-receiver.result.count + 1; youngest = c.args.seq } in
    other_changed x y w mid c.set.new.table.entries (λ z. c.set.ensures.changed x z (receiver_in es x) c.index_for-index.ensures.found) other
    ∙ c.index_for-index.ensures.same y ∙ ap (λ (r : Received). receiver_in r.entries y) c.self.view_is
