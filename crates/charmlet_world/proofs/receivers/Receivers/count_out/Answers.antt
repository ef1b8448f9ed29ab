use Rattle.std.proofs.Common.{◌≡◌, ◌-◌, ap, ◌∙◌, arith}
use Rattle.charmlet_world.specs.declared.receivers.Receiver.{Receiver}
use Rattle.charmlet_world.specs.Envelopes.{Received, receiver_in}
use Rattle.charmlet_world.proofs.Receiving.{other_changed, own_changed, value_is}
use Rattle.charmlet_world.proofs.receivers.Receivers.count_out.Goals as goal

pub returns-clause-count : goal.returns-clause-count
returns-clause-count c =
    let x = c.args.elem in
    let es = c.self.inside.table.entries in
    let w : Receiver = record { count = c.at-receiver.result.count - 1; youngest = c.at-receiver.result.youngest } in
    let found = c.in-Some.ensures.found in
    let was = value_is x (receiver_in es x) c.at-receiver.result es c.in-Some.index found c.at-receiver.ensures in
    let counted : c.at-receiver.result.count ≡ (receiver_in c.args.self.now.entries x).count = ap (λ (r : Receiver). r.count) was ∙ ap (λ (r : Received). (receiver_in r.entries x).count) c.self.view_is in
    let less : (receiver_in c.set.new.table.entries x).count ≡ c.at-receiver.result.count - 1 = ap (λ (r : Receiver). r.count) (own_changed x w es c.set.new.table.entries (λ y. c.set.ensures.changed x y (receiver_in es x) found)) in
    omega (arith, counted, less, c.requires)

pub returns-clause-youngest : goal.returns-clause-youngest
returns-clause-youngest c =
    let x = c.args.elem in
    let es = c.self.inside.table.entries in
    let w : Receiver = record { count = c.at-receiver.result.count - 1; youngest = c.at-receiver.result.youngest } in
    let found = c.in-Some.ensures.found in
    let was = value_is x (receiver_in es x) c.at-receiver.result es c.in-Some.index found c.at-receiver.ensures in
    ap (λ (r : Receiver). r.youngest) (own_changed x w es c.set.new.table.entries (λ y. c.set.ensures.changed x y (receiver_in es x) found))
    ∙ ap (λ (r : Receiver). r.youngest) was ∙ ap (λ (r : Received). (receiver_in r.entries x).youngest) c.self.view_is

pub returns-clause-others : goal.returns-clause-others
returns-clause-others c = λ y other.
    let x = c.args.elem in
    let es = c.self.inside.table.entries in
    let w : Receiver = record { count = c.at-receiver.result.count - 1; youngest = c.at-receiver.result.youngest } in
    other_changed x y w es c.set.new.table.entries (λ z. c.set.ensures.changed x z (receiver_in es x) c.in-Some.ensures.found) other
    ∙ ap (λ (r : Received). receiver_in r.entries y) c.self.view_is
