use Rattle.std.proofs.Common.{◌≡◌, ℕ, ◌+◌, ◌-◌, ◌++◌, length, ◌∙◌, ap, arith}
use Rattle.std.proofs.lemmas.List.{length-append}
use Rattle.charmlet_model.specs.Row.{below}
use Rattle.charmlet_world.specs.Client.Client.{Rows, shown}
use Rattle.charmlet_world.proofs.ClientLemmas.ShownLemmas.{length-shown}
use Rattle.charmlet_world.proofs.client.client.Client.durable_below.Goals as goal

pub returns : goal.returns
returns c =
    let own = c.self.inside in
    let parts = length-append own.dropped (shown own.durable.items own.present.window) in
    let shared = length-shown own.durable.items own.present.window c.self.invariant.shared in
    let first = c.len.ensures.count in
    let second = c.len-2.ensures.value in
    let count : c.len.result + c.len-2.result ≡ length (own.dropped ++ shown own.durable.items own.present.window) = omega arith in
    c.saturating_sub.ensures ∙ ap (λ (n : ℕ). own.durable_last - n) count ∙ ap (λ (r : Rows). below r.durable) c.self.view_is
