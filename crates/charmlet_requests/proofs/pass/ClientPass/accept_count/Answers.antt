use Rattle.std.proofs.Common.{◌≡◌, ◌-◌, length, subst}
use Rattle.charmlet_requests.specs.Pass.{Pass, accepts_of}
use Rattle.charmlet_requests.proofs.Numbers.{length-numbers_after}
use Rattle.charmlet_requests.proofs.pass.ClientPass.accept_count.Goals as goal

pub returns-clause-count : goal.returns-clause-count
returns-clause-count c =
    let count = c.self.inside.last - c.self.inside.lent_at in
    subst (λ (p : Pass). count ≡ length (accepts_of p)) c.self.view_is (length-numbers_after c.self.inside.lent_at count)
