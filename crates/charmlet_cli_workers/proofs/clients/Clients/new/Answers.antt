use Rattle.std.proofs.Common.{rules, ◌≡◌, ℕ, List, [], sym, subst}
use Rattle.charmlet_leases.specs.Passes.Passes.{HeldPass}
use Rattle.charmlet_cli_workers.specs.Heard.{AreTidy}
use Rattle.charmlet_cli_workers.proofs.Asking.{tidy_none}
use Rattle.charmlet_cli_workers.proofs.clients.Clients.new.Goals as goal

pub returns-clause-tidy : goal.returns-clause-tidy
returns-clause-tidy g c =
    let passes : c.new.result.items ≡ [] = search rules in
    let places : c.new-2.result.entries ≡ [] = search rules in
    subst (λ (p : List HeldPass × List (ℕ × ℕ)). AreTidy p.0 p.1) (λ i. (sym passes i, sym places i)) tidy_none
