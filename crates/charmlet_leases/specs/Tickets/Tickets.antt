-- A queue whose tickets all name one processor.
use Rattle.std.specs.Prelude.{◌≡◌, ℕ, ◌⊎◌, List, [], ◌∷◌, Option, Some, None}
use Rattle.std.specs.List.{AllByRecursion}
use Rattle.charmlet_leases.specs.declared.tickets.rule.Ticket.{Ticket}

-- each ticket names the processor
abbrev pub AreFor : ℕ → List Ticket → Type 0
AreFor processor tickets = AllByRecursion (λ (t : Ticket). t.processor ≡ processor) tickets

-- each token of the queue knows the processor
abbrev pub AllKnow : ℕ → List (Option ℕ) → Type 0
AllKnow processor tokens = AllByRecursion (λ (known : Option ℕ). known ≡ Some processor) tokens

-- The queue is new: it has no ticket, and one token, which knows no processor yet. Or each ticket
-- names the processor that each token knows.
abbrev pub HasOneProcessor : List Ticket → List (Option ℕ) → Type 0
HasOneProcessor tickets tokens = ((tickets ≡ []) × (tokens ≡ None ∷ []))
    ⊎ ((processor : ℕ) × AreFor processor tickets × AllKnow processor tokens)
