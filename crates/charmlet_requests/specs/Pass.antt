-- What a client's pass holds.
use Rattle.std.specs.Prelude.{◌≡◌, ℕ, zero, suc, ◌+◌, ◌-◌, nat_lt, Bool, List, [], ◌∷◌, take, if◌then◌else◌, Result, IfOk, OnErr}
use Rattle.std.specs.List.{list_any}
use Rattle.std.specs.Ordering.{nat_cmp}
use Rattle.std.specs.BTreeMap.{is_at}
use Rattle.charmlet_model.specs.declared.refusal.Refusal.{Refusal}
use Rattle.charmlet_model.specs.declared.refusal.Refusal.TheVariants as refusals
use Rattle.charmlet_model.specs.declared.client.ClientRow.{ClientRow}
use Rattle.charmlet_model.specs.declared.told.Told.{Told}
use Rattle.charmlet_model.specs.Core.{Core, present}
use Rattle.charmlet_model.specs.Row.{no_client}
use Rattle.charmlet_model.specs.Told.{Holds, told_of}
use Rattle.charmlet_model.specs.World.{client_of}
use Rattle.charmlet_requests.specs.Knowing.{IsNoLess, heard}

-- A pass belongs to one client. Its accepts have the numbers after `lent_at` up to `last`, and it
-- knows what its client was told.
pub record Pass : Type 0 where
  pub client : ℕ
  pub lent_at : ℕ
  pub last : ℕ
  pub row : ClientRow

-- a pass that is lent to a client with this last number, and was told nothing
abbrev pub lent : ℕ → ℕ → Pass
lent client last = record { client = client; lent_at = last; last = last; row = no_client }

-- the highest answer that a pass was told about a request, or that follows from what it was told
abbrev pub known : Pass → ℕ → Told
known pass number = told_of pass.row number

-- the pass was told this about a request
abbrev pub with_told : Pass → ℕ → Told → Pass
with_told pass number told = record pass { row = heard pass.row number told }

-- the numbers after one number up to another
abbrev pub numbers_after : ℕ → ℕ → List ℕ
numbers_after from zero = []
numbers_after from (suc more) = (from + 1) ∷ numbers_after (from + 1) more

-- the numbers of its accepts, in order
abbrev pub accepts_of : Pass → List ℕ
accepts_of pass = numbers_after pass.lent_at (pass.last - pass.lent_at)

-- a request with a number above the last one was accepted
abbrev pub with_accept : Pass → ℕ → Pass
with_accept pass number = record pass {
  last = if nat_lt pass.last number then number
      else pass.last;
}

-- what the pass knows is true of the durable events
abbrev pub IsTold : Pass → Core → Type 0
IsTold pass core = (number : ℕ) →
    Holds core.opening (take core.durable core.history) pass.client number (known pass number)

-- the last number of the pass's client in the present world is the pass's own
abbrev pub IsUpToDate : Pass → Core → Type 0
IsUpToDate pass core = (client_of (present core) pass.client).last ≡ pass.last

-- The answer to a request or a question with this number by a pass. What is told is no less than
-- what the pass knew about it, and then the pass knows no less than that; it knows no less about
-- any request than before; what it knows stays true; and a refusal leaves it as it was.
pub record IsHeard (pass next : Pass) (core after : Core) (number : ℕ)
    (result : Result Told Refusal) : Type 0 where
  pub no_less : IsTold pass core →
      IfOk result (λ told. IsNoLess (known pass number) told × IsNoLess told (known next number))
  pub kept : (other : ℕ) → IsNoLess (known pass other) (known next other)
  pub holds : IsTold pass core → IsTold next after
  pub err : OnErr result (next ≡ pass)

-- ---- which passes are out

-- the client's pass is out
abbrev pub is_out : ℕ → List ℕ → Bool
is_out client out = list_any (is_at (nat_cmp client)) out

-- why a pass isn't lent
abbrev pub lending_refusal : ℕ → List ℕ → Refusal
lending_refusal client out = if is_out client out then refusals.PassOut else refusals.Memory
