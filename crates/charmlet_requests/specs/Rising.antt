-- What is told rises with the history.
use Rattle.std.specs.Prelude.{◌≡◌, ℕ, ◌-◌, List, [], ◌∷◌, ◌++◌, ◌==◌, if◌then◌else◌}
use Rattle.charmlet_model.specs.declared.event.Event.{Event}
use Rattle.charmlet_model.specs.declared.event.Event.TheVariants.{Accept, Deliver}
use Rattle.charmlet_model.specs.declared.told.Told.{Told}
use Rattle.charmlet_model.specs.Fit.{IsFit}
use Rattle.charmlet_model.specs.Told.{Holds, told}
use Rattle.charmlet_model.specs.World.{World, world, client_of, IsLegal}
use Rattle.charmlet_requests.specs.Knowing.{IsNoLess}
use Rattle.charmlet_requests.specs.Pass.{numbers_after}

-- after any legal events, a client is told no less about a request than before, and no other words
abbrev pub ToldRises : Type 0
ToldRises = (w : World) (before : ℕ) (history more : List Event) (client number : ℕ) →
    IsFit w → IsLegal w before (history ++ more) → IsNoLess (told (world w history) client number)
    (told (world w (history ++ more)) client number)

-- what is true of a legal history is no more than what a client is told after it
abbrev pub TruthIsTold : Type 0
TruthIsTold = (w : World) (before : ℕ) (history : List Event) (client number : ℕ) (earlier : Told) →
    IsFit w → IsLegal w before history → Holds w history client number earlier →
    IsNoLess earlier (told (world w history) client number)

-- the numbers of a client's accepts among these events
abbrev pub accepted_by : ℕ → List Event → List ℕ
accepted_by client [] = []
accepted_by client (Deliver id ∷ events) = accepted_by client events
accepted_by client (Accept asking number to entry words ∷ events) =
    if asking == client then number ∷ accepted_by client events else accepted_by client events

-- in a legal history the numbers of a client's accepts are those after its last one before it, up
-- to its last one after it
abbrev pub AcceptsAreNumbered : Type 0
AcceptsAreNumbered = (w : World) (before : ℕ) (history : List Event) (client : ℕ) →
    IsLegal w before history →
    accepted_by client history ≡ numbers_after (client_of w client).last
    ((client_of (world w history) client).last - (client_of w client).last)
