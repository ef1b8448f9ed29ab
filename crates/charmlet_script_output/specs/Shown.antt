-- What lines show of a store.
use Rattle.std.specs.Prelude.{◌≡◌, ℕ, ◌+◌, List, [], ◌∷◌, nat_lt, if◌then◌else◌, Option, Some, None}
use Rattle.hex.specs.Hex.{encode_lower}
use Rattle.charmlet_model.specs.declared.kind.Kind.{Kind}
use Rattle.charmlet_model.specs.declared.kind.Kind.TheVariants as kinds
use Rattle.charmlet_model.specs.declared.names.Elem.{Elem}
use Rattle.charmlet_model.specs.declared.state.Record.{Record}
use Rattle.charmlet_model.specs.declared.state.State.{State}
use Rattle.charmlet_model.specs.Core.{present}
use Rattle.charmlet_model.specs.Packed.{pupped}
use Rattle.charmlet_model.specs.Run.{StoreView}
use Rattle.charmlet_model.specs.Texts.{Text}
use Rattle.charmlet_script.specs.declared.printed.Counted.{Counted}
use Rattle.charmlet_script.specs.Printed.{absent_text, counted_text, standing_text}
use Rattle.charmlet_store.specs.declared.look.Look.{Look}
use Rattle.charmlet_store.specs.declared.look.Standing.{Standing}
use Rattle.charmlet_store.specs.Census.{census_in}
use Rattle.charmlet_store.specs.There.{there_of}
use Rattle.charmlet_engine.specs.Engine.{EngineShown}

-- an element on this processor, if it is there, with this state and these counts; the digits are
-- those of its packed state
abbrev pub state_text : Elem → (processor : ℕ) → Option State → (sent received : ℕ) → Text
state_text elem processor None sent received = absent_text elem sent received
state_text elem processor (Some state) sent received =
    standing_text elem processor sent received (encode_lower (pupped state))

-- an element of which this is seen
abbrev pub standing_texts : Elem → Option Standing → (sent received : ℕ) → Text
standing_texts elem None sent received = absent_text elem sent received
standing_texts elem (Some standing) sent received =
    standing_text elem standing.processor sent received (encode_lower standing.packed.items)

abbrev pub look_text : Elem → Look → Text
look_text elem look = standing_texts elem look.standing look.sent look.received

-- an element on this processor, if it is there, with this record
abbrev pub record_text : Elem → (processor : ℕ) → Record → Text
record_text elem processor r = state_text elem processor r.state r.sent r.received

-- the kinds, rising
abbrev pub all_kinds : List Kind
all_kinds = kinds.Counter ∷ kinds.Ring ∷ kinds.Account ∷ kinds.Sum ∷ kinds.Tree ∷ kinds.Tape ∷ []

-- the numbers of a kind: those on shelves are the elements that are there, and those in the stock
-- its blanks
abbrev pub counted_in : StoreView → (supplied retired : Kind → ℕ) → Kind → Counted
counted_in store supplied retired kind = record {
  kind = kind;
  supplied = supplied kind;
  on_shelves = there_of (present store.core) kind;
  in_stock = store.blanks kind;
  retired = retired kind;
}

-- the numbers of a kind that an engine counts
abbrev pub counted_of : {D : Type 0} → EngineShown D → Kind → Counted
counted_of engine kind = record {
  kind = kind;
  supplied = (census_in engine.store kind).supplied;
  on_shelves = (census_in engine.store kind).on_shelves;
  in_stock = (census_in engine.store kind).in_stock;
  retired = (census_in engine.store kind).retired;
}

-- what was supplied is on shelves, in the stock, or retired
abbrev pub IsWhole : Counted → Type 0
IsWhole counted = counted.supplied ≡ counted.on_shelves + counted.in_stock + counted.retired

-- the line of a kind, if objects of it were supplied
abbrev pub counted_texts : Counted → List Text
counted_texts counted = if nat_lt 0 counted.supplied then counted_text counted ∷ [] else []
