-- Elements that come back.
use Rattle.std.specs.Prelude.{◌≡◌, ℕ, ◌+◌, ◌-◌, ◌≤◌, ◌==◌, ◌||◌, nat_le, Bool, true, false, not, ◌&&◌, List, ◌∷◌, ◌++◌, length, is_some, None}
use Rattle.std.specs.BTreeMap.{is_at}
use Rattle.std.specs.List.{All}
use Rattle.std.specs.List.Sorted.{IsStrictlySortedBy}
use Rattle.std.specs.Map.{keys_of, lookup}
use Rattle.std.specs.Ordering.{nat_cmp}
use Rattle.charmlet_model.specs.declared.names.Elem.{Elem}
use Rattle.charmlet_model.specs.declared.kind.Kind.{Kind}
use Rattle.charmlet_model.specs.declared.logged.CatchUpEntry.{CatchUpEntry}
use Rattle.charmlet_model.specs.declared.logged.Effect.TheVariants.{Constructed, Destroyed, Stayed}
use Rattle.charmlet_model.specs.declared.logged.Effect.{Effect}
use Rattle.charmlet_model.specs.declared.TheConstants.{CONSTRUCT}
use Rattle.charmlet_model.specs.Reaction.{greatest}
use Rattle.charmlet_world.specs.declared.element.Element.{Element}
use Rattle.charmlet_model.specs.declared.state.Record.{Record}
use Rattle.charmlet_model.specs.Core.{Blanks}
use Rattle.charmlet_model.specs.Fit.{IsRecord}
use Rattle.charmlet_model.specs.Names.{elem_cmp}
use Rattle.charmlet_model.specs.World.{record_at}
use Rattle.charmlet_record.specs.Reading.{Kinds}
use Rattle.charmlet_recovery.specs.Bases.{is_skipped, reaction, redelivered_all}
use Rattle.charmlet_recovery.specs.Blanks.{array_is, constructs, made_by_catch_up, one_if}
use Rattle.charmlet_recovery.specs.Faults.{catch_up_tests, first_failure}
use Rattle.charmlet_chare.specs.declared.chare.Chare.{Ghosts}
use Rattle.charmlet_history.specs.Opened.{opened_elements}
use Rattle.charmlet_locate.specs.Locations.{is_processor_count}
use Rattle.charmlet_migrate.specs.Moving.{IsCountedAmong, IsIdle}
use Rattle.charmlet_stock.specs.ByKind.{for_all}
use Rattle.charmlet_stock.specs.Stock.{keeping_of}
use Rattle.charmlet_shard.specs.Home.{AreHome}
use Rattle.charmlet_shard.specs.declared.restored_shard.RestoredShard.{RestoredShard}

-- There are as many shelves as processors, and no delivery is under way; all objects that were
-- supplied are there, and retired ones are kept.
pub record IsHeld {C : Type 0} {G : Ghosts C} (r : RestoredShard C G) : Type 0 where
  pub processors : is_processor_count r.processors ≡ true
  pub count : length r.shelves.items ≡ r.processors
  pub idle : All IsIdle r.shelves.items
  pub census : IsCountedAmong r.shelves.items r.stock
  pub keeping : keeping_of r.stock ≡ for_all true

-- the elements with these records, which rise, came back: what is kept of each, and their objects
-- on the shelves of their homes
pub record IsRestored {C : Type 0} {G : Ghosts C} (records : List (Elem × Record))
    (r : RestoredShard C G) : Type 0 where
  pub rising : IsStrictlySortedBy elem_cmp (keys_of records)
  pub elements : r.elements.entries ≡ opened_elements r.processors records
  pub home : AreHome r.processors records r.shelves.items

-- each record is one of its array's kind version
abbrev pub AreGood : Kinds → List (Elem × Record) → Type 0
AreGood manifest records = (x : Elem) → IsRecord (lookup (is_at (nat_cmp x.array)) manifest)
    (record_at records x)

-- the blanks of a kind that the delivery takes, if it isn't skipped
abbrev pub taken_again : Kinds → List (Elem × Record) → CatchUpEntry → Kind → ℕ
taken_again manifest records d kind =
    one_if (not (is_skipped (record_at records d.message.to) d)
    && constructs (record_at records d.message.to)
    (reaction manifest (record_at records d.message.to) d.message)
    && array_is manifest kind d.message.to.array)

-- where it is written that the delivery constructs its receiver, there is a blank for that
abbrev pub HasBlankAgain : Blanks → Kinds → List (Elem × Record) → CatchUpEntry → Type 0
HasBlankAgain blanks manifest records d =
    (kind : Kind) → is_skipped (record_at records d.message.to) d ≡ false → d.effect ≡ Constructed →
    array_is manifest kind d.message.to.array ≡ true → 1 ≤ blanks kind

-- the records stay good up to each delivery that is reached
abbrev pub StayGood : Kinds → List (Elem × Record) → List CatchUpEntry → Type 0
StayGood manifest records deliveries =
    (earlier later : List CatchUpEntry) → deliveries ≡ earlier ++ later →
    first_failure (catch_up_tests manifest records earlier) ≡ None →
    AreGood manifest (redelivered_all manifest records earlier)

-- there are blanks for all that is written to be constructed, up to the first delivery that is at
-- fault
abbrev pub HasBlanksAgain : Blanks → Kinds → List (Elem × Record) → List CatchUpEntry → Type 0
HasBlanksAgain blanks manifest records deliveries =
    (earlier later : List CatchUpEntry) (d : CatchUpEntry) → deliveries ≡ earlier ++ d ∷ later →
    first_failure (catch_up_tests manifest records earlier) ≡ None →
    HasBlankAgain (λ kind. blanks kind - made_by_catch_up manifest kind records earlier) manifest
    (redelivered_all manifest records earlier) d

-- each delivery is made again, and nothing else changes
pub record AreRedelivered {C : Type 0} {G : Ghosts C} (manifest : Kinds)
    (records : List (Elem × Record)) (deliveries : List CatchUpEntry) (r : RestoredShard C G) : Type
    0 where
  pub pass : first_failure (catch_up_tests manifest records deliveries) ≡ None
  pub restored : IsRestored (redelivered_all manifest records deliveries) r

-- this is the number of the element's next delivery, and the element takes a message with this
-- entry
abbrev pub is_next : Element → ℕ → ℕ → Bool
is_next e received entry = (received == e.received + 1)
    && ((is_some e.place || (entry == CONSTRUCT)) && nat_le (e.received + 1) greatest
    && nat_le (e.sent + 16) greatest)

-- by whether the receiver was there before, and is there after
abbrev pub effect_of : Bool → Bool → Effect
effect_of false true = Constructed
effect_of true false = Destroyed
effect_of _ _ = Stayed
