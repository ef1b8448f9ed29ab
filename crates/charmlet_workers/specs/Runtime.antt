-- What is seen of a runtime, and what it opens with.
use Rattle.std.specs.Prelude.{◌≡◌, ℕ, zero, suc, ◌+◌, ◌≤◌, ◌==◌, ◌&&◌, Bool, false, List, [], length, map, if◌then◌else◌, Some, is_none}
use Rattle.std.specs.List.{AllByRecursion}
use Rattle.std.specs.Option.{option_map_or}
use Rattle.charmlet_model.specs.declared.kind.Kind.{Kind}
use Rattle.charmlet_model.specs.declared.names.Elem.{Elem}
use Rattle.charmlet_model.specs.declared.names.MsgId.{MsgId}
use Rattle.charmlet_model.specs.Core.{Core, place_of, present}
use Rattle.charmlet_model.specs.Shelves.{there_in}
use Rattle.charmlet_model.specs.Sound.{IsSound}
use Rattle.charmlet_model.specs.KindVersion.{kind_of_version}
use Rattle.charmlet_model.specs.Kind.{kind_number}
use Rattle.charmlet_model.specs.World.{World, version_of_array, record_of}
use Rattle.charmlet_disk.specs.declared.disk.Disk.{Ghosts}
use Rattle.charmlet_halves.specs.declared.halves.Halves.{Halves}
use Rattle.charmlet_halves.specs.Halves.{disk_of}
use Rattle.charmlet_history.specs.Kept.{assigned_message, core_in}
use Rattle.charmlet_persist.specs.Writes.Rest.{Agrees, IsCurrent, IsKept}
use Rattle.charmlet_leases.specs.Passes.Passes.{HeldPass, IsCurrent as IsCurrentPass, lent_since}
use Rattle.charmlet_sequencer.specs.Sequencer.{HasOpened}
use Rattle.charmlet_stock.specs.declared.by_kind.ByKind.{ByKind}
use Rattle.charmlet_stock.specs.declared.pile.Tally.{Tally}
use Rattle.charmlet_stock.specs.ByKind.{at, for_all}
use Rattle.charmlet_store.specs.declared.look.Look.{Look}
use Rattle.charmlet_store.specs.Look.{IsLook}
use Rattle.charmlet_store.specs.Store.{StoreShown}

-- the world with which it opened, how many events came before it, how many processors it has, and
-- the generation at which it opened
pub record RuntimeShown : Type 0 where
  pub opening : World
  pub before : ℕ
  pub processors : ℕ
  pub generation : ℕ

-- that of a runtime whose name has these
abbrev pub named : World → (before processors generation : ℕ) → RuntimeShown
named opening before processors generation = record {
  opening = opening;
  before = before;
  processors = processors;
  generation = generation;
}

-- that of a runtime that opens over a store with this core
abbrev pub shown_of : Core → RuntimeShown
shown_of core = named core.opening core.before core.processors core.generation

-- what the runtime's store is at some moment: sound, and gone on from the opening world, at no
-- earlier generation
pub record IsMoment (shown : RuntimeShown) (core : Core) : Type 0 where
  pub of : HasOpened shown.opening shown.before shown.processors shown.generation core
  pub sound : IsSound core

-- this was true of the store at a moment
pub record WasTrue (shown : RuntimeShown) (property : Core → Type 0) : Type 0 where
  pub core : Core
  pub moment : IsMoment shown core
  pub was : property core

-- at a moment so many messages were pending
abbrev pub ArePending : RuntimeShown → ℕ → Type 0
ArePending shown count = WasTrue shown (λ core. count ≡ length (present core).pending)

-- at a moment just these messages were pending, in order of arrival
abbrev pub ArePendingIds : RuntimeShown → List MsgId → Type 0
ArePendingIds shown ids = WasTrue shown (λ core. ids ≡ map (λ m. m.id) (present core).pending)

-- what is seen of the element was so at a moment
abbrev pub WasSeen : RuntimeShown → Elem → Look → Type 0
WasSeen shown x look = WasTrue shown (λ core. IsLook (place_of core x)
    (record_of (present core) x) look)

-- the element stood on the processor at a moment
abbrev pub StoodOn : RuntimeShown → Elem → ℕ → Type 0
StoodOn shown x processor = WasTrue shown (λ core. place_of core x ≡ Some processor)

-- at a moment the store had this generation, and all its events were durable
abbrev pub WasSealed : RuntimeShown → ℕ → Type 0
WasSealed shown generation = WasTrue shown (λ core. (core.generation ≡ generation)
    × (core.durable ≡ length core.history))

-- the delivery that is assigned to the processor constructs an object of the kind
abbrev pub brings_on : Core → Kind → ℕ → Bool
brings_on core kind processor = option_map_or (λ m. is_none (record_of (present core) m.to).state
    && option_map_or (λ kind_version. kind_number (kind_of_version kind_version) ==
    kind_number kind)
    (version_of_array (present core) m.to.array) false) (assigned_message core processor) false

-- how many such objects come on the first processors
abbrev pub coming_on : Core → Kind → ℕ → ℕ
coming_on core kind zero = 0
coming_on core kind (suc n) = coming_on core kind n + (if brings_on core kind n then 1 else 0)

-- The tally of a kind's objects: for each element that is there one is on a shelf, and for each
-- delivery under way that constructs one. All others that were supplied are in the stock or
-- retired.
abbrev pub IsTallyOf : Core → Kind → Tally → Type 0
IsTallyOf core kind tally = tally.supplied ≡ there_in (present core).records kind
    + coming_on core kind core.processors + tally.in_stock + tally.retired

-- the objects of each kind were so many at a moment
abbrev pub WereCounted : RuntimeShown → ByKind Tally → Type 0
WereCounted shown census = WasTrue shown (λ core. (kind : Kind) →
    IsTallyOf core kind (at census kind))

-- At a moment all events were durable, and they were so many, with those before the opening world.
-- Each of these passes was current then: it was lent after no more events than these, and had its
-- client's accepts among them, and no others; and all that its client was told is true of them.
pub record AreFlushed (shown : RuntimeShown) (passes : List HeldPass) (count : ℕ) : Type 0 where
  pub core : Core
  pub moment : IsMoment shown core
  pub durable : core.durable ≡ length core.history
  pub counted : count ≡ core.before + length core.history
  pub current : AllByRecursion (λ held. IsCurrentPass held core) passes

-- the pass was lent to the client after at least so many events, and was told nothing yet
pub record IsLent (client before : ℕ) (held : HeldPass) : Type 0 where
  pub last : ℕ
  pub new : held ≡ lent_since client last held.since
  pub since : before ≤ held.since

module _ {D : Type 0} {G : Ghosts D} where
  -- Nothing has happened in the store since it opened. Its stock drops what is retired; the halves
  -- go on where the store does; and on an honest disk each crash keeps what is durable, and events
  -- may be appended unless the store is halted.
  pub record IsReady (store : StoreShown) (halves : Halves D G) : Type 0 where
    pub no_events : (core_in store.history).history ≡ []
    pub unassigned : (core_in store.history).assigned ≡ []
    pub dropping : store.keeping ≡ for_all false
    pub agrees : Agrees (core_in store.history) halves
    pub kept : G.honest (disk_of halves) → IsKept (core_in store.history) halves
    pub current : G.honest (disk_of halves) → (core_in store.history).halted ≡ false →
        IsCurrent halves
