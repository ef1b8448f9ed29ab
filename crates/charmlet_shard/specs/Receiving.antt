-- A delivery that is made again on the shelf of its receiver.
use Rattle.std.specs.Prelude.{◌≡◌, ℕ, Bool, true, false, List, is_some, if◌then◌else◌, Option, Some, None, IfSome, option_and_then, option_map}
use Rattle.std.specs.BTreeMap.{insert_entry, is_at}
use Rattle.std.specs.Map.{lookup}
use Rattle.charmlet_model.specs.declared.names.Elem.{Elem}
use Rattle.charmlet_model.specs.declared.message.Message.{Message}
use Rattle.charmlet_model.specs.declared.kind_version.KindVersion.{KindVersion}
use Rattle.charmlet_model.specs.declared.state.Record.{Record}
use Rattle.charmlet_model.specs.Names.{elem_cmp}
use Rattle.charmlet_model.specs.Reaction.{kind_version_of, react}
use Rattle.charmlet_world.specs.declared.element.Element.{Element}
use Rattle.charmlet_world.specs.Seen.{IsCountedBy}
use Rattle.charmlet_history.specs.Opened.{opened_element}
use Rattle.charmlet_model.specs.World.{advanced, record_at}
use Rattle.charmlet_shard.specs.Home.{AreHome}
use Rattle.charmlet_image.specs.declared.entries.Entry.{Entry}
use Rattle.charmlet_model.specs.Unpacked.{state_at}
use Rattle.charmlet_model.specs.declared.reaction.Reaction.{Reaction}
use Rattle.charmlet_chare.specs.Output.{output_of}
use Rattle.charmlet_chare.specs.declared.output.Output.{Output}
use Rattle.charmlet_shelf.specs.Due.{Due, reaction_in, record_after}
use Rattle.charmlet_shelf.specs.Shelf.{View, with_record}
use Rattle.charmlet_shelf.specs.declared.phase.Phase.TheVariants.{Idle}

-- what a shelf's records and the counts that are kept say of an element
abbrev pub seen_record : List (Elem × Record) → Elem → Element → Record
seen_record records x e = record {
  state = option_and_then (λ r. r.state)
      (lookup (is_at (elem_cmp x)) records);
  sent = e.sent;
  received = e.received;
}

-- the records are those of objects: an element that has one is there
abbrev pub IsSeenRecord : KindVersion → Element → Record → Type 0
IsSeenRecord kind_version e r = IsCountedBy r e × (is_some r.state ≡ is_some e.place)
    × IfSome r.state (λ s. kind_version_of s ≡ kind_version)

-- the element has this place and these counts; where it is there it stands on the shelf, and its
-- object is of the kind version
pub record IsSeen (records : List (Elem × Record)) (x : Elem) (e : Element)
    (kind_version : KindVersion) : Type 0 where
  pub there : is_some (lookup (is_at (elem_cmp x)) records) ≡ is_some e.place
  pub record_is : IfSome (lookup (is_at (elem_cmp x)) records) (IsSeenRecord kind_version e)

-- the delivery of the message to that element
abbrev pub due_for : KindVersion → List (Elem × Record) → Element → Message → Due
due_for kind_version records e m = record {
  message = m;
  kind_version = kind_version;
  receiver = seen_record records m.to e;
}

-- the kind version of the blank from which the delivery constructs its receiver, if it does
abbrev pub blank_for : KindVersion → Element → Option KindVersion
blank_for kind_version e = if is_some e.place then None else Some kind_version

-- the place and the counts of an element on this processor's shelf
abbrev pub element_on : ℕ → Record → Element
element_on processor r = record {
  place = if is_some r.state then Some processor else None;
  sent = r.sent;
  received = r.received;
}

-- the delivery that was assigned is made, and settled
pub record IsSettledAs (old : View) (due : Due) (new : View) (element : Element) : Type 0 where
  pub shelf : new ≡ record old {
    records = with_record old.records due.message.to
        (record_after due);
    phase = Idle;
  }
  pub element_is : element ≡ element_on old.number (record_after due)

-- it is what the delivery makes its receiver send and reply
abbrev pub IsOutputOf : Due → Output → Type 0
IsOutputOf due output = (o : Reaction) × (reaction_in due ≡ Some o) × (output ≡ output_of o)

-- what is kept of an element is what its record says, and an object of it is of the kind version
pub record IsKnownAs (kind_version : KindVersion) (r : Record) (e : Element) : Type 0 where
  pub there : is_some e.place ≡ is_some r.state
  pub counts : IsCountedBy r e
  pub kind_version_is : IfSome r.state (λ s. kind_version_of s ≡ kind_version)

-- the receiver reacts to the message; it is then kept so, and stands on the shelf of its home if it
-- is there
abbrev pub IsReceivedAt : ℕ → KindVersion → List (Elem × Record) → Message → List View → Element →
    Type 0
IsReceivedAt processors kind_version records m shelves e =
    (o : Reaction) × (react kind_version m.to (record_at records m.to).state m.entry m.words
    ≡ Some o)
    × (e ≡ opened_element processors m.to (advanced (record_at records m.to) o))
    × AreHome processors (insert_entry elem_cmp records m.to (advanced (record_at records m.to) o))
    shelves

-- it is what the message makes its receiver of the kind version send and reply, by its record
abbrev pub IsOutputAt : KindVersion → List (Elem × Record) → Message → Output → Type 0
IsOutputAt kind_version records m output = (o : Reaction)
    × (react kind_version m.to (record_at records m.to).state m.entry m.words ≡ Some o)
    × (output ≡ output_of o)

-- nothing where the delivery is skipped, and else what the reaction sends and replies
abbrev pub IsOutputIf : Bool → Option Reaction → Option Output → Type 0
IsOutputIf true reaction got = got ≡ None
IsOutputIf false reaction got = (o : Reaction) × (reaction ≡ Some o) × (got ≡ Some (output_of o))

-- what an entry of an image says of its element, whose array is of the kind version
abbrev pub entry_record : KindVersion → Entry → Record
entry_record kind_version e = record {
  state = option_map (λ packed. state_at kind_version packed.now) e.packed;
  sent = e.sent;
  received = e.received;
}

-- the kind version of the blank that an entry takes, if its element has an object
abbrev pub blank_of_entry : KindVersion → Entry → Option KindVersion
blank_of_entry kind_version e = if is_some e.packed then Some kind_version else None

-- the element is kept so, and stands on the shelf of its home if it is there
abbrev pub IsRestoredAt : ℕ → KindVersion → List (Elem × Record) → Entry → List View → Element →
    Type 0
IsRestoredAt processors kind_version records entry shelves e =
    (e ≡ opened_element processors entry.element (entry_record kind_version entry))
    × AreHome processors (insert_entry elem_cmp records entry.element
    (entry_record kind_version entry))
    shelves
