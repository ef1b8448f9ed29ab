-- What a checkpoint has of a store that goes on meanwhile.
use Rattle.std.specs.Prelude.{◌≡◌, ◌⊎◌, ℕ, ◌+◌, ◌-◌, ◌<◌, ◌≤◌, ◌^◌, Bool, true, is_some, List, [], ◌∷◌, ◌++◌, length, take, drop, Option, Some, None, IfSome, option_map, if◌then◌else◌}
use Rattle.std.specs.List.{flat_map}
use Rattle.std.specs.List.Sorted.{IsStrictlySortedBy}
use Rattle.std.specs.BTreeMap.{insert_entry, is_at}
use Rattle.std.specs.Map.{keys_of, lookup}
use Rattle.charmlet_model.specs.declared.names.Elem.{Elem}
use Rattle.charmlet_model.specs.declared.message.Message.{Message}
use Rattle.charmlet_model.specs.declared.event.Event.{Event}
use Rattle.charmlet_model.specs.declared.reaction.Reaction.{Reaction}
use Rattle.charmlet_model.specs.declared.state.Record.{Record}
use Rattle.charmlet_model.specs.declared.logged.CatchUpEntry.{CatchUpEntry}
use Rattle.charmlet_model.specs.declared.logged.Effect.{Effect}
use Rattle.charmlet_model.specs.declared.logged.Effect.TheVariants.{Stayed, Constructed, Destroyed}
use Rattle.charmlet_model.specs.Core.{Core, present}
use Rattle.charmlet_model.specs.Fit.{IsKept}
use Rattle.charmlet_model.specs.Logging.{effect_between}
use Rattle.charmlet_model.specs.Names.{elem_cmp}
use Rattle.charmlet_model.specs.Packed.{pupped}
use Rattle.charmlet_model.specs.Spelling.{spell_caught_up}
use Rattle.charmlet_model.specs.World.{World, world, advanced, no_record, reaction_of, record_of}
use Rattle.charmlet_recovery.specs.Moments.{deliveries}
use Rattle.charmlet_shelf.specs.declared.image.Image.{Image}
use Rattle.charmlet_shelf.specs.Image.{IsImage}
use Rattle.charmlet_world.specs.declared.element.Element.{Element}
use Rattle.charmlet_world.specs.Standing.{left_of}
use Rattle.charmlet_history.specs.Kept.{Kept, assigned_message}
use Rattle.charmlet_persist.specs.declared.fuzzy_checkpoint.captured_element.CapturedElement.{CapturedElement}

-- ---- what is kept

-- The elements that are captured, rising: what the image will have of each, or nothing. The bytes
-- of the deliveries since the checkpoint began, and how many these are. How many events there were
-- when it began, and for how many more deliveries there is room.
pub record Run : Type 0 where
  pub begun : ℕ
  pub captured : List (Elem × Option CapturedElement)
  pub caught_up : List ℕ
  pub count : ℕ
  pub room : ℕ

-- what is captured of the element, if it is
abbrev pub captured_of : List (Elem × Option CapturedElement) → Elem →
    Option (Option CapturedElement)
captured_of captured x = lookup (is_at (elem_cmp x)) captured

-- ---- what it is of the store

-- the entry has the counts of the record, and its packed state
pub record IsEntry (s : CapturedElement) (r : Record) : Type 0 where
  pub sent : s.sent ≡ r.sent
  pub received : s.received ≡ r.received
  pub packed : option_map (λ bytes. bytes.items) s.packed ≡ option_map pupped r.state
  pub short : IfSome s.packed (λ bytes. length bytes.items < 2 ^ 32)
  pub kept : IsKept r

-- What is captured of an element is its record at a moment, after k of the events, or that it had
-- none when they began. One that isn't captured is there, or has no record, as it had none then.
abbrev pub IsSettled : World → List Event → ℕ → Elem → Option (Option CapturedElement) → Type 0
IsSettled w es k x None = (is_some (record_of (world w es) x).state ≡ true)
    ⊎ ((record_of w x ≡ no_record) × (record_of (world w es) x ≡ no_record))
IsSettled w es k x (Some None) = record_of w x ≡ no_record
IsSettled w es k x (Some (Some s)) = (k ≤ length es)
    × IsEntry s (record_of (world w (take k es)) x)

-- it is of a checkpoint that began in this world, after which these events came
pub record IsRunningFrom (w : World) (es : List Event) (run : Run) : Type 0 where
  pub rising : IsStrictlySortedBy elem_cmp (keys_of run.captured)
  pub captured : (x : Elem) → (k : ℕ) × IsSettled w es k x (captured_of run.captured x)
  pub caught_up : run.caught_up ≡ flat_map spell_caught_up (deliveries w es)
  pub count : run.count ≡ length (deliveries w es)

-- the world when it began
abbrev pub world_before : Core → Run → World
world_before core run = world core.opening (take (run.begun - core.before) core.history)

-- the events since then
abbrev pub events_since : Core → Run → List Event
events_since core run = drop (run.begun - core.before) core.history

-- it is of a checkpoint of this store
pub record IsRunning (core : Core) (run : Run) : Type 0 where
  pub after : core.before ≤ run.begun
  pub within : run.begun ≤ core.before + length core.history
  pub from : IsRunningFrom (world_before core run) (events_since core run) run

-- each element that is there is captured
abbrev pub AreAllCaptured : Core → Run → Type 0
AreAllCaptured core run = (x : Elem) → is_some (record_of (present core) x).state ≡ true →
    is_some (captured_of run.captured x) ≡ true

-- ---- its beginning

-- what an element leaves that isn't there
abbrev pub left : Element → CapturedElement
left e = record { sent = e.sent; received = e.received; packed = None }

-- the element is captured by what it left
abbrev pub with_left : List (Elem × Option CapturedElement) → Elem × Element →
    List (Elem × Option CapturedElement)
with_left captured e = insert_entry elem_cmp captured e.0 (Some (left e.1))

-- the same of all of these
abbrev pub with_all_left : List (Elem × Option CapturedElement) → List (Elem × Element) →
    List (Elem × Option CapturedElement)
with_all_left captured [] = captured
with_all_left captured (e ∷ es) = with_all_left (with_left captured e) es

-- the elements that have only left a record are captured, and no delivery has been made
abbrev pub begun_in : Kept → ℕ → Run
begun_in k room = record {
  begun = k.before + length k.events;
  captured = with_all_left [] (left_of k.elements);
  caught_up = [];
  count = 0;
  room = room;
}

-- ---- deliveries

-- by whether the receiver was there, and whether it is
abbrev pub effect_by : Bool → Bool → Effect
effect_by was is = if was then (if is then Stayed else Destroyed)
    else (if is then Constructed else Stayed)

-- what a receiver leaves that is destroyed
abbrev pub left_by : Record → CapturedElement
left_by r = record { sent = r.sent; received = r.received; packed = None }

-- A delivery captures its receiver, unless it was or is still there: a new one has no entry, and a
-- destroyed one an entry without a state.
abbrev pub with_receiver : List (Elem × Option CapturedElement) → Elem → (was is : Bool) →
    CapturedElement →
    List (Elem × Option CapturedElement)
with_receiver captured x was is s = if is_some (captured_of captured x) then captured
    else (if was then (if is then captured else insert_entry elem_cmp captured x (Some s))
    else insert_entry elem_cmp captured x None)

-- a delivery, as the catch-up list has it
abbrev pub caught : World → Message → Reaction → CatchUpEntry
caught w m o = record {
  message = m;
  received = (record_of w m.to).received + 1;
  effect = effect_between (record_of w m.to).state o.state;
}

-- a delivery of the message, which its receiver reacts to so
abbrev pub with_reaction : World → Message → Option Reaction → Run → Run
with_reaction w m None run = run
with_reaction w m (Some o) run = record run {
  captured = with_receiver run.captured m.to (is_some (record_of w m.to).state) (is_some o.state)
      (left_by (advanced (record_of w m.to) o));
  caught_up = run.caught_up ++ spell_caught_up (caught w m o);
  count = run.count + 1;
  room = run.room - 1;
}

-- a delivery of the message, if there is one
abbrev pub with_message : World → Option Message → Run → Run
with_message w None run = run
with_message w (Some m) run = with_reaction w m (reaction_of w m) run

-- the delivery of the processor's assigned message
abbrev pub with_delivery : Core → ℕ → Run → Run
with_delivery core processor run = with_message (present core) (assigned_message core processor) run

-- ---- images

-- the image is that of an element that is there
pub record IsShownBy (w : World) (image : Image) : Type 0 where
  pub there : is_some (record_of w image.elem).state ≡ true
  pub is : IsImage image image.elem (record_of w image.elem)

-- an image, as an entry
abbrev pub entry_of : Image → CapturedElement
entry_of image = record {
  sent = image.sent;
  received = image.received;
  packed = Some image.packed;
}

-- an element that isn't captured is captured by its image
abbrev pub with_image : List (Elem × Option CapturedElement) → Image →
    List (Elem × Option CapturedElement)
with_image captured image = if is_some (captured_of captured image.elem) then captured
    else insert_entry elem_cmp captured image.elem (Some (entry_of image))

-- the same of all of these, the last one first
abbrev pub with_images : List (Elem × Option CapturedElement) → List Image →
    List (Elem × Option CapturedElement)
with_images captured [] = captured
with_images captured (image ∷ images) = with_image (with_images captured images) image
