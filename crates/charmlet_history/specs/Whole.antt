-- The fields of a history: what it keeps in them, and what always holds of them.
use Rattle.std.specs.Prelude.{◌≡◌, ℕ, ◌≤◌, length, IfSome, is_some, true}
use Rattle.std.specs.BTreeMap.{is_at}
use Rattle.std.specs.Map.{lookup}
use Rattle.std.specs.Ordering.{nat_cmp}
use Rattle.charmlet_model.specs.declared.names.MsgId.{MsgId}
use Rattle.charmlet_model.specs.Names.{elem_cmp}
use Rattle.charmlet_model.specs.World.{message_among}
use Rattle.charmlet_record.specs.WalBuffer as wal_buffers
use Rattle.charmlet_world.specs.Standing.{risen}
use Rattle.charmlet_history.specs.declared.history.History.TheInside.{Inside}
use Rattle.charmlet_history.specs.Kept.{IsConsistent, Kept, roomless}
use Rattle.charmlet_history.specs.Opened.{with_arrays}

-- what a history keeps, without its room; its opening world has the arrays of the present one
abbrev pub kept_of : Inside → Kept
kept_of h = record {
  opening = with_arrays h.present.manifest h.opening.world;
  before = h.before;
  generation = h.generation;
  log_end = h.log_end;
  halted = h.halted;
  processors = h.present.processors;
  elements = risen h.present.rows;
  pending = h.present.pending;
  clients = h.present.clients;
  events = h.events.items;
  durable = h.events.durable;
  wal_buffer = roomless h.wal_buffer;
  assigned = h.assigned.entries;
  promised = h.present.promised;
}

-- the receiver of the pending message has an entry
abbrev pub HasReceiver : Kept → MsgId → Type 0
HasReceiver k id = IfSome (message_among id k.pending)
    (λ m. is_some (lookup (is_at (elem_cmp m.to)) k.elements) ≡ true)

-- the same for each assigned message
abbrev pub HasReceivers : Kept → Type 0
HasReceivers k = (processor : ℕ) →
    IfSome (lookup (is_at (nat_cmp processor)) k.assigned) (HasReceiver k)

-- there is room for the event of each assigned delivery, for its bytes, and for its receiver
pub record HasRoom (h : Inside) : Type 0 where
  pub events : length h.assigned.entries ≤ h.events.room
  pub bytes : wal_buffers.HasRoomFor h.wal_buffer (length h.assigned.entries)
  pub receivers : HasReceivers (kept_of h)

-- what is kept is consistent, and has that room
pub record IsWhole (h : Inside) : Type 0 where
  pub consistent : IsConsistent (kept_of h)
  pub room : HasRoom h
