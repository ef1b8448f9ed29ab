-- The words of the messages that a scan lists.
use Rattle.std.proofs.Common.{ℕ, ◌+◌, Bool, true, false, cond, List, [], ◌∷◌}
use Rattle.std.specs.Prelude.{Option, Some, None, IfSome}
use Rattle.std.specs.List.{AllByRecursion}
use Rattle.charmlet_model.specs.declared.names.Elem.{Elem}
use Rattle.charmlet_model.specs.declared.names.MsgId.{MsgId}
use Rattle.charmlet_model.specs.declared.message.Message.{Message}
use Rattle.charmlet_model.specs.declared.message.Outgoing.{Outgoing}
use Rattle.charmlet_model.specs.declared.logged.Effect.{Effect}
use Rattle.charmlet_model.specs.declared.logged.Logged.{Logged}
use Rattle.charmlet_model.specs.declared.logged.Logged.TheVariants.{Accept, Deliver}
use Rattle.charmlet_model.specs.Names.{same_id}
use Rattle.charmlet_model.specs.World.{message_among, numbered, request, without}
use Rattle.charmlet_model.proofs.Fits.{AllByRecursion-without}
use Rattle.charmlet_model.proofs.Reactions.{AllByRecursion-append}
use Rattle.charmlet_record.specs.declared.positioned.Positioned.{Positioned}
use Rattle.charmlet_record.specs.Reading.{Kinds}
use Rattle.charmlet_record.specs.Written.{IsLogged, IsSend}
use Rattle.charmlet_image.specs.Positioned.{items_of}
use Rattle.charmlet_recovery.specs.Replays.{LogScan, scanned, scanned_message, sent_at}
use Rattle.charmlet_log_scan.specs.declared.partition.task.Task.{Task}
use Rattle.charmlet_log_scan.specs.Partition.Parts.{task_at, task_if, tasks}
use Rattle.charmlet_replayers.specs.Replayer.Staying.{HasWords}

among : (id : MsgId) (ms : List Message) → AllByRecursion HasWords ms → IfSome (message_among id ms) HasWords
among id [] h = tt
among id (m ∷ ms) h = elim (same_id id m.id) as (λ b. IfSome (cond b (Some m) (message_among id ms)) HasWords) [ true ↦ h.0 | false ↦ among id ms h.1 ]

sent-words : (kinds : Kinds) (from : Elem) (sent : ℕ) (ss : List Outgoing) → AllByRecursion (IsSend kinds) ss → AllByRecursion HasWords (numbered from sent ss)
sent-words kinds from sent [] h = tt
sent-words kinds from sent (s ∷ ss) h = (h.0.2.1, sent-words kinds from (sent + 1) ss h.1)

after-delivery : (kinds : Kinds) (scan : LogScan) (m : Option Message) (sends : List Outgoing) → AllByRecursion HasWords scan.pending → AllByRecursion (IsSend kinds) sends → AllByRecursion HasWords (scanned_message scan m sends).pending
after-delivery kinds scan None sends h each = h
after-delivery kinds scan (Some m) sends h each =
    AllByRecursion-append HasWords (without m.id scan.pending) (numbered m.to (sent_at scan.sent m.to) sends) (AllByRecursion-without HasWords m.id scan.pending h) (sent-words kinds m.to (sent_at scan.sent m.to) sends each)

after : (kinds : Kinds) (scan : LogScan) (l : Logged) → AllByRecursion HasWords scan.pending → IsLogged kinds l → AllByRecursion HasWords (scanned scan l).pending
after kinds scan (Accept client number to entry words) h logged = AllByRecursion-append HasWords scan.pending (request client number to entry words ∷ []) h (logged.4.1, tt)
after kinds scan (Deliver id received effect sends) h logged = after-delivery kinds scan (message_among id scan.pending) sends h logged.3

of-task : (mine : Elem → Bool) (left : ℕ) (m : Option Message) (received : ℕ) (effect : Effect) (sends : List Outgoing) → IfSome m HasWords → AllByRecursion (λ (t : Task). HasWords t.message) (task_if mine left m received effect sends)
of-task mine left None received effect sends h = tt
of-task mine left (Some m) received effect sends h =
    elim (mine m.to) as (λ b. AllByRecursion (λ (t : Task). HasWords t.message) (cond b (record { bytes_left = left; message = m; received = received; effect = effect; sends = sends } ∷ []) [])) [
      | true ↦ (h, tt)
      | false ↦ tt
    ]

of-record : (mine : Elem → Bool) (left : ℕ) (scan : LogScan) (l : Logged) → AllByRecursion HasWords scan.pending → AllByRecursion (λ (t : Task). HasWords t.message) (task_at mine left scan l)
of-record mine left scan (Accept client number to entry words) h = tt
of-record mine left scan (Deliver id received effect sends) h = of-task mine left (message_among id scan.pending) received effect sends (among id scan.pending h)

pub tasks-have-words : (kinds : Kinds) (mine : Elem → Bool) (scan : LogScan) (log : List (Positioned Logged)) → AllByRecursion HasWords scan.pending → AllByRecursion (IsLogged kinds) (items_of log) → AllByRecursion (λ t. HasWords t.message) (tasks mine scan log)
tasks-have-words kinds mine scan [] h each = tt
tasks-have-words kinds mine scan (p ∷ log) h each =
    AllByRecursion-append (λ (t : Task). HasWords t.message) (task_at mine p.bytes_left scan p.item) (tasks mine (scanned scan p.item) log) (of-record mine p.bytes_left scan p.item h)
    (tasks-have-words kinds mine (scanned scan p.item) log (after kinds scan p.item h each.0) each.1)
