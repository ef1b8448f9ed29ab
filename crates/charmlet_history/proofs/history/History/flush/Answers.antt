use Rattle.std.proofs.Common.{◌≡◌, [], length, sym, subst, ◌∙◌, ap, arith}
use Rattle.std.specs.Prelude.{None}
use Rattle.charmlet_model.specs.Core.{end_of_flush, first_refusal, checks}
use Rattle.charmlet_model.specs.Core as core
use Rattle.charmlet_world.specs.Seen.{Held}
use Rattle.charmlet_world.specs.Standing.{risen}
use Rattle.charmlet_history.specs.Kept.{Kept, IsConsistent, core_in, plenty, roomless}
use Rattle.charmlet_history.specs.Whole.{HasReceivers, kept_of}
use Rattle.charmlet_history.proofs.Flushes.{flushed_consistent}
use Rattle.charmlet_history.proofs.Unwritten.{room_aside}
use Rattle.charmlet_history.proofs.history.History.flush.Goals as goal

pub invariant_of-self : goal.invariant_of-self
invariant_of-self c =
    let h = c.self.inside in
    let k = kept_of h in
    let room = c.self.invariant.room in
    let passes : first_refusal (checks (core_in k) plenty core.Flush) ≡ None = subst (λ (k : Kept). first_refusal (checks (core_in k) plenty core.Flush) ≡ None) (sym c.self.view_is) (sym c.in_ok-log_end.ensures.refused) in
    let end : c.in_ok-log_end.log_end ≡ end_of_flush (core_in k) = c.in_ok-log_end.ensures.ok ∙ ap (λ (k : Kept). end_of_flush (core_in k)) (sym c.self.view_is) in
    let made = c.make_durable.ensures in
    let events = c.make_durable.new.events in
    let b = c.make_durable.new.wal_buffer in
    record {
      consistent = subst IsConsistent
          (sym (λ i. kept_of (record h { log_end = end i; present = made.present i; events = record events { items = made.items i; durable = made.durable i }; wal_buffer = b })))
          (flushed_consistent k (roomless b) c.self.invariant.consistent (room_aside b [] made.empty) passes);
      room = record {
        events = let more = c.make_durable.ensures.room in omega (arith, more, room.events);
        bytes = c.make_durable.ensures.bytes (length h.assigned.entries) room.bytes;
        receivers = subst (λ (p : Held). HasReceivers (record k { pending = p.pending; elements = risen p.rows })) (sym c.make_durable.ensures.present) room.receivers;
      };
    }
