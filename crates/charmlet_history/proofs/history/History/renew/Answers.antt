use Rattle.std.proofs.Common.{◌≡◌, ◌+◌, [], ap, length, sym, subst, ◌∙◌, arith}
use Rattle.charmlet_model.specs.Core.{present}
use Rattle.charmlet_world.specs.Seen.{Held}
use Rattle.charmlet_world.specs.Standing.{risen}
use Rattle.charmlet_history.specs.Opened.{renewed, with_arrays}
use Rattle.charmlet_history.specs.Kept.{Kept, IsConsistent, core_in, present_in, roomless}
use Rattle.charmlet_history.specs.Whole.{HasReceivers, kept_of}
use Rattle.charmlet_history.proofs.Consistency.{manifest_is}
use Rattle.charmlet_history.proofs.Openings.{renewed_consistent, renewed_kept}
use Rattle.charmlet_history.proofs.Unwritten.{room_aside}
use Rattle.charmlet_history.proofs.history.History.renew.Goals as goal

pub invariant_of-self : goal.invariant_of-self
invariant_of-self c =
    let h = c.self.inside in
    let k = kept_of h in
    let room = c.self.invariant.room in
    let made = c.make_durable.ensures in
    let b = c.make_durable.new.wal_buffer in
    let arrays : c.make_durable.new.present.manifest ≡ (present (core_in k)).manifest = ap (λ (p : Held). p.manifest) made.present ∙ sym (manifest_is k) in
    let opening : c.of-seen.result.world ≡ present (core_in k) = c.of-seen.ensures ∙ ap present_in (sym c.self.view_is) in
    let world : with_arrays c.make_durable.new.present.manifest c.of-seen.result.world ≡ present (core_in k) = λ i. with_arrays (arrays i) (opening i) in
    let count : c.len.result ≡ length k.events = c.len.ensures.len ∙ ap length made.items in
    let none : c.clear.new.self.items ≡ [] = c.clear.ensures.items in
    let settled : c.clear.new.self.durable ≡ 0 = c.clear.ensures.durable in
    let same : kept_of (record h { opening = c.of-seen.result; before = h.before + c.len.result; present = c.make_durable.new.present; events = c.clear.new.self; wal_buffer = b }) ≡ renewed_kept k (roomless b) =
    λ i. record (kept_of (record h { present = made.present i; wal_buffer = b })) { opening = world i; before = h.before + count i; events = none i; durable = settled i } in
    record {
      consistent = subst IsConsistent (sym same) (renewed_consistent k (roomless b) c.self.invariant.consistent (room_aside b [] made.empty));
      room = record {
        events = let more = made.room in let most = c.clear.ensures.room in omega (arith, more, most, room.events);
        bytes = made.bytes (length h.assigned.entries) room.bytes;
        receivers = subst (λ (p : Held). HasReceivers (record k { pending = p.pending; elements = risen p.rows })) (sym made.present) room.receivers;
      };
    }

pub returns : goal.returns
returns c =
    let h = c.self.inside in
    let k = kept_of h in
    let made = c.make_durable.ensures in
    let b = c.make_durable.new.wal_buffer in
    let arrays : c.make_durable.new.present.manifest ≡ (present (core_in k)).manifest = ap (λ (p : Held). p.manifest) made.present ∙ sym (manifest_is k) in
    let opening : c.of-seen.result.world ≡ present (core_in k) = c.of-seen.ensures ∙ ap present_in (sym c.self.view_is) in
    let world : with_arrays c.make_durable.new.present.manifest c.of-seen.result.world ≡ present (core_in k) = λ i. with_arrays (arrays i) (opening i) in
    let count : c.len.result ≡ length k.events = c.len.ensures.len ∙ ap length made.items in
    let none : c.clear.new.self.items ≡ [] = c.clear.ensures.items in
    let settled : c.clear.new.self.durable ≡ 0 = c.clear.ensures.durable in
    record {
      renewed = (λ i. core_in (record (kept_of (record h { present = made.present i; wal_buffer = b })) { opening = world i; before = h.before + count i; events = none i; durable = settled i }))
          ∙ ap (λ (k : Kept). renewed (core_in k)) c.self.view_is;
    }
