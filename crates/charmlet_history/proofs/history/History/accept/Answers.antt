use Rattle.std.proofs.Common.{◌≡◌, ◌+◌, ◌++◌, ◌∷◌, [], rules, false, length, sym, ap, subst, ◌∙◌, arith}
use Rattle.std.specs.Prelude.{None}
use Rattle.charmlet_model.specs.Core.{first_refusal, unwritten}
use Rattle.charmlet_model.specs.World.{IsRequest, request}
use Rattle.charmlet_model.specs.declared.event.Event.TheVariants.{Accept}
use Rattle.charmlet_model.specs.declared.logged.Logged.TheVariants as log
use Rattle.charmlet_record.specs.WalBuffer.{Batched, HasRoomFor, IsWalBuffer}
use Rattle.charmlet_world.specs.Changed as worlds
use Rattle.charmlet_world.specs.Seen.{Seen, client_at, seen}
use Rattle.charmlet_history.specs.Kept.{Kept, IsConsistent, accepted, core_in, limit_checks, repeats, roomless, turn_checks}
use Rattle.charmlet_history.specs.Whole.{HasReceivers, kept_of}
use Rattle.charmlet_history.proofs.Entries.{receivers_with}
use Rattle.charmlet_history.proofs.Requests.{accepted_consistent, request_new}
use Rattle.charmlet_history.proofs.Shown.{kept_with}
use Rattle.charmlet_history.proofs.Unwritten.{room_aside, room_back, same_roomless}
use Rattle.charmlet_history.proofs.history.History.accept.Goals as goal

pub invariant_of-self-in_err-reserve-2 : goal.invariant_of-self-in_err-reserve-2
invariant_of-self-in_err-reserve-2 c =
    let h = c.self.inside in
    let room = c.self.invariant.room in
    let more = c.reserve.ensures.room in
    let events = c.reserve.new.self in
    record {
      consistent = subst IsConsistent
          (sym (λ i. record (kept_of (record h { events = record events { items = c.reserve.ensures.items i; durable = c.reserve.ensures.durable i } })) { wal_buffer = same_roomless h.wal_buffer c.reserve-2.new.self c.reserve-2.ensures.kept i }))
          c.self.invariant.consistent;
      room = record {
        events = omega (arith, more, room.events);
        bytes = c.reserve-2.ensures.stays (length h.assigned.entries) room.bytes;
        receivers = room.receivers;
      };
    }

pub accept-requires : goal.accept-requires
accept-requires c =
    let r = c.args.request.now in
    let k = kept_of c.self.inside in
    let same = sym c.self.view_is in
    let running : k.halted ≡ false = ap (λ (k : Kept). k.halted) c.self.view_is ∙ c.requires.running in
    let new : repeats k c.args.client r.number ≡ false = ap (λ k. repeats k c.args.client r.number) c.self.view_is ∙ c.requires.new in
    let turns : None ≡ first_refusal (turn_checks (client_at k.clients c.args.client).present r.number) = subst (λ (k : Kept). None ≡ first_refusal (turn_checks (client_at k.clients c.args.client).present r.number)) same (sym c.requires.turn) in
    let fits : None ≡ first_refusal (limit_checks k c.args.client r.to.array r.words.now) = subst (λ (k : Kept). None ≡ first_refusal (limit_checks k c.args.client r.to.array r.words.now)) same (sym c.requires.fits) in
    let event : IsRequest c.args.client r.number r.to r.entry r.words.now = search rules in
    record { apart = request_new k c.self.invariant.consistent running c.args.client r.number r.to r.entry r.words.now (λ _. 0) new turns fits event }

pub invariant_of-self-2 : goal.invariant_of-self-2
invariant_of-self-2 c =
    let h = c.self.inside in
    let r = c.args.request.now in
    let k = kept_of h in
    let consistent = c.self.invariant.consistent in
    let room = c.self.invariant.room in
    let same = sym c.self.view_is in
    let running : k.halted ≡ false = ap (λ (k : Kept). k.halted) c.self.view_is ∙ c.requires.running in
    let new : repeats k c.args.client r.number ≡ false = ap (λ k. repeats k c.args.client r.number) c.self.view_is ∙ c.requires.new in
    let turns : None ≡ first_refusal (turn_checks (client_at k.clients c.args.client).present r.number) = subst (λ (k : Kept). None ≡ first_refusal (turn_checks (client_at k.clients c.args.client).present r.number)) same (sym c.requires.turn) in
    let fits : None ≡ first_refusal (limit_checks k c.args.client r.to.array r.words.now) = subst (λ (k : Kept). None ≡ first_refusal (limit_checks k c.args.client r.to.array r.words.now)) same (sym c.requires.fits) in
    let event : IsRequest c.args.client r.number r.to r.entry r.words.now = search rules in
    let fresh = unwritten (core_in k) in
    let b = c.push.new.self in
    let seen_is : seen c.accept.new.self ≡ worlds.accepted (seen h.present) c.args.client r.number r.to r.entry r.words.now =
    c.in_ok-accept.ensures.ok ∙ ap (worlds.accepted (seen h.present) c.args.client r.number r.to r.entry) c.in_ok-words.ensures.words in
    let items : c.push-2.new.self.items ≡ k.events ++ Accept c.args.client r.number r.to r.entry r.words.now ∷ [] = search rules in
    let durable : c.push-2.new.self.durable ≡ k.durable = c.push-2.ensures.durable ∙ c.reserve.ensures.durable in
    let is : kept_of (record h { present = c.accept.new.self; events = c.push-2.new.self; wal_buffer = b }) ≡ accepted k (roomless b) c.args.client r.number r.to r.entry r.words.now =
    λ i. record (kept_with k (seen_is i) (c.accept.ensures.promised i)) { events = items i; durable = durable i; wal_buffer = roomless b } in
    let reserved = room_back c.reserve-2.new.self fresh (subst (λ (b : Batched). IsWalBuffer b fresh) (sym (same_roomless h.wal_buffer c.reserve-2.new.self c.reserve-2.ensures.kept)) consistent.wal_buffer) in
    let holds = room_aside b (fresh ++ log.Accept c.args.client r.number r.to r.entry r.words.now ∷ [])
    (subst (λ words. IsWalBuffer b (fresh ++ log.Accept c.args.client r.number r.to r.entry words ∷ [])) c.in_ok-from_slice.ensures.words (c.push.ensures.pushed fresh reserved)) in
    let count = c.len-count.ensures.len in
    let made = c.in_ok-reserve.ensures.ok in
    let left = c.push-2.ensures.room in
    record {
      consistent = subst IsConsistent (sym is) (accepted_consistent k consistent running c.args.client r.number r.to r.entry r.words.now event new turns fits (roomless b) holds);
      room = record {
        events = omega (arith, count, made, left);
        bytes = c.push.ensures.room (length h.assigned.entries) (subst (λ n. HasRoomFor c.reserve-2.new.self (n + 1)) count c.in_ok-reserve-2.ensures.room);
        receivers = subst (λ (s : Seen). HasReceivers (record k { pending = s.pending; elements = s.elements })) (sym seen_is)
            (receivers_with k consistent (request c.args.client r.number r.to r.entry r.words.now ∷ []) room.receivers);
      };
    }
