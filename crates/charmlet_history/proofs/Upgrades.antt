-- What a store keeps that goes on in the newest versions before anything has happened in it.
use Rattle.std.proofs.Common.{◌≡◌, ℕ, zero, suc, List, [], take, drop, arith, refl, sym, ap, subst, ◌∙◌}
use Rattle.std.specs.Prelude.{Option, Some, None, IfSome, is_some, option_map}
use Rattle.std.specs.Ordering.{nat_cmp}
use Rattle.std.specs.BTreeMap.{is_at}
use Rattle.std.specs.Map.{lookup}
use Rattle.charmlet_model.specs.declared.names.Elem.{Elem}
use Rattle.charmlet_model.specs.declared.names.MsgId.{MsgId}
use Rattle.charmlet_model.specs.declared.event.Event.{Event}
use Rattle.charmlet_model.specs.declared.state.State.{State}
use Rattle.charmlet_model.specs.declared.state.Record.{Record}
use Rattle.charmlet_model.specs.Core.{durable_world, present, unwritten}
use Rattle.charmlet_model.specs.Logging.{logged_all}
use Rattle.charmlet_model.specs.Sound.{IsAssigned}
use Rattle.charmlet_model.specs.Upgrade.{up, up_record, up_world}
use Rattle.charmlet_model.specs.World.{World, world, client_of, record_of, IsLegal}
use Rattle.charmlet_model.proofs.Upgrades.{fit-up, record-up}
use Rattle.charmlet_record.specs.WalBuffer.{IsWalBuffer}
use Rattle.charmlet_history.specs.Kept.{Kept, IsConsistent, core_in}

-- it keeps the same, but for its opening world
abbrev pub upgraded_kept : Kept → Kept
upgraded_kept k = record k { opening = up_world k.opening }

is_some-up : (o : Option State) → is_some (option_map up o) ≡ is_some o
is_some-up None = refl
is_some-up (Some s) = refl

-- so many of no events are none
still : (w : World) (n : ℕ) → world (up_world w) (take n []) ≡ up_world (world w (take n []))
still w zero = refl
still w (suc n) = refl

none_left : (w : World) (n : ℕ) → logged_all (world (up_world w) (take n [])) (drop n []) ≡ logged_all (world w (take n [])) (drop n [])
none_left w zero = refl
none_left w (suc n) = refl

module _ (k : Kept) (consistent : IsConsistent k) (new : k.events ≡ []) (unassigned : k.assigned ≡ []) where
  abbrev w : World
  w = present (core_in k)

  abbrev v : World
  v = present (core_in (upgraded_kept k))

  goes_on : v ≡ up_world w
  goes_on = subst (λ (es : List Event). world (up_world k.opening) es ≡ up_world (world k.opening es)) (sym new) refl

  durable_goes_on : durable_world (core_in (upgraded_kept k)) ≡ up_world (durable_world (core_in k))
  durable_goes_on = subst (λ (es : List Event). world (up_world k.opening) (take k.durable es) ≡ up_world (world k.opening (take k.durable es))) (sym new) (still k.opening k.durable)

  unwritten_same : unwritten (core_in (upgraded_kept k)) ≡ unwritten (core_in k)
  unwritten_same =
      subst (λ (es : List Event). logged_all (world (up_world k.opening) (take k.durable es)) (drop k.durable es) ≡ logged_all (world k.opening (take k.durable es)) (drop k.durable es)) (sym new)
      (none_left k.opening k.durable)

  record_is : (x : Elem) → record_of v x ≡ up_record (record_of w x)
  record_is x = ap (λ (u : World). record_of u x) goes_on ∙ record-up w x

  there_same : (x : Elem) → is_some (record_of v x).state ≡ is_some (record_of w x).state
  there_same x = ap (λ (r : Record). is_some r.state) (record_is x) ∙ is_some-up (record_of w x).state

  pub upgraded_consistent : IsConsistent (upgraded_kept k)
  upgraded_consistent =
      let sound = consistent.sound in
      record {
        sound = record {
          some_processors = sound.some_processors;
          few_processors = sound.few_processors;
          opening = fit-up k.opening sound.opening;
          legal = subst (λ (es : List Event). IsLegal (up_world k.opening) k.before es) (sym new) (record { events = tt; each_can = refl; in_limit = let r = sound.room in omega arith });
          room = sound.room;
          durable = sound.durable;
          some_generation = sound.some_generation;
          few_generations = sound.few_generations;
          rising_places = sound.rising_places;
          rising_assigned = sound.rising_assigned;
          placed = λ x. let p = sound.placed x in record { there = p.there ∙ sym (there_same x); on_processor = p.on_processor };
          assigned = λ processor. subst (λ (es : List (ℕ × MsgId)). IfSome (lookup (is_at (nat_cmp processor)) es) (IsAssigned (core_in (upgraded_kept k)) processor)) (sym unassigned) tt;
        };
        rising = consistent.rising;
        counts = λ x. let c = consistent.counts x in record { sent = c.sent ∙ sym (ap (λ (r : Record). r.sent) (record_is x)); received = c.received ∙ sym (ap (λ (r : Record). r.received) (record_is x)) };
        pending = consistent.pending ∙ sym (ap (λ (u : World). u.pending) goes_on);
        clients = consistent.clients ∙ sym (ap (λ (u : World). u.clients) goes_on);
        durable_rows = λ c. consistent.durable_rows c ∙ sym (ap (λ (u : World). client_of u c) durable_goes_on);
        wal_buffer = subst (IsWalBuffer k.wal_buffer) (sym unwritten_same) consistent.wal_buffer;
        promised = consistent.promised;
      }
