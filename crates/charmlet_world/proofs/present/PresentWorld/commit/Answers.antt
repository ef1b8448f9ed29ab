use Rattle.std.proofs.Common.{◌≡◌, ◌++◌, length, true, sym, ap, subst, ◌∙◌, arith}
use Rattle.std.specs.Prelude.{IfSome}
use Rattle.std.specs.BTreeMap.{insert_entry}
use Rattle.std.proofs.lemmas.Option.{IfSome_then}
use Rattle.charmlet_model.specs.Names.{elem_cmp}
use Rattle.charmlet_model.specs.Fit.{AreDistinct}
use Rattle.charmlet_model.specs.World.{after, message_among, numbered, without}
use Rattle.charmlet_model.specs.declared.event.Event.TheVariants.{Deliver}
use Rattle.charmlet_model.specs.declared.message.Message.{Message}
use Rattle.charmlet_model.proofs.Fits.{found-id}
use Rattle.charmlet_locate.specs.Locations.{is_processor_count}
use Rattle.charmlet_world.specs.declared.element.Element.{Element}
use Rattle.charmlet_world.specs.Changed.{Suits, counted, delivered_in, place_after}
use Rattle.charmlet_world.specs.Seen.{Held, Seen, Shows, element_at, seen}
use Rattle.charmlet_world.specs.Standing.{element_in, risen}
use Rattle.charmlet_world.specs.Tied.{Scheduled, Takes}
use Rattle.charmlet_world.proofs.Showing.{delivered_shows, element_risen, from_some, to_some}
use Rattle.charmlet_world.proofs.present.PresentWorld.commit.Goals as goal

pub deliver-message-requires-clause-room : goal.deliver-message-requires-clause-room
deliver-message-requires-clause-room c =
    let promised : c.self.inside.promised ≡ c.args.self.now.promised = ap (λ (h : Held). h.promised) c.self.view_is in
    omega (arith, c.self.invariant.enough, c.requires.promised)

pub deliver-message-requires-clause-takes : goal.deliver-message-requires-clause-takes
deliver-message-requires-clause-takes c =
    let count : c.len-count.result ≡ length c.args.output.sends = omega (arith, c.len-count.ensures, c.into_vec-sends.result.ok.0, ap length c.into_vec-sends.ensures) in
    subst (λ (h : Held). IfSome (message_among c.args.id h.pending) (λ (m : Message). Takes h.rows c.args.slot c.len-count.result m.to)) (sym c.self.view_is)
    (IfSome_then (message_among c.args.id c.args.self.now.pending) c.requires.suits (λ m s. record {
      receiver = s.receiver;
      sent = omega (arith, s.sent, s.few, count);
      received = s.received;
    }))

pub push_sends-requires-clause-counts : goal.push_sends-requires-clause-counts
push_sends-requires-clause-counts c =
    let m = c.deliver-message.result.message in
    let s = from_some c.args.self.now _ c.self.view_is c.args.id m (sym c.deliver-message.ensures.message) (λ h m. Suits h c.args.slot c.args.output m) c.requires.suits in
    let rows = c.self.inside.scheduler.rows in
    let sent : c.deliver-message.result.sent ≡ (element_in rows m.to).sent = c.deliver-message.ensures.sent ∙ ap (λ (e : Element). e.sent) (element_risen m.to rows) in
    let count : length c.into_vec-sends.result.items ≡ length c.args.output.sends = ap length c.into_vec-sends.ensures in
    omega (arith, s.sent, s.few)

pub push_sends-requires-clause-room : goal.push_sends-requires-clause-room
push_sends-requires-clause-room c =
    let m = c.deliver-message.result.message in
    let s = from_some c.args.self.now _ c.self.view_is c.args.id m (sym c.deliver-message.ensures.message) (λ h m. Suits h c.args.slot c.args.output m) c.requires.suits in
    let count : length c.into_vec-sends.result.items ≡ length c.args.output.sends = ap length c.into_vec-sends.ensures in
    let promised : c.self.inside.promised ≡ c.args.self.now.promised = ap (λ (h : Held). h.promised) c.self.view_is in
    omega (arith, c.self.invariant.enough, c.deliver-message.ensures.room, c.requires.promised, s.few)

pub push_sends-requires-clause-distinct : goal.push_sends-requires-clause-distinct
push_sends-requires-clause-distinct c =
    let m = c.deliver-message.result.message in
    let s = from_some c.args.self.now _ c.self.view_is c.args.id m (sym c.deliver-message.ensures.message) (λ h m. Suits h c.args.slot c.args.output m) c.requires.suits in
    let rows = c.self.inside.scheduler.rows in
    let pending = c.self.inside.scheduler.pending in
    let sent : c.deliver-message.result.sent ≡ (element_in rows m.to).sent = c.deliver-message.ensures.sent ∙ ap (λ (e : Element). e.sent) (element_risen m.to rows) in
    let left = c.deliver-message.ensures.pending ∙ ap (λ id. without id pending) (found-id c.args.id pending m c.deliver-message.ensures.message) in
    subst AreDistinct (λ i. sym left i ++ numbered m.to (sym sent i) (sym c.into_vec-sends.ensures i)) s.distinct

pub invariant_of-self : goal.invariant_of-self
invariant_of-self c =
    let m = c.deliver-message.result.message in
    let s = from_some c.args.self.now _ c.self.view_is c.args.id m (sym c.deliver-message.ensures.message) (λ h m. Suits h c.args.slot c.args.output m) c.requires.suits in
    let count : length c.into_vec-sends.result.items ≡ length c.args.output.sends = ap length c.into_vec-sends.ensures in
    let promised : c.self.inside.promised ≡ c.args.self.now.promised = ap (λ (h : Held). h.promised) c.self.view_is in
    let same : c.hint_head.new.self ≡ c.push_sends.new.scheduler = c.hint_head.ensures in
    let room : c.hint_head.new.self.room ≡ c.push_sends.new.scheduler.room = ap (λ (d : Scheduled). d.room) same in
    let processors = ap (λ (d : Scheduled). d.processors) same ∙ c.push_sends.ensures.processors ∙ c.deliver-message.ensures.processors in
    record {
      some_processors = subst (λ n. is_processor_count n ≡ true) (sym processors) c.self.invariant.some_processors;
      few = omega (arith, c.self.invariant.few);
      enough = omega (arith, c.self.invariant.enough, c.deliver-message.ensures.room, c.push_sends.ensures.room, c.requires.promised, s.few, room);
    }

pub returns-clause-delivered : goal.returns-clause-delivered
returns-clause-delivered c =
    let m = c.deliver-message.result.message in
    let output = c.args.output in
    let own = c.self.inside in
    let rows = own.scheduler.rows in
    let before : Seen = record { manifest = own.manifest; processors = own.scheduler.processors; elements = risen rows; pending = own.scheduler.pending; clients = own.clients.entries } in
    let same = c.hint_head.ensures in
    let count : c.len-count.result ≡ length output.sends = omega (arith, c.len-count.ensures, c.into_vec-sends.result.ok.0, ap length c.into_vec-sends.ensures) in
    let processors = ap (λ (d : Scheduled). d.processors) same ∙ c.push_sends.ensures.processors ∙ c.deliver-message.ensures.processors in
    let elements = ap (λ (d : Scheduled). risen d.rows) same ∙ ap risen c.push_sends.ensures.rows ∙ c.deliver-message.ensures.risen
    ∙ ap (λ n. insert_entry elem_cmp (risen rows) m.to (counted (element_at (risen rows) m.to) (place_after before m.to output.is_destroyed) n)) count in
    let left = c.deliver-message.ensures.pending ∙ ap (λ id. without id own.scheduler.pending) (found-id c.args.id own.scheduler.pending m c.deliver-message.ensures.message) in
    let pending = ap (λ (d : Scheduled). d.pending) same ∙ c.push_sends.ensures.pending ∙ (λ i. left i ++ numbered m.to (c.deliver-message.ensures.sent i) (c.into_vec-sends.ensures i)) in
    to_some c.args.self.now _ c.self.view_is c.args.id m (sym c.deliver-message.ensures.message)
    (λ h m. record { manifest = own.manifest; processors = c.hint_head.new.self.processors; elements = risen c.hint_head.new.self.rows; pending = c.hint_head.new.self.pending; clients = c.keep_reply.new.clients.entries } ≡ delivered_in (seen h) m output)
    (λ i. record { manifest = own.manifest; processors = processors i; elements = elements i; pending = pending i; clients = c.keep_reply.ensures i })

pub returns-clause-world : goal.returns-clause-world
returns-clause-world c = λ w shows outcome.
    let m = c.deliver-message.result.message in
    let own = c.self.inside in
    let rows = own.scheduler.rows in
    let output = c.args.output in
    let before : Seen = record { manifest = own.manifest; processors = own.scheduler.processors; elements = risen rows; pending = own.scheduler.pending; clients = own.clients.entries } in
    let done = from_some c.args.self.now _ c.self.view_is c.args.id m (sym c.deliver-message.ensures.message)
    (λ h m. record { manifest = own.manifest; processors = c.hint_head.new.self.processors; elements = risen c.hint_head.new.self.rows; pending = c.hint_head.new.self.pending; clients = c.keep_reply.new.clients.entries } ≡ delivered_in (seen h) m output)
    (returns-clause-delivered c) in
    subst (λ (k : Seen). Shows k (after w (Deliver c.args.id))) (sym done)
    (delivered_shows before w (subst (λ (h : Held). Shows (seen h) w) (sym c.self.view_is) shows) c.args.id m c.deliver-message.ensures.message output outcome)
