use Rattle.std.proofs.Common.{◌≡◌, sym, ap, subst, ◌∙◌, slice_get}
use Rattle.charmlet_model.specs.World.{message_among}
use Rattle.charmlet_model.specs.declared.message.Message.{Message}
use Rattle.charmlet_world.specs.Changed.{with_entry}
use Rattle.charmlet_world.specs.Seen.{Held, Seen, Shows, IsSlot, seen}
use Rattle.charmlet_world.specs.Standing.{risen}
use Rattle.charmlet_world.specs.Waiting.{message_of}
use Rattle.charmlet_world.proofs.Showing.{entry_shows, to_some}
use Rattle.charmlet_world.proofs.present.PresentWorld.assign.Goals as goal

pub returns-clause-slot : goal.returns-clause-slot
returns-clause-slot c =
    let m : Message = message_of c.args.id c.in-Some.pending_message.now in
    let is = c.in-Some.ensures ∙ ap (message_among c.args.id) (c.pending.ensures ∙ c.in_ok-reserve.ensures.pending) in
    to_some c.args.self.now _ c.self.view_is c.args.id m is (λ h m. IsSlot c.slot_for.new.self.rows c.in_ok-slot.slot m.to)
    c.in_ok-slot.ensures.slot

pub returns-clause-seen : goal.returns-clause-seen
returns-clause-seen c =
    let m : Message = message_of c.args.id c.in-Some.pending_message.now in
    let is = c.in-Some.ensures ∙ ap (message_among c.args.id) (c.pending.ensures ∙ c.in_ok-reserve.ensures.pending) in
    let own = c.self.inside in
    let put = c.in_ok-slot.ensures.risen ∙ ap (λ rows. with_entry (risen rows) m.to) c.in_ok-reserve.ensures.rows in
    let processors = c.in_ok-slot.ensures.processors ∙ c.in_ok-reserve.ensures.processors in
    let pending = c.in_ok-slot.ensures.pending ∙ c.in_ok-reserve.ensures.pending in
    to_some c.args.self.now _ c.self.view_is c.args.id m is (λ h m. record { manifest = own.manifest; processors = c.slot_for.new.self.processors; elements = risen c.slot_for.new.self.rows; pending = c.slot_for.new.self.pending; clients = own.clients.entries }
    ≡ record (seen h) { elements = with_entry (risen h.rows) m.to })
    (λ i. record { manifest = own.manifest; processors = processors i; elements = put i; pending = pending i; clients = own.clients.entries })

pub returns-clause-slots : goal.returns-clause-slots
returns-clause-slots c = λ i x e at.
    c.in_ok-slot.ensures.slots i x e (ap (λ rows. slice_get rows i) c.in_ok-reserve.ensures.rows ∙ ap (λ (h : Held). slice_get h.rows i) c.self.view_is ∙ at)

pub returns-clause-world : goal.returns-clause-world
returns-clause-world c = λ w shows.
    let own = c.self.inside in
    let x = c.in-Some.pending_message.now.to in
    let put = c.in_ok-slot.ensures.risen ∙ ap (λ rows. with_entry (risen rows) x) c.in_ok-reserve.ensures.rows in
    let processors = c.in_ok-slot.ensures.processors ∙ c.in_ok-reserve.ensures.processors in
    let pending = c.in_ok-slot.ensures.pending ∙ c.in_ok-reserve.ensures.pending in
    let before : Seen = record { manifest = own.manifest; processors = own.scheduler.processors; elements = risen own.scheduler.rows; pending = own.scheduler.pending; clients = own.clients.entries } in
    subst (λ (k : Seen). Shows k w)
    (λ i. record { manifest = own.manifest; processors = sym processors i; elements = sym put i; pending = sym pending i; clients = own.clients.entries })
    (entry_shows before w (subst (λ (h : Held). Shows (seen h) w) (sym c.self.view_is) shows) x)
