use Rattle.std.proofs.Common.{◌≡◌, ◌++◌, length, sym, ap, subst, ◌∙◌, arith}
use Rattle.std.specs.Prelude.{Some}
use Rattle.std.specs.BTreeMap.{insert_entry}
use Rattle.charmlet_model.specs.declared.names.Elem.{Elem}
use Rattle.charmlet_model.specs.Fit.{AreDistinct}
use Rattle.charmlet_model.specs.Names.{elem_cmp}
use Rattle.charmlet_model.specs.World.{message_among, numbered, without}
use Rattle.charmlet_model.proofs.Fits.{found-id}
use Rattle.charmlet_world.specs.declared.element.Element.{Element}
use Rattle.charmlet_world.specs.Changed.{advanced_by, with_answer, with_entry}
use Rattle.charmlet_world.specs.Seen.{Seen, element_at}
use Rattle.charmlet_world.specs.Standing.{element_in, risen}
use Rattle.charmlet_world.specs.Waiting.{Waiting}
use Rattle.charmlet_log_scan.specs.World.Deliverable.{CanBeDelivered, delivered_to, output_without_reply}
use Rattle.charmlet_log_scan.proofs.WorldLemmas.Delivering.{advanced_entry, from_kept, its_slot, row_has_entry, row_is_kept}
use Rattle.charmlet_log_scan.proofs.world.ReplayWorld.deliver.Goals as goal

pub advance-sent-requires-clause-receiver : goal.advance-sent-requires-clause-receiver
advance-sent-requires-clause-receiver c = its_slot c.self.inside.elements.entries c.slot_for.new.self.entries c.args.to c.in_ok-slot.ensures.risen c.in_ok-slot.slot c.in_ok-slot.ensures.found

pub advance-sent-requires-clause-sent : goal.advance-sent-requires-clause-sent
advance-sent-requires-clause-sent c =
    let own = c.self.inside in
    let rows = own.elements.entries in
    let pending = own.pending.messages in
    let id = c.args.id in
    let to = c.args.to in
    let m = c.in-Some.taken.message in
    let is : Some m ≡ message_among id pending = c.in-Some.ensures.taken ∙ ap (message_among id) c.make_room.ensures.messages in
    let can = from_kept c.args.self.now _ c.self.view_is id m is (λ k n. CanBeDelivered k c.args.sends n) c.requires.can in
    let to_is : m.to ≡ to = from_kept c.args.self.now _ c.self.view_is id m is (λ k n. n.to ≡ to) c.requires.to in
    let news = c.slot_for.new.self.entries in
    let more = c.in_ok-slot.ensures.risen in
    let row : element_in news to ≡ element_at (risen rows) m.to = row_is_kept rows news to more ∙ ap (element_at (risen rows)) (sym to_is) in
    let count : length c.into_vec-sends.result.items ≡ length c.args.sends = ap length c.into_vec-sends.ensures in
    let many : c.len-count.result ≡ length c.args.sends = omega (arith, c.len-count.ensures, c.into_vec-sends.result.ok.0, count) in
    let sent : (element_in news to).sent ≡ (element_at (risen rows) m.to).sent = ap (λ (e : Element). e.sent) row in
    omega (arith, sent, can.sent, can.few, many)

pub advance-sent-requires-clause-received : goal.advance-sent-requires-clause-received
advance-sent-requires-clause-received c =
    let own = c.self.inside in
    let rows = own.elements.entries in
    let pending = own.pending.messages in
    let id = c.args.id in
    let to = c.args.to in
    let m = c.in-Some.taken.message in
    let is : Some m ≡ message_among id pending = c.in-Some.ensures.taken ∙ ap (message_among id) c.make_room.ensures.messages in
    let can = from_kept c.args.self.now _ c.self.view_is id m is (λ k n. CanBeDelivered k c.args.sends n) c.requires.can in
    let to_is : m.to ≡ to = from_kept c.args.self.now _ c.self.view_is id m is (λ k n. n.to ≡ to) c.requires.to in
    let news = c.slot_for.new.self.entries in
    let more = c.in_ok-slot.ensures.risen in
    let row : element_in news to ≡ element_at (risen rows) m.to = row_is_kept rows news to more ∙ ap (element_at (risen rows)) (sym to_is) in
    let received : (element_in news to).received ≡ (element_at (risen rows) m.to).received = ap (λ (e : Element). e.received) row in
    omega (arith, received, can.received)

pub push_sends-requires-clause-counts : goal.push_sends-requires-clause-counts
push_sends-requires-clause-counts c =
    let own = c.self.inside in
    let rows = own.elements.entries in
    let pending = own.pending.messages in
    let id = c.args.id in
    let to = c.args.to in
    let m = c.in-Some.taken.message in
    let is : Some m ≡ message_among id pending = c.in-Some.ensures.taken ∙ ap (message_among id) c.make_room.ensures.messages in
    let can = from_kept c.args.self.now _ c.self.view_is id m is (λ k n. CanBeDelivered k c.args.sends n) c.requires.can in
    let to_is : m.to ≡ to = from_kept c.args.self.now _ c.self.view_is id m is (λ k n. n.to ≡ to) c.requires.to in
    let news = c.slot_for.new.self.entries in
    let more = c.in_ok-slot.ensures.risen in
    let row : element_in news to ≡ element_at (risen rows) m.to = row_is_kept rows news to more ∙ ap (element_at (risen rows)) (sym to_is) in
    let count : length c.into_vec-sends.result.items ≡ length c.args.sends = ap length c.into_vec-sends.ensures in
    let sent : c.advance-sent.result ≡ (element_at (risen rows) m.to).sent = c.advance-sent.ensures.sent ∙ ap (λ (e : Element). e.sent) row in
    omega (arith, sent, can.sent, can.few, count)

pub push_sends-requires-clause-room : goal.push_sends-requires-clause-room
push_sends-requires-clause-room c =
    let own = c.self.inside in
    let rows = own.elements.entries in
    let pending = own.pending.messages in
    let id = c.args.id in
    let to = c.args.to in
    let m = c.in-Some.taken.message in
    let is : Some m ≡ message_among id pending = c.in-Some.ensures.taken ∙ ap (message_among id) c.make_room.ensures.messages in
    let can = from_kept c.args.self.now _ c.self.view_is id m is (λ k n. CanBeDelivered k c.args.sends n) c.requires.can in
    let to_is : m.to ≡ to = from_kept c.args.self.now _ c.self.view_is id m is (λ k n. n.to ≡ to) c.requires.to in
    let news = c.slot_for.new.self.entries in
    let more = c.in_ok-slot.ensures.risen in
    let row : element_in news to ≡ element_at (risen rows) m.to = row_is_kept rows news to more ∙ ap (element_at (risen rows)) (sym to_is) in
    let count : length c.into_vec-sends.result.items ≡ length c.args.sends = ap length c.into_vec-sends.ensures in
    let same : c.hint_head.new.self.room ≡ c.take.new.self.room = ap (λ (p : Waiting). p.room) c.hint_head.ensures in
    omega (arith, c.in_ok-make_room.ensures.room, c.take.ensures.room, same, can.few, count)

pub push_sends-requires-clause-few : goal.push_sends-requires-clause-few
push_sends-requires-clause-few c =
    let own = c.self.inside in
    let rows = own.elements.entries in
    let pending = own.pending.messages in
    let id = c.args.id in
    let to = c.args.to in
    let m = c.in-Some.taken.message in
    let is : Some m ≡ message_among id pending = c.in-Some.ensures.taken ∙ ap (message_among id) c.make_room.ensures.messages in
    let can = from_kept c.args.self.now _ c.self.view_is id m is (λ k n. CanBeDelivered k c.args.sends n) c.requires.can in
    let to_is : m.to ≡ to = from_kept c.args.self.now _ c.self.view_is id m is (λ k n. n.to ≡ to) c.requires.to in
    let news = c.slot_for.new.self.entries in
    let more = c.in_ok-slot.ensures.risen in
    let row : element_in news to ≡ element_at (risen rows) m.to = row_is_kept rows news to more ∙ ap (element_at (risen rows)) (sym to_is) in
    let count : length c.into_vec-sends.result.items ≡ length c.args.sends = ap length c.into_vec-sends.ensures in
    let same : c.hint_head.new.self.next ≡ c.take.new.self.next = ap (λ (p : Waiting). p.next) c.hint_head.ensures in
    omega (arith, c.in_ok-make_room.ensures.few, c.take.ensures.next, same, can.few, count)

pub push_sends-requires-clause-distinct : goal.push_sends-requires-clause-distinct
push_sends-requires-clause-distinct c =
    let own = c.self.inside in
    let rows = own.elements.entries in
    let pending = own.pending.messages in
    let id = c.args.id in
    let to = c.args.to in
    let m = c.in-Some.taken.message in
    let is : Some m ≡ message_among id pending = c.in-Some.ensures.taken ∙ ap (message_among id) c.make_room.ensures.messages in
    let can = from_kept c.args.self.now _ c.self.view_is id m is (λ k n. CanBeDelivered k c.args.sends n) c.requires.can in
    let to_is : m.to ≡ to = from_kept c.args.self.now _ c.self.view_is id m is (λ k n. n.to ≡ to) c.requires.to in
    let news = c.slot_for.new.self.entries in
    let more = c.in_ok-slot.ensures.risen in
    let row : element_in news to ≡ element_at (risen rows) m.to = row_is_kept rows news to more ∙ ap (element_at (risen rows)) (sym to_is) in
    let left = ap (λ (p : Waiting). p.messages) c.hint_head.ensures ∙ c.take.ensures.left ∙ ap (without id) c.make_room.ensures.messages ∙ ap (λ i. without i pending) (found-id id pending m (sym is)) in
    let sent : c.advance-sent.result ≡ (element_at (risen rows) m.to).sent = c.advance-sent.ensures.sent ∙ ap (λ (e : Element). e.sent) row in
    subst AreDistinct (λ i. sym left i ++ numbered (to_is i) (sym sent i) (sym c.into_vec-sends.ensures i)) can.distinct

pub keep_reply-requires : goal.keep_reply-requires
keep_reply-requires c =
    let own = c.self.inside in
    let rows = own.elements.entries in
    let pending = own.pending.messages in
    let id = c.args.id in
    let to = c.args.to in
    let m = c.in-Some.taken.message in
    let is : Some m ≡ message_among id pending = c.in-Some.ensures.taken ∙ ap (message_among id) c.make_room.ensures.messages in
    let can = from_kept c.args.self.now _ c.self.view_is id m is (λ k n. CanBeDelivered k c.args.sends n) c.requires.can in
    let to_is : m.to ≡ to = from_kept c.args.self.now _ c.self.view_is id m is (λ k n. n.to ≡ to) c.requires.to in
    let news = c.slot_for.new.self.entries in
    let more = c.in_ok-slot.ensures.risen in
    let row : element_in news to ≡ element_at (risen rows) m.to = row_is_kept rows news to more ∙ ap (element_at (risen rows)) (sym to_is) in
    can.client

pub returns-clause-message : goal.returns-clause-message
returns-clause-message c =
    let is = c.in-Some.ensures.taken ∙ ap (message_among c.args.id) c.make_room.ensures.messages in
    sym (is ∙ ap (λ (k : Seen). message_among c.args.id k.pending) c.self.view_is)

pub returns-clause-delivered : goal.returns-clause-delivered
returns-clause-delivered c =
    let own = c.self.inside in
    let rows = own.elements.entries in
    let pending = own.pending.messages in
    let id = c.args.id in
    let to = c.args.to in
    let m = c.in-Some.taken.message in
    let is : Some m ≡ message_among id pending = c.in-Some.ensures.taken ∙ ap (message_among id) c.make_room.ensures.messages in
    let can = from_kept c.args.self.now _ c.self.view_is id m is (λ k n. CanBeDelivered k c.args.sends n) c.requires.can in
    let to_is : m.to ≡ to = from_kept c.args.self.now _ c.self.view_is id m is (λ k n. n.to ≡ to) c.requires.to in
    let news = c.slot_for.new.self.entries in
    let more = c.in_ok-slot.ensures.risen in
    let row : element_in news to ≡ element_at (risen rows) m.to = row_is_kept rows news to more ∙ ap (element_at (risen rows)) (sym to_is) in
    let count : length c.into_vec-sends.result.items ≡ length c.args.sends = ap length c.into_vec-sends.ensures in
    let left = ap (λ (p : Waiting). p.messages) c.hint_head.ensures ∙ c.take.ensures.left ∙ ap (without id) c.make_room.ensures.messages ∙ ap (λ i. without i pending) (found-id id pending m (sym is)) in
    let sends = c.args.sends in
    let gone = c.args.is_destroyed in
    let before : Seen = record { manifest = own.manifest; processors = own.processors; elements = risen rows; pending = pending; clients = own.clients } in
    let many : c.len-count.result ≡ length sends = omega (arith, c.len-count.ensures, c.into_vec-sends.result.ok.0, count) in
    let its = λ (x : Elem). record before { elements = with_entry (risen rows) x } in
    let output = output_without_reply sends gone in
    let elements = advanced_entry rows news to more _ own.processors c.len-count.result (length sends) gone many c.advance-sent.ensures.risen
    ∙ ap (λ (x : Elem). insert_entry elem_cmp (with_entry (risen rows) x) x (advanced_by (its x) x output)) (sym to_is) in
    let sent = c.advance-sent.ensures.sent ∙ ap (λ (e : Element). e.sent) (row_has_entry rows news to more) in
    let queue = c.push_sends.ensures.messages ∙ (λ i. left i ++ numbered to (sent i) (c.into_vec-sends.ensures i))
    ∙ ap (λ (x : Elem). without m.id pending ++ numbered x (element_at (with_entry (risen rows) x) x).sent sends) (sym to_is) in
    let reply = c.new-no_words.ensures ∙ c.new.ensures.items in
    let clients = c.keep_reply.ensures ∙ ap (with_answer own.clients m.id.origin m.id.number) reply in
    (λ i. record { manifest = own.manifest; processors = own.processors; elements = elements i; pending = queue i; clients = clients i })
    ∙ ap (λ (k : Seen). delivered_to k m sends gone) c.self.view_is
