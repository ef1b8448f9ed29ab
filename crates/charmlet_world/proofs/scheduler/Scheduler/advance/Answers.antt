use Rattle.std.proofs.Common.{◌≡◌, ◌<◌, sym, ap, subst, ◌∙◌, arith, length, if◌then◌else◌}
use Rattle.std.specs.Prelude.{Some, None, unwrap_or}
use Rattle.std.specs.BTreeMap.{insert_entry}
use Rattle.charmlet_model.specs.Core.{home}
use Rattle.charmlet_model.specs.Names.{elem_cmp}
use Rattle.charmlet_ready_queue.specs.declared.index.place.Readiness.{Readiness}
use Rattle.charmlet_ready_queue.specs.Index.Index.{HaveRoom}
use Rattle.charmlet_world.specs.declared.element.Element.{Element}
use Rattle.charmlet_world.specs.Changed.{counted}
use Rattle.charmlet_world.specs.Seen.{element_at}
use Rattle.charmlet_world.specs.Standing.{element_in, risen}
use Rattle.charmlet_world.specs.Tied.{Scheduled, Takes, calls_down, readiness_at, readiness_by, readiness_of}
use Rattle.charmlet_world.proofs.Showing.{element_is, element_risen, slot_inside}
use Rattle.charmlet_world.proofs.Ties.{stands_else, stands_here}
use Rattle.charmlet_world.proofs.Tying.{delivered_rooms, delivered_within, home_within, smaller_second, tied_called, tied_otherwise}
use Rattle.charmlet_world.proofs.scheduler.Scheduler.advance.Goals as goal

pub at-element-requires : goal.at-element-requires
at-element-requires c =
    let takes = subst (λ (d : Scheduled). Takes d.rows c.args.slot c.args.sends c.args.elem) (sym c.self.view_is) c.requires.takes in
    slot_inside c.self.inside.elements.entries c.args.slot _ takes.receiver

pub advance-requires-clause-sent : goal.advance-requires-clause-sent
advance-requires-clause-sent c =
    let rows = c.self.inside.elements.entries in
    let takes = subst (λ (d : Scheduled). Takes d.rows c.args.slot c.args.sends c.args.elem) (sym c.self.view_is) c.requires.takes in
    let sent : c.at-element.result.sent ≡ (element_in rows c.args.elem).sent = ap (λ (e : Element). e.sent) (element_is rows c.args.slot c.args.elem c.at-element.result takes.receiver c.at-element.ensures) in
    omega (arith, sent, takes.sent)

pub advance-requires-clause-received : goal.advance-requires-clause-received
advance-requires-clause-received c =
    let rows = c.self.inside.elements.entries in
    let takes = subst (λ (d : Scheduled). Takes d.rows c.args.slot c.args.sends c.args.elem) (sym c.self.view_is) c.requires.takes in
    let received : c.at-element.result.received ≡ (element_in rows c.args.elem).received = ap (λ (e : Element). e.received) (element_is rows c.args.slot c.args.elem c.at-element.result takes.receiver c.at-element.ensures) in
    omega (arith, received, takes.received)

pub update_readiness-requires-clause-old_on : goal.update_readiness-requires-clause-old_on
update_readiness-requires-clause-old_on c =
    let here : c.args.at_home ≡ home c.args.elem c.self.inside.processors = c.requires.home ∙ ap (λ (d : Scheduled). home c.args.elem d.processors) (sym c.self.view_is) in
    let old_is : c.readiness_at-old.result ≡ readiness_of c.self.inside.processors c.args.elem c.at-element.result = c.readiness_at-old.ensures ∙ ap (λ h. readiness_at h c.at-element.result) here in
    let own = c.self.inside in
    let p = own.processors in
    let rows = own.elements.entries in
    let x = c.args.elem in
    let takes = subst (λ (d : Scheduled). Takes d.rows c.args.slot c.args.sends x) (sym c.self.view_is) c.requires.takes in
    let room = subst (λ (d : Scheduled). 0 < d.room) (sym c.self.view_is) c.requires.room in
    let head = smaller_second own.pending.room own.index.headroom in
    let len = c.self.invariant.opened (omega (arith, room, head)) in
    let old : c.readiness_at-old.result ≡ readiness_by p rows x = old_is ∙ ap (readiness_of p x) (element_is rows c.args.slot x c.at-element.result takes.receiver c.at-element.ensures ∙ sym (element_risen x rows)) in
    subst (λ n. c.readiness_at-old.result.on < n) (sym len) (subst (λ (s : Readiness). s.on < p) (sym old) (c.self.invariant.within x))

pub update_readiness-requires-clause-new_on : goal.update_readiness-requires-clause-new_on
update_readiness-requires-clause-new_on c =
    let here : c.args.at_home ≡ home c.args.elem c.self.inside.processors = c.requires.home ∙ ap (λ (d : Scheduled). home c.args.elem d.processors) (sym c.self.view_is) in
    let new_is : c.readiness_at-new.result ≡ readiness_of c.self.inside.processors c.args.elem c.advance.new.self = c.readiness_at-new.ensures ∙ ap (λ h. readiness_at h c.advance.new.self) here in
    let place_is : c.place_after-place.result ≡ (if c.args.is_destroyed then None else Some (unwrap_or c.at-element.result.place (home c.args.elem c.self.inside.processors))) = c.place_after-place.ensures ∙ ap (λ h. if c.args.is_destroyed then None else Some (unwrap_or c.at-element.result.place h)) here in
    let own = c.self.inside in
    let p = own.processors in
    let rows = own.elements.entries in
    let x = c.args.elem in
    let takes = subst (λ (d : Scheduled). Takes d.rows c.args.slot c.args.sends x) (sym c.self.view_is) c.requires.takes in
    let room = subst (λ (d : Scheduled). 0 < d.room) (sym c.self.view_is) c.requires.room in
    let head = smaller_second own.pending.room own.index.headroom in
    let len = c.self.invariant.opened (omega (arith, room, head)) in
    let is = element_is rows c.args.slot x c.at-element.result takes.receiver c.at-element.ensures ∙ sym (element_risen x rows) in
    let was : (readiness_of p x c.at-element.result).on < p = subst (λ (e : Element). (readiness_of p x e).on < p) (sym is) (c.self.invariant.within x) in
    let place = ap (λ (e : Element). e.place) c.advance.ensures ∙ place_is in
    subst (λ n. c.readiness_at-new.result.on < n) (sym len) (subst (λ (s : Readiness). s.on < p) (sym new_is)
    (delivered_within p c.self.invariant.some_processors x c.at-element.result c.advance.new.self c.args.is_destroyed was place))

pub update_readiness-requires-clause-old_home : goal.update_readiness-requires-clause-old_home
update_readiness-requires-clause-old_home c =
    let here : c.args.at_home ≡ home c.args.elem c.self.inside.processors = c.requires.home ∙ ap (λ (d : Scheduled). home c.args.elem d.processors) (sym c.self.view_is) in
    let old_is : c.readiness_at-old.result ≡ readiness_of c.self.inside.processors c.args.elem c.at-element.result = c.readiness_at-old.ensures ∙ ap (λ h. readiness_at h c.at-element.result) here in
    let own = c.self.inside in
    let p = own.processors in
    let room = subst (λ (d : Scheduled). 0 < d.room) (sym c.self.view_is) c.requires.room in
    let head = smaller_second own.pending.room own.index.headroom in
    let len = c.self.invariant.opened (omega (arith, room, head)) in
    subst (λ n. c.readiness_at-old.result.home < n) (sym len) (subst (λ (s : Readiness). s.home < p) (sym old_is) (home_within p c.self.invariant.some_processors c.args.elem))

pub update_readiness-requires-clause-new_home : goal.update_readiness-requires-clause-new_home
update_readiness-requires-clause-new_home c =
    let here : c.args.at_home ≡ home c.args.elem c.self.inside.processors = c.requires.home ∙ ap (λ (d : Scheduled). home c.args.elem d.processors) (sym c.self.view_is) in
    let new_is : c.readiness_at-new.result ≡ readiness_of c.self.inside.processors c.args.elem c.advance.new.self = c.readiness_at-new.ensures ∙ ap (λ h. readiness_at h c.advance.new.self) here in
    let own = c.self.inside in
    let p = own.processors in
    let room = subst (λ (d : Scheduled). 0 < d.room) (sym c.self.view_is) c.requires.room in
    let head = smaller_second own.pending.room own.index.headroom in
    let len = c.self.invariant.opened (omega (arith, room, head)) in
    subst (λ n. c.readiness_at-new.result.home < n) (sym len) (subst (λ (s : Readiness). s.home < p) (sym new_is) (home_within p c.self.invariant.some_processors c.args.elem))

pub update_readiness-requires-clause-called : goal.update_readiness-requires-clause-called
update_readiness-requires-clause-called c =
    let here : c.args.at_home ≡ home c.args.elem c.self.inside.processors = c.requires.home ∙ ap (λ (d : Scheduled). home c.args.elem d.processors) (sym c.self.view_is) in
    let old_is : c.readiness_at-old.result ≡ readiness_of c.self.inside.processors c.args.elem c.at-element.result = c.readiness_at-old.ensures ∙ ap (λ h. readiness_at h c.at-element.result) here in
    let own = c.self.inside in
    let p = own.processors in
    let rows = own.elements.entries in
    let x = c.args.elem in
    let takes = subst (λ (d : Scheduled). Takes d.rows c.args.slot c.args.sends x) (sym c.self.view_is) c.requires.takes in
    let old : c.readiness_at-old.result ≡ readiness_by p rows x = old_is ∙ ap (readiness_of p x) (element_is rows c.args.slot x c.at-element.result takes.receiver c.at-element.ensures ∙ sym (element_risen x rows)) in
    tied_called p rows own.pending own.index x c.readiness_at-old.result c.self.invariant (sym old)

pub update_readiness-requires-clause-room : goal.update_readiness-requires-clause-room
update_readiness-requires-clause-room c =
    let here : c.args.at_home ≡ home c.args.elem c.self.inside.processors = c.requires.home ∙ ap (λ (d : Scheduled). home c.args.elem d.processors) (sym c.self.view_is) in
    let old_is : c.readiness_at-old.result ≡ readiness_of c.self.inside.processors c.args.elem c.at-element.result = c.readiness_at-old.ensures ∙ ap (λ h. readiness_at h c.at-element.result) here in
    let new_is : c.readiness_at-new.result ≡ readiness_of c.self.inside.processors c.args.elem c.advance.new.self = c.readiness_at-new.ensures ∙ ap (λ h. readiness_at h c.advance.new.self) here in
    let place_is : c.place_after-place.result ≡ (if c.args.is_destroyed then None else Some (unwrap_or c.at-element.result.place (home c.args.elem c.self.inside.processors))) = c.place_after-place.ensures ∙ ap (λ h. if c.args.is_destroyed then None else Some (unwrap_or c.at-element.result.place h)) here in
    let own = c.self.inside in
    let p = own.processors in
    let x = c.args.elem in
    let n = length (calls_down x own.pending.seq_nos own.pending.messages) in
    let place = ap (λ (e : Element). e.place) c.advance.ensures ∙ place_is in
    subst (λ (s : Readiness). HaveRoom own.index.headroom s c.readiness_at-new.result n own.index.lists) (sym old_is)
    (subst (λ (s : Readiness). HaveRoom own.index.headroom (readiness_of p x c.at-element.result) s n own.index.lists) (sym new_is)
    (delivered_rooms own.index.headroom p x c.at-element.result c.advance.new.self c.args.is_destroyed n own.index.lists place))

pub set-requires : goal.set-requires
set-requires c =
    let takes = subst (λ (d : Scheduled). Takes d.rows c.args.slot c.args.sends c.args.elem) (sym c.self.view_is) c.requires.takes in
    slot_inside c.self.inside.elements.entries c.args.slot _ takes.receiver

pub invariant_of-self : goal.invariant_of-self
invariant_of-self c =
    let here : c.args.at_home ≡ home c.args.elem c.self.inside.processors = c.requires.home ∙ ap (λ (d : Scheduled). home c.args.elem d.processors) (sym c.self.view_is) in
    let old_is : c.readiness_at-old.result ≡ readiness_of c.self.inside.processors c.args.elem c.at-element.result = c.readiness_at-old.ensures ∙ ap (λ h. readiness_at h c.at-element.result) here in
    let new_is : c.readiness_at-new.result ≡ readiness_of c.self.inside.processors c.args.elem c.advance.new.self = c.readiness_at-new.ensures ∙ ap (λ h. readiness_at h c.advance.new.self) here in
    let place_is : c.place_after-place.result ≡ (if c.args.is_destroyed then None else Some (unwrap_or c.at-element.result.place (home c.args.elem c.self.inside.processors))) = c.place_after-place.ensures ∙ ap (λ h. if c.args.is_destroyed then None else Some (unwrap_or c.at-element.result.place h)) here in
    let own = c.self.inside in
    let p = own.processors in
    let rows = own.elements.entries in
    let x = c.args.elem in
    let h = c.self.invariant in
    let fs = c.set.new.self.entries in
    let e = c.advance.new.self in
    let takes = subst (λ (d : Scheduled). Takes d.rows c.args.slot c.args.sends x) (sym c.self.view_is) c.requires.takes in
    let is = element_is rows c.args.slot x c.at-element.result takes.receiver c.at-element.ensures ∙ sym (element_risen x rows) in
    let was : (readiness_of p x c.at-element.result).on < p = subst (λ (f : Element). (readiness_of p x f).on < p) (sym is) (h.within x) in
    let place = ap (λ (f : Element). f.place) c.advance.ensures ∙ place_is in
    let put : risen fs ≡ insert_entry elem_cmp (risen rows) x e = c.set.ensures.risen x (element_in rows x) takes.receiver in
    let old : readiness_by p rows x ≡ c.readiness_at-old.result = sym (old_is ∙ ap (readiness_of p x) is) in
    let new : readiness_by p fs x ≡ c.readiness_at-new.result = stands_here p rows fs x e put ∙ sym new_is in
    tied_otherwise p rows fs own.pending own.index c.update_readiness.new.index x e h put
    (delivered_within p h.some_processors x c.at-element.result e c.args.is_destroyed was place)
    (c.update_readiness.ensures.index h.place (readiness_by p rows) (readiness_by p fs) h.are h.index h.climbs old new (stands_else p rows fs x e put))
    c.update_readiness.ensures.len c.update_readiness.ensures.next c.update_readiness.ensures.headroom

pub returns-clause-sent : goal.returns-clause-sent
returns-clause-sent c =
    let rows = c.self.inside.elements.entries in
    let x = c.args.elem in
    let takes = subst (λ (d : Scheduled). Takes d.rows c.args.slot c.args.sends x) (sym c.self.view_is) c.requires.takes in
    ap (λ (e : Element). e.sent) (element_is rows c.args.slot x c.at-element.result takes.receiver c.at-element.ensures ∙ sym (element_risen x rows))
    ∙ ap (λ (d : Scheduled). (element_at (risen d.rows) x).sent) c.self.view_is

pub returns-clause-risen : goal.returns-clause-risen
returns-clause-risen c =
    let here : c.args.at_home ≡ home c.args.elem c.self.inside.processors = c.requires.home ∙ ap (λ (d : Scheduled). home c.args.elem d.processors) (sym c.self.view_is) in
    let place_is : c.place_after-place.result ≡ (if c.args.is_destroyed then None else Some (unwrap_or c.at-element.result.place (home c.args.elem c.self.inside.processors))) = c.place_after-place.ensures ∙ ap (λ h. if c.args.is_destroyed then None else Some (unwrap_or c.at-element.result.place h)) here in
    let own = c.self.inside in
    let rows = own.elements.entries in
    let x = c.args.elem in
    let takes = subst (λ (d : Scheduled). Takes d.rows c.args.slot c.args.sends x) (sym c.self.view_is) c.requires.takes in
    let is : c.at-element.result ≡ element_at (risen rows) x = element_is rows c.args.slot x c.at-element.result takes.receiver c.at-element.ensures ∙ sym (element_risen x rows) in
    c.set.ensures.risen x (element_in rows x) takes.receiver
    ∙ ap (insert_entry elem_cmp (risen rows) x) (c.advance.ensures ∙ ap (λ o. counted c.at-element.result o c.args.sends) place_is
    ∙ ap (λ (e : Element). counted e (if c.args.is_destroyed then None else Some (unwrap_or e.place (home x own.processors))) c.args.sends) is)
    ∙ ap (λ (d : Scheduled). insert_entry elem_cmp (risen d.rows) x (counted (element_at (risen d.rows) x) (if c.args.is_destroyed then None else Some (unwrap_or (element_at (risen d.rows) x).place (home x d.processors))) c.args.sends)) c.self.view_is
