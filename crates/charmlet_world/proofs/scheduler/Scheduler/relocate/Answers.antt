use Rattle.std.proofs.Common.{◌≡◌, ◌<◌, true, false, sym, ap, subst, ◌∙◌, arith}
use Rattle.std.specs.Prelude.{Some, None, Option, is_some, unwrap_or}
use Rattle.std.specs.BTreeMap.{insert_entry}
use Rattle.std.specs.Map.{lookup}
use Rattle.charmlet_model.specs.Names.{elem_cmp, same_elem}
use Rattle.charmlet_ready_queue.specs.declared.index.place.Readiness.{Readiness}
use Rattle.charmlet_world.specs.declared.element.Element.{Element}
use Rattle.charmlet_world.specs.Seen.{element_at, no_element}
use Rattle.charmlet_world.specs.Standing.{element_in, risen}
use Rattle.charmlet_world.specs.Tied.{Scheduled, readiness_by, readiness_of}
use Rattle.charmlet_world.proofs.Showing.{element_is, element_risen, slot_inside}
use Rattle.charmlet_world.proofs.Ties.{stands_else, stands_here}
use Rattle.charmlet_world.proofs.Tying.{home_within, tied_called, tied_kept, tied_otherwise}
use Rattle.charmlet_world.proofs.scheduler.Scheduler.relocate.Goals as goal

absent : (o : Option Element) → false ≡ is_some o → is_some (unwrap_or o no_element).place ≡ true → ⊥
absent None n t = let no : ⊥ = cc in no
absent (Some e) n t = let no : ⊥ = cc in no

pub unreachable-requires : goal.unreachable-requires
unreachable-requires c =
    let rows = c.self.inside.elements.entries in
    let x = c.args.elem in
    absent (lookup (same_elem x) rows) c.in_default.ensures.which
    (ap (λ (e : Element). is_some e.place) (sym (element_risen x rows)) ∙ ap (λ (d : Scheduled). is_some (element_at (risen d.rows) x).place) c.self.view_is ∙ c.requires.there)

pub at-element-requires : goal.at-element-requires
at-element-requires c = slot_inside c.self.inside.elements.entries c.in-Some.slot _ c.in-Some.ensures.found

pub carry-requires-clause-old_on : goal.carry-requires-clause-old_on
carry-requires-clause-old_on c = λ some.
    let own = c.self.inside in
    let p = own.processors in
    let rows = own.elements.entries in
    let x = c.args.elem in
    let len = c.self.invariant.opened (omega (arith, some)) in
    let old : c.readiness_of-old.result ≡ readiness_by p rows x = c.readiness_of-old.ensures ∙ ap (readiness_of p x) (element_is rows c.in-Some.slot x c.at-element.result c.in-Some.ensures.found c.at-element.ensures ∙ sym (element_risen x rows)) in
    subst (λ n. c.readiness_of-old.result.on < n) (sym len) (subst (λ (s : Readiness). s.on < p) (sym old) (c.self.invariant.within x))

pub carry-requires-clause-new_on : goal.carry-requires-clause-new_on
carry-requires-clause-new_on c = λ some.
    let own = c.self.inside in
    let len = c.self.invariant.opened (omega (arith, some)) in
    let count : own.processors ≡ c.args.self.now.processors = ap (λ (d : Scheduled). d.processors) c.self.view_is in
    let on : c.readiness_of-new.result.on ≡ c.args.processor = ap (λ (s : Readiness). s.on) c.readiness_of-new.ensures in
    omega (arith, len, count, on, c.requires.processor)

pub carry-requires-clause-old_home : goal.carry-requires-clause-old_home
carry-requires-clause-old_home c = λ some.
    let own = c.self.inside in
    let p = own.processors in
    let len = c.self.invariant.opened (omega (arith, some)) in
    subst (λ n. c.readiness_of-old.result.home < n) (sym len) (subst (λ (s : Readiness). s.home < p) (sym c.readiness_of-old.ensures) (home_within p c.self.invariant.some_processors c.args.elem))

pub carry-requires-clause-home : goal.carry-requires-clause-home
carry-requires-clause-home c = ap (λ (s : Readiness). s.home) c.readiness_of-new.ensures ∙ sym (ap (λ (s : Readiness). s.home) c.readiness_of-old.ensures)

pub carry-requires-clause-called : goal.carry-requires-clause-called
carry-requires-clause-called c =
    let own = c.self.inside in
    let p = own.processors in
    let rows = own.elements.entries in
    let x = c.args.elem in
    let old : c.readiness_of-old.result ≡ readiness_by p rows x = c.readiness_of-old.ensures ∙ ap (readiness_of p x) (element_is rows c.in-Some.slot x c.at-element.result c.in-Some.ensures.found c.at-element.ensures ∙ sym (element_risen x rows)) in
    tied_called p rows own.pending own.index x c.readiness_of-old.result c.self.invariant (sym old)

pub invariant_of-self : goal.invariant_of-self
invariant_of-self c =
    let own = c.self.inside in
    let e = c.in_err-carry.ensures in
    tied_kept own.processors own.elements.entries own.pending own.index c.carry.new.index c.self.invariant e.err e.len e.next e.headroom

pub set-requires : goal.set-requires
set-requires c = slot_inside c.self.inside.elements.entries c.in-Some.slot _ c.in-Some.ensures.found

pub invariant_of-self-2 : goal.invariant_of-self-2
invariant_of-self-2 c =
    let own = c.self.inside in
    let p = own.processors in
    let rows = own.elements.entries in
    let x = c.args.elem in
    let h = c.self.invariant in
    let fs = c.set.new.self.entries in
    let e : Element = record c.at-element.result { place = Some c.args.processor } in
    let put : risen fs ≡ insert_entry elem_cmp (risen rows) x e = c.set.ensures.risen x (element_in rows x) c.in-Some.ensures.found in
    let old : readiness_by p rows x ≡ c.readiness_of-old.result = sym (c.readiness_of-old.ensures ∙ ap (readiness_of p x) (element_is rows c.in-Some.slot x c.at-element.result c.in-Some.ensures.found c.at-element.ensures ∙ sym (element_risen x rows))) in
    let new : readiness_by p fs x ≡ c.readiness_of-new.result = stands_here p rows fs x e put ∙ sym c.readiness_of-new.ensures in
    let r = c.in_ok-carry.ensures in
    tied_otherwise p rows fs own.pending own.index c.carry.new.index x e h put
    (subst (λ n. c.args.processor < n) (sym (ap (λ (d : Scheduled). d.processors) c.self.view_is)) c.requires.processor)
    (r.ok h.place (readiness_by p rows) (readiness_by p fs) h.are h.index h.climbs old new (stands_else p rows fs x e put))
    r.len r.next r.headroom

pub returns-clause-risen : goal.returns-clause-risen
returns-clause-risen c =
    let rows = c.self.inside.elements.entries in
    let x = c.args.elem in
    let at : c.at-element.result ≡ element_at (risen rows) x =
    element_is rows c.in-Some.slot x c.at-element.result c.in-Some.ensures.found c.at-element.ensures ∙ sym (element_risen x rows) in
    c.set.ensures.risen x (element_in rows x) c.in-Some.ensures.found
    ∙ ap (λ (e : Element). insert_entry elem_cmp (risen rows) x (record e { place = Some c.args.processor })) at
    ∙ ap (λ (d : Scheduled). insert_entry elem_cmp (risen d.rows) x (record (element_at (risen d.rows) x) { place = Some c.args.processor })) c.self.view_is
