use Rattle.std.proofs.Common.{◌≡◌, ap, ◌∙◌, arith, if◌then◌else◌}
use Rattle.std.specs.Prelude.{None, Some, unwrap_or}
use Rattle.std.specs.BTreeMap.{insert_entry}
use Rattle.charmlet_model.specs.Core.{home}
use Rattle.charmlet_model.specs.Names.{elem_cmp}
use Rattle.charmlet_world.specs.declared.element.Element.{Element}
use Rattle.charmlet_world.specs.Changed.{counted}
use Rattle.charmlet_world.specs.Standing.{element_in, risen}
use Rattle.charmlet_world.proofs.Showing.{element_is, slot_inside}
use Rattle.charmlet_log_scan.proofs.world.advance.advance.Goals as goal

pub at-element-requires : goal.at-element-requires
at-element-requires c = slot_inside c.args.elements.now.entries c.args.slot _ c.requires.receiver

pub advance-requires-clause-sent : goal.advance-requires-clause-sent
advance-requires-clause-sent c =
    let rows = c.args.elements.now.entries in
    let sent : c.at-element.result.sent ≡ (element_in rows c.args.elem).sent = ap (λ (e : Element). e.sent) (element_is rows c.args.slot c.args.elem c.at-element.result c.requires.receiver c.at-element.ensures) in
    omega (arith, sent, c.requires.sent)

pub advance-requires-clause-received : goal.advance-requires-clause-received
advance-requires-clause-received c =
    let rows = c.args.elements.now.entries in
    let received : c.at-element.result.received ≡ (element_in rows c.args.elem).received = ap (λ (e : Element). e.received) (element_is rows c.args.slot c.args.elem c.at-element.result c.requires.receiver c.at-element.ensures) in
    omega (arith, received, c.requires.received)

pub set-requires : goal.set-requires
set-requires c = slot_inside c.args.elements.now.entries c.args.slot _ c.requires.receiver

pub returns-clause-sent : goal.returns-clause-sent
returns-clause-sent c = ap (λ (e : Element). e.sent) (element_is c.args.elements.now.entries c.args.slot c.args.elem c.at-element.result c.requires.receiver c.at-element.ensures)

pub returns-clause-risen : goal.returns-clause-risen
returns-clause-risen c =
    let rows = c.args.elements.now.entries in
    let x = c.args.elem in
    let is = element_is rows c.args.slot x c.at-element.result c.requires.receiver c.at-element.ensures in
    let advanced = c.advance.ensures ∙ (λ i. counted c.at-element.result (c.place_after-place.ensures i) c.args.sends) in
    c.set.ensures.risen x (element_in rows x) c.requires.receiver
    ∙ ap (insert_entry elem_cmp (risen rows) x) advanced
    ∙ ap (λ (e : Element). insert_entry elem_cmp (risen rows) x (counted e (if c.args.is_destroyed then None else Some (unwrap_or e.place (home x c.args.processors))) c.args.sends)) is
