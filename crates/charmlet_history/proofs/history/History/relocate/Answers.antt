use Rattle.std.proofs.Common.{◌≡◌, sym, ap, subst, ◌∙◌}
use Rattle.std.specs.Prelude.{None, OnErr, Some}
use Rattle.std.specs.Ordering.{nat_cmp}
use Rattle.std.specs.BTreeMap.{is_at}
use Rattle.std.specs.Map.{lookup}
use Rattle.std.proofs.lemmas.Bool.{eq-eqb, ne_eqb}
use Rattle.charmlet_model.specs.World.{message_among}
use Rattle.charmlet_model.specs.Core as core
use Rattle.charmlet_model.specs.Core.{first_refusal, checks, next_core}
use Rattle.charmlet_model.proofs.Fits.{IfSome-map}
use Rattle.charmlet_world.specs.declared.element.Element.{Element}
use Rattle.charmlet_world.specs.Seen.{element_at, seen}
use Rattle.charmlet_history.specs.Delivered.{relocated}
use Rattle.charmlet_history.specs.Kept.{Kept, IsConsistent, core_in, place_or_home_in, plenty}
use Rattle.charmlet_history.specs.Whole.{HasReceiver, IsWhole, kept_of}
use Rattle.charmlet_history.proofs.MovesLemmas.{moved_core, moved_consistent, moves_there, moves_within, stays_there}
use Rattle.charmlet_history.proofs.Rooms.{HasEntry, HasReceiverIn, entry_stays}
use Rattle.charmlet_history.proofs.Shown.{kept_with}
use Rattle.charmlet_history.proofs.history.History.relocate.Goals as goal

pub returns-then-place_or_home-processor-clause-ok : goal.returns-then-place_or_home-processor-clause-ok
returns-then-place_or_home-processor-clause-ok c =
    let k = kept_of c.self.inside in
    let x = c.args.elem in
    let p = c.args.processor in
    let can : first_refusal (checks (core_in k) plenty (core.Move x p)) ≡ None = subst (λ (k : Kept). first_refusal (checks (core_in k) plenty (core.Move x p)) ≡ None) (sym c.self.view_is) c.requires.can in
    subst (λ (k : Kept). core_in k ≡ next_core (core_in k) (core.Move x p)) c.self.view_is
    (stays_there k c.self.invariant.consistent x p can (eq-eqb (place_or_home_in k x) p (sym c.place_or_home.ensures ∙ c.if-place_or_home-processor.true)))

pub relocate-requires-clause-processor : goal.relocate-requires-clause-processor
relocate-requires-clause-processor c =
    let k = kept_of c.self.inside in
    let can : first_refusal (checks (core_in k) plenty (core.Move c.args.elem c.args.processor)) ≡ None = subst (λ (k : Kept). first_refusal (checks (core_in k) plenty (core.Move c.args.elem c.args.processor)) ≡ None) (sym c.self.view_is) c.requires.can in
    moves_within k c.self.invariant.consistent c.args.elem c.args.processor can

pub relocate-requires-clause-there : goal.relocate-requires-clause-there
relocate-requires-clause-there c =
    let k = kept_of c.self.inside in
    let can : first_refusal (checks (core_in k) plenty (core.Move c.args.elem c.args.processor)) ≡ None = subst (λ (k : Kept). first_refusal (checks (core_in k) plenty (core.Move c.args.elem c.args.processor)) ≡ None) (sym c.self.view_is) c.requires.can in
    moves_there k c.self.invariant.consistent c.args.elem c.args.processor can

pub invariant_of-self : goal.invariant_of-self
invariant_of-self c =
    let same : c.relocate.new.self ≡ c.self.inside.present = subst (λ r. OnErr r (c.relocate.new.self ≡ c.self.inside.present)) (c.in_err-relocate.was {u = tt}) c.relocate.ensures.err in
    subst IsWhole (λ i. record c.self.inside { present = sym same i }) c.self.invariant

pub invariant_of-self-2 : goal.invariant_of-self-2
invariant_of-self-2 c =
    let h = c.self.inside in
    let k = kept_of h in
    let x = c.args.elem in
    let p = c.args.processor in
    let room = c.self.invariant.room in
    let can : first_refusal (checks (core_in k) plenty (core.Move x p)) ≡ None = subst (λ (k : Kept). first_refusal (checks (core_in k) plenty (core.Move x p)) ≡ None) (sym c.self.view_is) c.requires.can in
    let away = ne_eqb (place_or_home_in k x) p (λ same. c.if-place_or_home-processor.false (c.place_or_home.ensures ∙ same)) in
    let put : kept_of (record h { present = c.relocate.new.self }) ≡ relocated k x p = λ i. kept_with k (c.in_ok-relocate.ensures.seen i) (c.in_ok-relocate.ensures.promised i) in
    let w : Element = record (element_at k.elements x) { place = Some p } in
    record {
      consistent = subst IsConsistent (sym put) (moved_consistent k c.self.invariant.consistent x p can away);
      room = record {
        events = room.events;
        bytes = room.bytes;
        receivers = λ q. IfSome-map (HasReceiver k) (λ id. HasReceiverIn id (seen c.relocate.new.self)) (lookup (is_at (nat_cmp q)) h.assigned.entries)
            (λ id there. subst (HasReceiverIn id) (sym c.in_ok-relocate.ensures.seen)
            (IfSome-map (HasEntry k.elements) (λ m. HasEntry (relocated k x p).elements m) (message_among id k.pending) (λ m there. entry_stays k.elements x w m there) there)) (room.receivers q);
      };
    }

pub returns-clause-ok : goal.returns-clause-ok
returns-clause-ok c =
    let h = c.self.inside in
    let k = kept_of h in
    let x = c.args.elem in
    let p = c.args.processor in
    let can : first_refusal (checks (core_in k) plenty (core.Move x p)) ≡ None = subst (λ (k : Kept). first_refusal (checks (core_in k) plenty (core.Move x p)) ≡ None) (sym c.self.view_is) c.requires.can in
    let away = ne_eqb (place_or_home_in k x) p (λ same. c.if-place_or_home-processor.false (c.place_or_home.ensures ∙ same)) in
    let put : kept_of (record h { present = c.relocate.new.self }) ≡ relocated k x p = λ i. kept_with k (c.in_ok-relocate.ensures.seen i) (c.in_ok-relocate.ensures.promised i) in
    ap core_in put ∙ moved_core k c.self.invariant.consistent x p can away ∙ ap (λ (k : Kept). next_core (core_in k) (core.Move x p)) c.self.view_is
