use Rattle.std.proofs.Common.{◌≡◌, ◌∙◌, [], sym, ap, subst}
use Rattle.charmlet_world.specs.Seen.{Held}
use Rattle.charmlet_world.specs.Standing.{risen}
use Rattle.charmlet_history.specs.Kept.{IsConsistent, Kept}
use Rattle.charmlet_history.specs.Opened.{with_arrays}
use Rattle.charmlet_history.specs.Whole.{HasReceivers, kept_of}
use Rattle.charmlet_history.proofs.Upgrades.{upgraded_consistent}
use Rattle.charmlet_history.proofs.history.History.upgrade.Goals as goal

pub invariant_of-self : goal.invariant_of-self
invariant_of-self c =
    let h = c.self.inside in
    let k = kept_of h in
    let room = c.self.invariant.room in
    let new : k.events ≡ [] = ap (λ (k : Kept). k.events) c.self.view_is ∙ c.requires.new in
    let unassigned : k.assigned ≡ [] = ap (λ (k : Kept). k.assigned) c.self.view_is ∙ c.requires.unassigned in
    record {
      consistent = subst IsConsistent (sym (λ i. record (kept_of (record h { present = c.upgrade.ensures i })) { opening = with_arrays (c.upgrade.ensures i).manifest (c.of-opening.ensures i) }))
          (upgraded_consistent k c.self.invariant.consistent new unassigned);
      room = record {
        events = room.events;
        bytes = room.bytes;
        receivers = subst (λ (p : Held). HasReceivers (record k { pending = p.pending; elements = risen p.rows })) (sym c.upgrade.ensures) room.receivers;
      };
    }
