-- The catch-up list by element.
use Rattle.charmlet_record.specs.Reading.{Kinds}
use Rattle.std.proofs.Common.{◌≡◌, Bool, true, false, cond, List, [], ◌∷◌, refl, sym, ap, subst, ◌∙◌}
use Rattle.std.specs.Prelude.{Option, Some, None, nat_le}
use Rattle.std.specs.Ordering.{eq_by_cmp}
use Rattle.charmlet_model.specs.declared.names.Elem.{Elem}
use Rattle.charmlet_model.specs.declared.state.Record.{Record}
use Rattle.charmlet_model.specs.declared.reaction.Reaction.{Reaction}
use Rattle.charmlet_model.specs.Names.{elem_cmp, same_elem}
use Rattle.charmlet_model.specs.Own.{advanced_if}
use Rattle.charmlet_model.specs.World.{record_at, advanced}
use Rattle.charmlet_model.proofs.Maps.{same_from_test, same_elem-is}
use Rattle.charmlet_recovery.proofs.Moments.{advanced-here, advanced-elsewhere}
use Rattle.charmlet_model.specs.declared.logged.CatchUpEntry.{CatchUpEntry}
use Rattle.charmlet_recovery.specs.Bases.{reaction, records_after, redelivered, redelivered_all}
use Rattle.charmlet_recovery.specs.Replays.{caught_own, deliveries_to}

here : (entries : List (Elem × Record)) (y : Elem) (b : Bool) (o : Option Reaction) →
    record_at (cond b entries (records_after entries y (record_at entries y) o)) y ≡ cond b (record_at entries y) (advanced_if (record_at entries y) o)
here entries y true o = refl
here entries y false None = refl
here entries y false (Some o) = advanced-here entries y (advanced (record_at entries y) o)

elsewhere : (entries : List (Elem × Record)) (y x : Elem) (b : Bool) (o : Option Reaction) → eq_by_cmp elem_cmp x y ≡ false →
    record_at (cond b entries (records_after entries y (record_at entries y) o)) x ≡ record_at entries x
elsewhere entries y x true o apart = refl
elsewhere entries y x false None apart = refl
elsewhere entries y x false (Some o) apart = advanced-elsewhere entries y (advanced (record_at entries y) o) x apart

one : (manifest : Kinds) (entries : List (Elem × Record)) (d : CatchUpEntry) (rest : List CatchUpEntry) (x : Elem) →
    caught_own manifest (record_at (redelivered manifest entries d) x) rest ≡ caught_own manifest (record_at entries x) (cond (same_elem x d.message.to) (d ∷ rest) rest)
one manifest entries d rest x =
    let y = d.message.to in
    let late = nat_le d.received (record_at entries y).received in
    let o = reaction manifest (record_at entries y) d.message in
    elim (same_elem x y) as (λ b. same_elem x y ≡ b → caught_own manifest (record_at (redelivered manifest entries d) x) rest ≡ caught_own manifest (record_at entries x) (cond b (d ∷ rest) rest)) [
      | true ↦ λ same.
          subst (λ z. caught_own manifest (record_at (redelivered manifest entries d) z) rest ≡ caught_own manifest (record_at entries z) (d ∷ rest)) (sym (same_from_test x y same))
          (ap (λ r. caught_own manifest r rest) (here entries y late o))
      | false ↦ λ apart. ap (λ r. caught_own manifest r rest) (elsewhere entries y x late o (sym (same_elem-is x y) ∙ apart))
    ] refl

pub caught_up-own : (manifest : Kinds) (entries : List (Elem × Record)) (ds : List CatchUpEntry) (x : Elem) → record_at (redelivered_all manifest entries ds) x ≡ caught_own manifest (record_at entries x) (deliveries_to x ds)
caught_up-own manifest entries [] x = refl
caught_up-own manifest entries (d ∷ ds) x = caught_up-own manifest (redelivered manifest entries d) ds x ∙ one manifest entries d (deliveries_to x ds) x
