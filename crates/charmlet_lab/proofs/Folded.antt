-- Worlds after the first events of a legal history.
use Rattle.std.proofs.Common.{◌≡◌, ℕ, ◌+◌, true, List, [], ◌∷◌, ◌++◌, take, drop, sym, subst, take-append-drop}
use Rattle.charmlet_model.specs.declared.event.Event.{Event}
use Rattle.charmlet_model.specs.World.{IsLegal, World, can, can_all, world}
use Rattle.charmlet_model.proofs.Lasts.{can_all-rest}
use Rattle.charmlet_model.proofs.Maps.{both_parts}
use Rattle.charmlet_recovery.proofs.Sealed.{can-take}
use Rattle.charmlet_recovery.proofs.Writing.{legal_histories_part}

-- the first events are legal too
pub legal_front : (w : World) (events : List Event) (k : ℕ) → IsLegal w 0 events → IsLegal w 0 (take k events)
legal_front w events k legal = (legal_histories_part w 0 (take k events) (drop k events) (subst (IsLegal w 0) (sym (take-append-drop k events)) legal)).earlier_is

-- and the next one can happen after them
pub can_next : (w : World) (events : List Event) (i : ℕ) (e : Event) → can_all w events ≡ true → take (i + 1) events ≡ take i events ++ e ∷ [] → can (world w (take i events)) e ≡ true
can_next w events i e able more =
    let front = subst (λ (es : List Event). can_all w es ≡ true) more (can-take w (i + 1) events able) in
    (both_parts (can (world w (take i events)) e) true (can_all-rest w (take i events) (e ∷ []) front)).0
