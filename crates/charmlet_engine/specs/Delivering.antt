-- What deliveries one after another do to a store.
use Rattle.std.specs.Prelude.{◌≡◌, ◌⊎◌, ℕ, zero, suc, ◌<◌, ◌≤◌, Bool, true, false, Option, Some, None, Result, Ok, Err}
use Rattle.charmlet_model.specs.declared.names.MsgId.{MsgId}
use Rattle.charmlet_model.specs.declared.refusal.Refusal.{Refusal}
use Rattle.charmlet_model.specs.Run.{StoreView, IsDelivered, IsNotDelivered}
use Rattle.charmlet_history.specs.Kept.{next_in}

-- the oldest message that can be delivered is delivered on its processor, or there is none, or its
-- delivery is refused
abbrev pub DeliversNext : StoreView → Result Bool Refusal → StoreView → Type 0
DeliversNext store (Ok true) last = (processor : ℕ) × (id : MsgId)
    × (next_in store.core ≡ Some (processor, id)) × IsDelivered store processor id last
DeliversNext store (Ok false) last = (next_in store.core ≡ None) × (last ≡ store)
DeliversNext store (Err refusal) last = (processor : ℕ) × (id : MsgId)
    × (next_in store.core ≡ Some (processor, id)) × IsNotDelivered store processor id refusal last

-- this many deliveries one after another, each of the oldest message that can be delivered
abbrev pub Drains : StoreView → ℕ → StoreView → Type 0
Drains store zero last = last ≡ store
Drains store (suc k) last = (mid : StoreView) × Drains store k mid × DeliversNext mid (Ok true) last

-- A drain of up to n deliveries stops after k of them: these were all, or no message can be
-- delivered any more, or the next delivery is refused.
abbrev pub Stops : (n k : ℕ) → StoreView → Option Refusal → StoreView → Type 0
Stops n k store None last = ((k ≡ n) ⊎ (next_in store.core ≡ None)) × (last ≡ store)
Stops n k store (Some refusal) last = (k < n) × DeliversNext store (Err refusal) last

-- a drain of up to n deliveries makes k of them and stops
abbrev pub DrainsUpTo : StoreView → (n k : ℕ) → Option Refusal → StoreView → Type 0
DrainsUpTo store n k refusal last = (k ≤ n)
    × ((mid : StoreView) × Drains store k mid × Stops n k mid refusal last)
