-- Deliveries one after another.
use Rattle.std.proofs.Common.{◌≡◌, inl, inr, ℕ, suc, ◌+◌, Bool, true, Ok, refl, ap, subst, arith}
use Rattle.charmlet_model.specs.declared.names.MsgId.{MsgId}
use Rattle.charmlet_model.specs.declared.step.Answer.{Answer}
use Rattle.charmlet_model.specs.declared.step.Answer.TheVariants as answers
use Rattle.charmlet_model.specs.Core as core
use Rattle.charmlet_model.specs.Run.{Delivers, StoreView}
use Rattle.charmlet_engine.specs.Outcomes.{is_still, not_device}
use Rattle.charmlet_engine.proofs.Quiets.{goes_on}
use Rattle.charmlet_engine.specs.Delivering.{DeliversNext, Drains}

-- one more
pub drains_more : (store mid last : StoreView) (k : ℕ) (more : Bool) → more ≡ true → Drains store k mid → DeliversNext mid (Ok more) last → Drains store (k + 1) last
drains_more store mid last k more is so_far next =
    let one : suc k ≡ k + 1 = omega arith in
    subst (λ (n : ℕ). Drains store n last) one (mid, so_far, subst (λ (b : Bool). DeliversNext mid (Ok b) last) is next)

-- a delivery writes nothing, however it ends
pub delivers_still : (store last : StoreView) (processor : ℕ) (id : MsgId) (answer : Answer) → Delivers store processor id answer last → is_still answer ≡ true
delivers_still store last processor id (answers.Delivered done) delivers = refl
delivers_still store last processor id (answers.Refused refusal) delivers = elim delivers [
  | inl goes ↦ goes_on store last (core.Assign processor id) refusal tt goes
  | inr released ↦ ap not_device released.0
]
delivers_still store last processor id _ delivers = absurd delivers
