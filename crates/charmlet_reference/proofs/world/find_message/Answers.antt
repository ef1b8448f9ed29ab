use Rattle.std.proofs.Common.{◌≡◌, ℕ, ◌+◌, ◌++◌, take, drop, ap, ◌∙◌, add-one, arith}
use Rattle.std.proofs.lemmas.Grind.{common_steps}
use Rattle.charmlet_model.specs.World.{without}
use Rattle.charmlet_reference.proofs.world.find_message.Goals as goal

pub returns-then-eq-clause-place : goal.returns-then-eq-clause-place
returns-then-eq-clause-place c =
    let ms = c.args.messages.now in
    let place = c.loop-place.place in
    let here : without c.args.id ms ≡ take place ms ++ drop (place + 1) ms = grind (arith, common_steps) in
    here ∙ ap (λ (k : ℕ). take place ms ++ drop k ms) (add-one place)
