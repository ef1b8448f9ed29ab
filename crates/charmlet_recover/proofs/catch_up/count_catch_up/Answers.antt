use Rattle.std.proofs.Common.{◌≡◌, ◌+◌, ◌∷◌, ◌&&◌, List, drop, length, sym, ap, ◌∙◌, arith}
use Rattle.charmlet_model.specs.declared.logged.CatchUpEntry.{CatchUpEntry}
use Rattle.charmlet_model.specs.declared.logged.Effect.TheVariants.{Constructed}
use Rattle.charmlet_image.specs.Positioned.{items_of}
use Rattle.charmlet_recovery.specs.Blanks.{array_is, is_of, one_if, wanted_by_catch_up, with_count}
use Rattle.charmlet_recovery.specs.Faults.{same_effect}
use Rattle.charmlet_recover.specs.Maps.{records_with}
use Rattle.std.proofs.lemmas.List.{length-map}
use Rattle.charmlet_recover.proofs.Steps.{item_left}
use Rattle.charmlet_recover.proofs.CatchUps.{few_of_catch_up}
use Rattle.charmlet_recover.proofs.catch_up.count_catch_up.Goals as goal

pub count-requires : goal.count-requires
count-requires c = λ kind.
    let manifest = c.args.manifest.now in
    let d : CatchUpEntry = c.placed-item.result.item in
    let counts = records_with c.loop-placed.received.entries in
    let left : List CatchUpEntry = items_of (drop (c.loop-placed.placed-index + 1) c.args.caught_up.now) in
    let here : items_of (drop c.loop-placed.placed-index c.args.caught_up.now) ≡ d ∷ left = item_left c.args.caught_up.now c.loop-placed.placed-index c.placed-item.result c.loop-placed-test.true c.placed-item.is in
    let made = c.kind_version_made.ensures kind ∙ ap (λ b. b && same_effect d.effect Constructed && array_is manifest kind d.message.to.array) c.in_ok-is_new.ensures.new in
    let split : wanted_by_catch_up manifest kind counts (items_of (drop c.loop-placed.placed-index c.args.caught_up.now))
    ≡ one_if (is_of kind c.kind_version_made.result) + wanted_by_catch_up manifest kind (with_count counts d) left =
    ap (wanted_by_catch_up manifest kind counts) here ∙ ap (λ b. one_if b + wanted_by_catch_up manifest kind (with_count counts d) left) (sym made) in
    let few = few_of_catch_up manifest kind (records_with c.args.received.now.entries) (items_of c.args.caught_up.now) in
    let long : length (items_of c.args.caught_up.now) ≡ length c.args.caught_up.now = length-map _ _ in
    let sum = c.loop-placed.invariant kind in
    omega arith
