use Rattle.std.proofs.Common.{◌≡◌, ◌++◌, [], ◌∷◌, length, sym, ap, ◌∙◌, arith, rules, length-append}
use Rattle.charmlet_shelf.specs.declared.image.Image.{Image}
use Rattle.charmlet_shelf.specs.Risen.{risen}
use Rattle.charmlet_persist.specs.FuzzyCheckpoint.Checkpoint.{with_images}
use Rattle.charmlet_persist.proofs.FuzzyCheckpointLemmas.Images.{last_first}
use Rattle.charmlet_persist.proofs.fuzzy_checkpoint.shelves.capture_all.Goals as goal

pub capture_by-requires : goal.capture_by-requires
capture_by-requires c =
    let last : c.loop-image.images.items ≡ c.pop.new.self.items ++ c.in-Some.image ∷ [] = search rules in
    omega (arith, c.loop-image.invariant.room, ap (length {A = Image}) last, length-append c.pop.new.self.items (c.in-Some.image ∷ []))

pub loop-image-preserved : goal.loop-image-preserved
loop-image-preserved c =
    let image = c.in-Some.image in
    let last : c.loop-image.images.items ≡ c.pop.new.self.items ++ image ∷ [] = search rules in
    let one = ap (length {A = Image}) last in
    let sum = length-append c.pop.new.self.items (image ∷ []) in
    record {
      captured = ap (λ s. with_images s c.pop.new.self.items) c.capture_by.ensures.captured
          ∙ sym (last_first (risen c.loop-image.table.entries) c.pop.new.self.items image)
          ∙ ap (with_images (risen c.loop-image.table.entries)) (sym last)
          ∙ c.loop-image.invariant.captured;
      room = omega (arith, one, sum, c.capture_by.ensures.room, c.loop-image.invariant.room);
      used = omega (arith, one, sum, c.capture_by.ensures.room, c.loop-image.invariant.used);
    }
