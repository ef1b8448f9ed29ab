use Rattle.std.proofs.Common.{◌≡◌, ℕ, ◌++◌, List, length, drop, ap, ◌∙◌}
use Rattle.charmlet_image.specs.Images.{spell_header}
use Rattle.charmlet_image.proofs.HalfViews.{length-spell_header}
use Rattle.charmlet_persist.proofs.snapshot.image.fill_header.Goals as goal

pub returns : goal.returns
returns c =
    let header = c.args.header.now in
    let bytes : c.deref.result.now ≡ spell_header header = c.deref.ensures.value ∙ c.write_header.ensures.bytes ∙ ap (λ (t : List ℕ). t ++ spell_header header) c.in_ok-bytes.ensures.items in
    c.overwrite.ensures
    ∙ (λ i. bytes i ++ drop (length (bytes i)) c.args.out.now.items)
    ∙ ap (λ (k : ℕ). spell_header header ++ drop k c.args.out.now.items) (length-spell_header header)
