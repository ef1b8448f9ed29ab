use Rattle.std.proofs.Common.{◌≡◌, true, false, sym, refl, map}
use Rattle.charmlet_model.specs.Names.{elem_cmp}
use Rattle.charmlet_record.specs.Reading.{checked}
use Rattle.charmlet_image.specs.Reading.{rises}
use Rattle.charmlet_image.specs.Views.{entry_said}
use Rattle.charmlet_image.proofs.entries.read_next_element.Goals as goal

pub returns-then-not-rises : goal.returns-then-not-rises
unfolding checked
returns-then-not-rises c =
    let kinds = c.args.manifest.now in
    let test : rises elem_cmp (map (entry_said kinds) c.args.before.now) c.in_ok-element.element ≡ false = sym (c.if-not-rises.ensures kinds) in
    rw (c.left-left.ensures, c.in_ok-element.ensures, test) refl

pub returns : goal.returns
unfolding checked
returns c =
    let kinds = c.args.manifest.now in
    let test : rises elem_cmp (map (entry_said kinds) c.args.before.now) c.in_ok-element.element ≡ true = sym (c.if-not-rises.ensures kinds) in
    rw (c.in_ok-element.ensures, test) refl
