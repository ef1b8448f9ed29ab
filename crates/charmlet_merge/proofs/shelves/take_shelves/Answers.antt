use Rattle.std.proofs.Common.{rules, ◌≡◌, ◌+◌, ◌%◌, ◌==◌, List, ◌∷◌, length, refl, sym, ap, subst, ◌∙◌, arith}
use Rattle.charmlet_shelf.specs.Shelf.{View}
use Rattle.charmlet_merge.proofs.Taking.{IsTaking, one_more}
use Rattle.charmlet_merge.proofs.shelves.take_shelves.Goals as goal

pub loop-shelf-preserved : goal.loop-shelf-preserved
loop-shelf-preserved g c =
    let more = c.next.new.self.rest.items in
    let now = c.loop-shelf.shelves.items in
    let place = c.loop-shelf.place in
    let is : c.loop-shelf.shelf-iterator.rest.items ≡ c.in-Some.shelf ∷ more = search rules in
    let fewer : c.next.new.self.rest.len + 1 ≡ c.loop-shelf.shelf-iterator.rest.len = search rules in
    let before = c.loop-shelf.invariant.left ∙ ap length is in
    let taking = subst (λ (vs : List View). IsTaking c.args.worker c.args.workers c.args.shelves.now.items c.args.theirs.items place vs now) is c.loop-shelf.invariant.so_far in
    record {
      left = omega (arith, fewer, before);
      so_far = subst (IsTaking c.args.worker c.args.workers c.args.shelves.now.items c.args.theirs.items (place + 1) more) (sym c.put_if.ensures)
          (one_more c.args.worker c.args.workers c.args.shelves.now.items c.args.theirs.items place c.in-Some.shelf more now taking c.requires.long (place % c.args.workers == c.args.worker) refl);
    }
