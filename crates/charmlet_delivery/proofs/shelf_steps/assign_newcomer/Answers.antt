use Rattle.std.proofs.Common.{sym, ap, subst, refl}
use Rattle.std.specs.Prelude.{IsSome}
use Rattle.charmlet_model.specs.KindVersion.{kind_of_version}
use Rattle.charmlet_model.specs.Reaction.{kind_version_of}
use Rattle.charmlet_shelf.specs.Due.{newcomer_due}
use Rattle.charmlet_stock.proofs.Blanks.{taken_blanks}
use Rattle.charmlet_delivery.proofs.Counting.{one_newcomer, placed_as_before}
use Rattle.charmlet_delivery.proofs.shelf_steps.assign_newcomer.Goals as goal

pub returns-in-Ok-clause-blanks : goal.returns-in-Ok-clause-blanks
returns-in-Ok-clause-blanks g c =
    let some = c.take_as.ensures.some (subst IsSome (sym c.in-Some.is) refl) in
    taken_blanks c.args.stock.now c.take_as.new.self c.args.kind_version some.0

pub returns-in-Ok-clause-held : goal.returns-in-Ok-clause-held
returns-in-Ok-clause-held g c =
    let state = g.C.Chare.state in
    let object = c.in-Some.object in
    let some = c.take_as.ensures.some (subst IsSome (sym c.in-Some.is) refl) in
    let due = newcomer_due c.args.message (kind_version_of (state object)) c.args.counts.sent c.args.counts.received in
    placed_as_before state object c.args.shelf.now c.assign_new.new.self c.args.stock.now c.take_as.new.self (kind_of_version c.args.kind_version) (ap kind_of_version c.in-Some.ensures.kind_version) some.0 some.1
    (one_newcomer state object c.args.shelf.now c.assign_new.new.self due c.requires.idle refl refl c.in-Ok.ensures.ok.1)
