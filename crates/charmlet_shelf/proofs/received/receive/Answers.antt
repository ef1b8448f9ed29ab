use Rattle.std.proofs.Common.{rules, ap, ◌∙◌}
use Rattle.charmlet_model.specs.Reaction.{kind_version_of}
use Rattle.charmlet_shelf.proofs.Becoming.{becomes_left, kind_version_kept}
use Rattle.charmlet_shelf.proofs.received.receive.Goals as goal

pub returns-then-stays-clause-ok : goal.returns-then-stays-clause-ok
returns-then-stays-clause-ok g c =
    becomes_left c.args.is_there (g.C.Chare.state c.args.object.now) c.args.to c.args.entry c.args.words.now c.into_output.result (search rules) (search rules)

pub returns-clause-kind_version : goal.returns-clause-kind_version
returns-clause-kind_version g c =
    ap kind_version_of c.in_ok-enter.ensures.state
    ∙ kind_version_kept c.args.to (g.C.Chare.state c.args.object.now) c.args.entry c.args.words.now
