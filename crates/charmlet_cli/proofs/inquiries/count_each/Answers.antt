use Rattle.charmlet_script_output.specs.Shown.{IsWhole, counted_of}
use Rattle.charmlet_script_output.proofs.Enough.{by_kind}
use Rattle.charmlet_cli.proofs.inquiries.count_each.Goals as goal

pub returns-clause-whole : goal.returns-clause-whole
returns-clause-whole g c =
    by_kind (λ kind. IsWhole (counted_of c.args.engine.now kind)) c.count.ensures.whole c.count-2.ensures.whole c.count-3.ensures.whole c.count-4.ensures.whole c.count-5.ensures.whole
    c.count-6.ensures.whole
