use Rattle.charmlet_script_output.specs.Shown.{IsWhole}
use Rattle.charmlet_script_output.proofs.Enough.{by_kind}
use Rattle.charmlet_cli_workers.specs.Said.{counted_by}
use Rattle.charmlet_cli_workers.proofs.inquiries.count_each.Goals as goal

pub returns-clause-whole : goal.returns-clause-whole
returns-clause-whole c =
    by_kind (λ kind. IsWhole (counted_by c.args.census.now kind)) c.count.ensures.whole c.count-2.ensures.whole c.count-3.ensures.whole c.count-4.ensures.whole c.count-5.ensures.whole
    c.count-6.ensures.whole
