use Rattle.std.proofs.Common.{◌≡◌}
use Rattle.charmlet_engine.specs.Wanted.{blanks_in}
use Rattle.charmlet_script.specs.Script.{blanks_of}
use Rattle.charmlet_script_output.proofs.Enough.{by_kind}
use Rattle.charmlet_script_output.proofs.restarted_line.supplied_at_restart.Goals as goal

pub returns : goal.returns
returns c =
    by_kind
    (λ kind. blanks_in (record { counters = c.blanks.result; rings = c.blanks-2.result; accounts = c.blanks-3.result; sums = c.blanks-4.result; trees = c.blanks-5.result; tapes = c.blanks-6.result }) kind ≡ blanks_of kind c.args.script.now.lines)
    c.blanks.ensures c.blanks-2.ensures c.blanks-3.ensures c.blanks-4.ensures c.blanks-5.ensures c.blanks-6.ensures
