use Rattle.std.proofs.Common.{sym, subst, arith}
use Rattle.charmlet_stock.specs.ByKind.{at}
use Rattle.charmlet_cli_workers.specs.Said.{IsWithin}
use Rattle.charmlet_cli_workers.proofs.inquiries.count.Goals as goal

pub overflow_sub-result : goal.overflow_sub-result
overflow_sub-result c = let within : IsWithin c.get-tally.result.now = subst IsWithin (sym c.get-tally.ensures) c.requires in omega arith

pub overflow_sub-result-2 : goal.overflow_sub-result-2
overflow_sub-result-2 c = let within : IsWithin c.get-tally.result.now = subst IsWithin (sym c.get-tally.ensures) c.requires in omega arith

pub returns-clause-whole : goal.returns-clause-whole
returns-clause-whole c = let within : IsWithin (at c.args.census.now c.args.kind) = c.requires in omega arith
