use Rattle.charmlet_leases.proofs.PassesLemmas.Requests.{none_current}
use Rattle.charmlet_leases.proofs.passes.table.PassTable.new.Goals as goal

pub returns-clause-current : goal.returns-clause-current
returns-clause-current g c = λ core new. none_current _ c.args.authority core c.requires new
