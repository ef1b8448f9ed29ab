use Rattle.std.proofs.Common.{sym, subst}
use Rattle.charmlet_leases.specs.Passes.Passes.{AreAll, AreCurrent, IsCurrent, LentPasses}
use Rattle.charmlet_leases.proofs.PassesLemmas.Taken.{all-accepts, all-out}
use Rattle.charmlet_leases.proofs.passes.table.PassTable.close.Goals as goal

pub returns-clause-current : goal.returns-clause-current
returns-clause-current g c = λ core are.
    let each = (subst (λ p. AreCurrent p core) (sym c.self.view_is) are).each in
    all-out (λ held. IsCurrent held core) c.self.inside.authority c.args.passes.items each c.take_all.ensures.only

pub returns-clause-all : goal.returns-clause-all
returns-clause-all g c = subst (λ (p : LentPasses). AreAll p.held c.args.passes.items) c.self.view_is c.take_all.ensures

pub returns-clause-accepts : goal.returns-clause-accepts
returns-clause-accepts g c = λ core are. all-accepts c.self.inside.authority c.self.inside.out c.args.passes.items core (subst (λ p. AreCurrent p core) (sym c.self.view_is) are) c.take_all.ensures
