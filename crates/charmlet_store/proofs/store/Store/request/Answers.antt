use Rattle.std.proofs.Common.{refl, sym, subst, ◌∙◌}
use Rattle.charmlet_history.specs.Kept.{core_in, told_or_refused}
use Rattle.charmlet_migrate.specs.Moving.{records_on}
use Rattle.charmlet_store.proofs.Showing.{request_shows}
use Rattle.charmlet_model.specs.Core.{Request}
use Rattle.charmlet_model.specs.Run.{Goes}
use Rattle.charmlet_migrate.specs.Workplace.{store_with}
use Rattle.charmlet_stock.specs.Stock.{blanks_in}
use Rattle.charmlet_store.specs.Store.{StoreShown, store_in}
use Rattle.charmlet_store.proofs.store.Store.request.Goals as goal

pub invariant_of-self : goal.invariant_of-self
invariant_of-self g c =
    let old = c.self.inside in
    let before = core_in old.history in
    let r = c.args.request.now in
    let shows = request_shows (records_on old.shelves.items) before.processors before (λ _. 0)
    (record { answer = told_or_refused c.request.result; core = core_in c.request.new.self; blanks = λ _. 0 }) (record { processors = refl; shows = c.self.invariant.objects })
    c.args.client r.number r.to r.entry r.words.now (c.request.ensures.steps (λ _. 0)) in
    record {
      count = c.self.invariant.count ∙ sym shows.processors;
      numbers = c.self.invariant.numbers;
      idle = c.self.invariant.idle;
      objects = shows.shows;
      census = c.self.invariant.census;
    }

pub returns-clause-goes : goal.returns-clause-goes
returns-clause-goes g c =
    let r = c.args.request.now in
    let old = c.self.inside in
    subst (λ (now : StoreShown). Goes (store_in now) (Request c.args.client r.number r.to r.entry r.words.now) (told_or_refused c.request.result) (store_with c.request.new.self old.stock)) c.self.view_is
    (c.request.ensures.steps (blanks_in old.stock))
