use Rattle.std.proofs.Common.{◌≡◌, ◌+◌, sym, ap, subst, ◌∙◌, arith}
use Rattle.std.specs.Prelude.{IfErr, OnOk, Result, Ok, Err, ℕ}
use Rattle.std.specs.Prelude.{List}
use Rattle.charmlet_model.specs.declared.kind.Kind.{Kind}
use Rattle.charmlet_model.specs.Shelves.{AddsUp, count_of}
use Rattle.charmlet_chare.specs.declared.chare.Chare.{Ghosts}
use Rattle.charmlet_shelf.specs.Shelf.{View}
use Rattle.charmlet_stock.specs.declared.by_kind.ByKind.{ByKind}
use Rattle.charmlet_stock.specs.declared.pile.Tally.{Tally}
use Rattle.charmlet_stock.specs.declared.stock.Stock.{Stock}
use Rattle.charmlet_stock.specs.ByKind.{at}
use Rattle.charmlet_stock.specs.Pile.{supplied_more}
use Rattle.charmlet_stock.specs.Stock.{census_of, tally_in}
use Rattle.charmlet_migrate.specs.Moving.{IsCountedAmong, objects_among}
use Rattle.charmlet_store.specs.Store.{StoreShown}
use Rattle.std.proofs.lemmas.Result.{on_ok_weaker}
use Rattle.charmlet_store.proofs.store.Store.supply.Goals as goal

-- the census adds up whether they are supplied or not
still_counted : {C E : Type 0} {G : Ghosts C} {T : Type 0} (P : E → Type 0) (shelves : List View) (old new : Stock C G) (more : Kind → ℕ) (result : Result T E) → IsCountedAmong shelves old →
    OnOk result ((kind : Kind) → tally_in new kind ≡ supplied_more (tally_in old kind) (more kind)) → IfErr result (λ e. P e × (census_of new ≡ census_of old)) → IsCountedAmong shelves new
still_counted P shelves old new more (Ok x) counted ok err = λ kind.
    let tally = ok kind in
    let before = counted kind in
    let supplied = ap (λ (t : Tally). t.supplied) tally in
    let in_stock = ap (λ (t : Tally). t.in_stock) tally in
    let retired = ap (λ (t : Tally). t.retired) tally in
    omega arith
still_counted P shelves old new more (Err e) counted ok err =
    subst (λ (v : ByKind Tally). AddsUp (λ kind. (at v kind).supplied) (objects_among shelves) (λ kind. (at v kind).in_stock) (λ kind. (at v kind).retired)) (sym err.1) counted

pub invariant_of-self : goal.invariant_of-self
invariant_of-self g c =
    let was = c.self.invariant in
    let state = g.C.Chare.state in
    record {
      count = was.count;
      numbers = was.numbers;
      idle = was.idle;
      objects = was.objects;
      census = still_counted _ c.self.inside.shelves.items c.self.inside.stock c.supply.new.self (count_of state c.args.blanks.items) c.supply.result was.census c.supply.ensures.ok c.supply.ensures.err;
    }

pub returns-clause-ok : goal.returns-clause-ok
returns-clause-ok g c =
    on_ok_weaker c.supply.result (λ all kind. ap (λ (t : Tally). t.in_stock) (all kind) ∙ ap (λ (s : StoreShown). (at s.census kind).in_stock + count_of g.C.Chare.state c.args.blanks.items kind) c.self.view_is) c.supply.ensures.ok

pub returns-clause-supplied : goal.returns-clause-supplied
returns-clause-supplied g c =
    on_ok_weaker c.supply.result (λ all kind. ap (λ (t : Tally). t.supplied) (all kind) ∙ ap (λ (s : StoreShown). (at s.census kind).supplied + count_of g.C.Chare.state c.args.blanks.items kind) c.self.view_is) c.supply.ensures.ok
