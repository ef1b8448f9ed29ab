use Rattle.std.proofs.Common.{◌≡◌, ℕ, ◌+◌, List, sym, ap, subst, ◌∙◌, arith}
use Rattle.std.specs.Prelude.{OnErr, OnOk, Result, Ok, Err}
use Rattle.charmlet_model.specs.declared.kind.Kind.{Kind}
use Rattle.charmlet_model.specs.Shelves.{AddsUp}
use Rattle.charmlet_chare.specs.declared.chare.Chare.{Ghosts}
use Rattle.charmlet_shelf.specs.Shelf.{View}
use Rattle.charmlet_stock.specs.declared.stock.Stock.{Stock}
use Rattle.charmlet_stock.specs.Pile.{supplied_more}
use Rattle.charmlet_stock.specs.Stock.{census_of, tally_in}
use Rattle.charmlet_stock.proofs.Room.{by_kind}
use Rattle.charmlet_migrate.specs.Moving.{IsCountedAmong, objects_among}
use Rattle.charmlet_store.specs.Store.{store_in, supplied_in}
use Rattle.charmlet_history.specs.Kept.{core_in}
use Rattle.charmlet_stock.specs.declared.by_kind.ByKind.{ByKind}
use Rattle.charmlet_stock.specs.declared.pile.Tally.{Tally}
use Rattle.charmlet_stock.specs.ByKind.{at, with_at}
use Rattle.std.proofs.lemmas.Result.{on_err_weaker}
use Rattle.charmlet_store.proofs.store.Store.transfer_from.Goals as goal

-- the census adds up whether they are drawn or not
still_counted : {C T E : Type 0} {G : Ghosts C} (Q : Type 0) (shelves : List View) (old new : Stock C G) (kind : Kind) (count : ℕ) (result : Result T E) → IsCountedAmong shelves old →
    OnOk result (census_of new ≡ with_at (census_of old) kind (supplied_more (tally_in old kind) count)) → OnErr result ((census_of new ≡ census_of old) × Q) → IsCountedAmong shelves new
still_counted Q shelves old new kind count (Ok x) counted ok err =
    by_kind (census_of old) (census_of new) kind (supplied_more (tally_in old kind) count) ok (λ k (t : Tally). t.supplied ≡ objects_among shelves k + t.in_stock + t.retired)
    (let here = counted kind in omega arith) (λ k apart. counted k)
still_counted Q shelves old new kind count (Err e) counted ok err =
    subst (λ (v : ByKind Tally). AddsUp (λ kind. (at v kind).supplied) (objects_among shelves) (λ kind. (at v kind).in_stock) (λ kind. (at v kind).retired)) (sym err.0) counted

pub invariant_of-self : goal.invariant_of-self
invariant_of-self g c =
    let was = c.self.invariant in
    record {
      count = was.count;
      numbers = was.numbers;
      idle = was.idle;
      objects = was.objects;
      census = still_counted _ c.self.inside.shelves.items c.self.inside.stock c.transfer_from.new.self c.args.kind c.args.count c.transfer_from.result was.census c.transfer_from.ensures.drawn c.transfer_from.ensures.err;
    }

pub returns-clause-err : goal.returns-clause-err
returns-clause-err g c =
    on_err_weaker c.transfer_from.result
    (λ same. (
      ap (λ (v : ByKind Tally). record { core = core_in c.self.inside.history; blanks = λ kind. (at v kind).in_stock }) same.0 ∙ ap store_in c.self.view_is,
      ap (λ (v : ByKind Tally). λ kind. (at v kind).supplied) same.0 ∙ ap supplied_in c.self.view_is,
      same.1,
    )) c.transfer_from.ensures.err
