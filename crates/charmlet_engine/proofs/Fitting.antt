-- Stores whose history goes on, and whose parts fit together as before.
use Rattle.std.proofs.Common.{◌≡◌, ℕ, List, Result, refl, sym, subst, ◌∙◌}
use Rattle.charmlet_model.specs.declared.names.Elem.{Elem}
use Rattle.charmlet_model.specs.declared.refusal.Refusal.{Refusal}
use Rattle.charmlet_model.specs.declared.told.Told.{Told}
use Rattle.charmlet_model.specs.Core.{Blanks, CoreAnswer, Flush, Request, Steps}
use Rattle.charmlet_chare.specs.declared.chare.Chare.{Ghosts}
use Rattle.charmlet_history.specs.declared.history.History.{History}
use Rattle.charmlet_history.specs.Kept.{core_in, told_or_refused}
use Rattle.charmlet_shelf.specs.Shelf.{View}
use Rattle.charmlet_stock.specs.declared.stock.Stock.{Stock}
use Rattle.charmlet_migrate.specs.Moving.{records_on}
use Rattle.charmlet_persist.specs.Snapshot.Showing.{IsShown}
use Rattle.charmlet_migrate.specs.StoreParts.{FitTogether}
use Rattle.charmlet_store.proofs.Showing.{ShowsCore, flush_shows, request_shows}

-- so they are shown to an image
pub shown_of : {C : Type 0} {H : Ghosts C} (history : History) (shelves : List View) (stock : Stock C H) → FitTogether history shelves stock → IsShown history shelves
shown_of history shelves stock fit = record { count = fit.count; idle = fit.idle; objects = fit.objects }

module _ {C : Type 0} {H : Ghosts C} (was : History) (shelves : List View) (stock : Stock C H) (fit : FitTogether was shelves stock) (history : History) where
  showing_fit : ShowsCore (records_on shelves) (core_in was).processors (core_in history) → FitTogether history shelves stock
  showing_fit shows = record {
    count = fit.count ∙ sym shows.processors;
    numbers = fit.numbers;
    idle = fit.idle;
    objects = shows.shows;
    census = fit.census;
  }

  -- a flush changes no object
  pub flushed_fit : (answer : CoreAnswer) → Steps (core_in was) (λ _. 0) Flush (record { answer = answer; core = core_in history; blanks = λ _. 0 }) → FitTogether history shelves stock
  flushed_fit answer steps =
      showing_fit (flush_shows (records_on shelves) (core_in was).processors (core_in was) (λ _. 0) (record { answer = answer; core = core_in history; blanks = λ _. 0 })
      (record { processors = refl; shows = fit.objects }) steps)

  -- nor does a request
  pub asked_fit : (client number : ℕ) (to : Elem) (entry : ℕ) (words : List ℕ) (result : Result Told Refusal) → ((blanks : Blanks) → Steps (core_in was) blanks (Request client number to entry words)
      (record { answer = told_or_refused result; core = core_in history; blanks = blanks })) → FitTogether history shelves stock
  asked_fit client number to entry words result steps =
      showing_fit (request_shows (records_on shelves) (core_in was).processors (core_in was) (λ _. 0) (record { answer = told_or_refused result; core = core_in history; blanks = λ _. 0 })
      (record { processors = refl; shows = fit.objects }) client number to entry words (steps (λ _. 0)))

  -- nor does an image
  pub imaged_fit : (items last : List View) → items ≡ shelves → last ≡ shelves → IsShown history items → FitTogether history last stock
  imaged_fit items last same back shown =
      let its = subst (IsShown history) same shown in
      let fits : FitTogether history shelves stock = record { count = its.count; numbers = fit.numbers; idle = its.idle; objects = its.objects; census = fit.census } in
      subst (λ (views : List View). FitTogether history views stock) (sym back) fits

  -- and a history that keeps the same fits as it did
  pub same_fit : history ≡ was → FitTogether history shelves stock
  same_fit same = subst (λ (h : History). FitTogether h shelves stock) (sym same) fit
