-- Steps that leave the objects as they are.
use Rattle.std.proofs.Common.{◌≡◌, ℕ, Bool, true, false, cond, List, [], ◌∷◌, ◌++◌, sym, ap, ◌∙◌}
use Rattle.std.specs.Prelude.{is_some}
use Rattle.charmlet_model.specs.declared.names.Elem.{Elem}
use Rattle.charmlet_model.specs.declared.state.Record.{Record}
use Rattle.charmlet_model.specs.declared.event.Event.TheVariants.{Accept}
use Rattle.charmlet_model.specs.World.{World, record_of}
use Rattle.charmlet_model.specs.Core.{Core, Request, Flush, Blanks, Stepped, Steps, present, is_repeat}
use Rattle.charmlet_model.specs.Shelves.{Shows, if_here}
use Rattle.std.specs.BTreeMap.{is_at}
use Rattle.std.specs.Map.{lookup}
use Rattle.charmlet_model.specs.Names.{elem_cmp}
use Rattle.charmlet_model.proofs.Histories.{world-append}
use Rattle.charmlet_migrate.proofs.Places.{stepped_core}

-- the shelves show the core's world, and there are so many processors
pub record ShowsCore (shelves : List (List (Elem × Record))) (count : ℕ) (core : Core) : Type 0 where
  pub processors : core.processors ≡ count
  pub shows : Shows shelves core.places (present core)

-- objects show whatever world has the same records
shows_same : (shelves : List (List (Elem × Record))) (places : List (Elem × ℕ)) (v w : World) → ((x : Elem) → record_of v x ≡ record_of w x) → Shows shelves places w → Shows shelves places v
shows_same shelves places v w same shows = record {
  rising = shows.rising;
  placed = λ x. shows.placed x ∙ ap (λ (r : Record). is_some r.state) (sym (same x));
  shown = λ q x. shows.shown q x ∙ ap (if_here (lookup (is_at (elem_cmp x)) places) q) (sym (same x));
}

module _ (shelves : List (List (Elem × Record))) (count : ℕ) (core : Core) (blanks : Blanks) (last : Stepped) (shows : ShowsCore shelves count core) where
  -- a request changes no element
  pub request_shows : (client number : ℕ) (to : Elem) (entry : ℕ) (words : List ℕ) → Steps core blanks (Request client number to entry words) last → ShowsCore shelves count last.core
  request_shows client number to entry words s =
      stepped_core (ShowsCore shelves count) core blanks (Request client number to entry words) shows (record { processors = shows.processors; shows = shows.shows }) (either (is_repeat core client number)) last s
    where
      either : (b : Bool) → ShowsCore shelves count (cond b core (record core { history = core.history ++ Accept client number to entry words ∷ [] }))
      either true = shows
      either false = record {
        processors = shows.processors;
        shows = shows_same shelves core.places (present (record core { history = core.history ++ Accept client number to entry words ∷ [] })) (present core)
            (λ x. ap (λ (w : World). record_of w x) (world-append core.opening core.history (Accept client number to entry words ∷ []))) shows.shows;
      }

  -- a flush changes no world
  pub flush_shows : Steps core blanks Flush last → ShowsCore shelves count last.core
  flush_shows s =
      stepped_core (ShowsCore shelves count) core blanks Flush shows (record { processors = shows.processors; shows = shows.shows }) (record { processors = shows.processors; shows = shows.shows }) last s
