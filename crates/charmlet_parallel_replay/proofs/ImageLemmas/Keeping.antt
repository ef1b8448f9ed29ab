-- What stays with a replayer while a stock gives it blanks.
use Rattle.std.proofs.Common.{◌≡◌, ◌+◌, List, [], sym, ap, subst, ◌∙◌, refl}
use Rattle.charmlet_model.specs.declared.kind.Kind.{Kind}
use Rattle.charmlet_model.specs.declared.names.Elem.{Elem}
use Rattle.charmlet_model.specs.declared.state.Record.{Record}
use Rattle.charmlet_model.specs.Core.{Blanks}
use Rattle.charmlet_chare.specs.declared.chare.Chare.{Ghosts}
use Rattle.charmlet_stock.specs.declared.pile.Tally.{Tally}
use Rattle.charmlet_stock.specs.declared.stock.Stock.{Stock}
use Rattle.charmlet_stock.specs.Stock.{blanks_in, supplied_to}
use Rattle.charmlet_replay.specs.RestoredShard.{IsHeld, IsRestored}
use Rattle.charmlet_replay.specs.restored_shard.RestoredShard.{RestoredShard}
use Rattle.charmlet_replay.proofs.Redelivered.{known_element}
use Rattle.charmlet_world.specs.declared.element.Element.{Element}
use Rattle.charmlet_world.specs.Seen.{element_at}
use Rattle.charmlet_parallel_replay.specs.Image.Counts.{AreCountsOf}
use Rattle.charmlet_parallel_replay.specs.Image.Keeping.{KeepsOne}

module _ {C : Type 0} {G : Ghosts C} where
  -- nothing was given
  pub keeps_same : (a : Stock C G) (r : RestoredShard C G) → IsHeld r → KeepsOne a a r r
  keeps_same a r held = record {
    held = held;
    on = refl;
    total = λ kind. refl;
    drawn = λ kind. refl;
    keeping = refl;
  }

  pub keeps_then : (a b c : Stock C G) (r s t : RestoredShard C G) → KeepsOne a b r s → KeepsOne b c s t → KeepsOne a c r t
  keeps_then a b c r s t one two = record {
    held = two.held;
    on = two.on ∙ one.on;
    total = λ kind. two.total kind ∙ one.total kind;
    drawn = λ kind. two.drawn kind ∙ ap (λ (t : Tally). record t { in_stock = blanks_in c kind }) (one.drawn kind);
    keeping = two.keeping ∙ one.keeping;
  }

  -- an element came back
  pub keeps_on : (a b : Stock C G) (r s t : RestoredShard C G) → KeepsOne a b r s → IsHeld t → t.processors ≡ s.processors → supplied_to t.stock ≡ supplied_to s.stock → KeepsOne a b r t
  keeps_on a b r s t one held on supplied = record {
    held = held;
    on = on ∙ one.on;
    total = λ kind. ap (λ (f : Blanks). f kind + blanks_in b kind) supplied ∙ one.total kind;
    drawn = one.drawn;
    keeping = one.keeping;
  }

  moved : (records : List (Elem × Record)) (r : RestoredShard C G) (stock : Stock C G) → IsRestored records r → IsRestored records (record r { stock = stock })
  moved records r stock h = record { rising = h.rising; elements = h.elements; home = h.home }

  -- the elements are there whatever blanks there are
  pub stays_restored : (records : List (Elem × Record)) (r s : RestoredShard C G) → s ≡ record r { stock = s.stock } → IsRestored records r → IsRestored records s
  stays_restored records r s is h = subst (IsRestored records) (sym is) (moved records r s.stock h)

  -- the counts of the elements are those of their records
  pub counts_restored : (records : List (Elem × Record)) (r : RestoredShard C G) → IsRestored records r → AreCountsOf [] r.elements.entries records
  counts_restored records r h x = ap (λ (e : Element). e.received) (ap (λ (es : List (Elem × Element)). element_at es x) h.elements ∙ known_element r.processors records x)

  -- but for its blanks a replayer is as it was
  pub rest_then : (r s t : RestoredShard C G) → s ≡ record r { stock = s.stock } → t ≡ record s { stock = t.stock } → t ≡ record r { stock = t.stock }
  rest_then r s t one two = two ∙ (λ j. record (one j) { stock = t.stock })
