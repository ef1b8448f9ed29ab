-- A replayer's deliveries, for which it has blanks so far.
use Rattle.std.proofs.Common.{◌≡◌, ℕ, ◌+◌, ◌<◌, ◌≤◌, zero, suc, List, [], ◌∷◌, length, drop, drop-cons, get_or, add-one, refl, sym, ap, subst, ◌∙◌, arith}
use Rattle.std.specs.List.{AllByRecursion}
use Rattle.std.proofs.lemmas.List.{drop_all}
use Rattle.charmlet_model.specs.declared.kind.Kind.{Kind}
use Rattle.charmlet_model.specs.declared.logged.CatchUpEntry.{CatchUpEntry}
use Rattle.charmlet_model.specs.declared.names.Elem.{Elem}
use Rattle.charmlet_model.specs.declared.state.Record.{Record}
use Rattle.charmlet_record.specs.declared.positioned.Positioned.{Positioned}
use Rattle.charmlet_record.specs.Reading.{Kinds}
use Rattle.charmlet_image.specs.Positioned.{items_of}
use Rattle.charmlet_recovery.specs.Blanks.{wanted_by_catch_up, with_count}
use Rattle.charmlet_chare.specs.declared.chare.Chare.{Ghosts}
use Rattle.charmlet_stock.specs.declared.stock.Stock.{Stock}
use Rattle.charmlet_stock.specs.Stock.{blanks_in}
use Rattle.charmlet_replay.specs.restored_shard.RestoredShard.{RestoredShard}
use Rattle.charmlet_parallel_replay.specs.Image.Counts.{AreCountsOf}
use Rattle.charmlet_parallel_replay.proofs.ImageLemmas.Counting.{one_then}

-- There are the blanks for the first deliveries of the list; the others are left, by these counts.
pub record DrawnSoFar {C : Type 0} {G : Ghosts C} (manifest : Kinds) (records : List (Elem × Record)) (ds left : List CatchUpEntry) (old_stock : Stock C G) (old : RestoredShard C G) (counts : List (Elem × ℕ)) (stock : Stock C G) (now : RestoredShard C G) : Type 0 where
  pub reached : List (Elem × Record)
  pub counted : AreCountsOf counts old.elements.entries reached
  pub own : (kind : Kind) → blanks_in now.stock kind + wanted_by_catch_up manifest kind reached left ≡ blanks_in old.stock kind + wanted_by_catch_up manifest kind records ds
  pub given : (kind : Kind) → blanks_in stock kind + wanted_by_catch_up manifest kind records ds ≡ blanks_in old_stock kind + wanted_by_catch_up manifest kind reached left

module _ {C : Type 0} {G : Ghosts C} (manifest : Kinds) (records : List (Elem × Record)) (ds : List CatchUpEntry) (old_stock : Stock C G) (old : RestoredShard C G) where
  pub begins : AreCountsOf [] old.elements.entries records → DrawnSoFar manifest records ds ds old_stock old [] old_stock old
  begins are = record { reached = records; counted = are; own = λ kind. refl; given = λ kind. refl }

  module _ (d : CatchUpEntry) (left : List CatchUpEntry) (counts : List (Elem × ℕ)) (stock : Stock C G) (now : RestoredShard C G) (so_far : DrawnSoFar manifest records ds (d ∷ left) old_stock old counts stock now) where
    -- there is a blank for the next one
    pub enough_for_one : ((kind : Kind) → wanted_by_catch_up manifest kind records ds ≤ blanks_in old_stock kind) → (kind : Kind) → wanted_by_catch_up manifest kind so_far.reached (d ∷ []) ≤ blanks_in stock kind
    enough_for_one enough kind =
        let all = enough kind in
        let split = one_then manifest kind so_far.reached d left in
        let given = so_far.given kind in
        omega (arith, all, split, given)

    pub one_drawn : (more : List (Elem × ℕ)) (after : Stock C G) (new : RestoredShard C G) → AreCountsOf more old.elements.entries (with_count so_far.reached d) →
        ((kind : Kind) → blanks_in new.stock kind ≡ blanks_in now.stock kind + wanted_by_catch_up manifest kind so_far.reached (d ∷ [])) →
        ((kind : Kind) → blanks_in after kind + wanted_by_catch_up manifest kind so_far.reached (d ∷ []) ≡ blanks_in stock kind) → DrawnSoFar manifest records ds left old_stock old more after new
    one_drawn more after new counted own given = record {
      reached = with_count so_far.reached d;
      counted = counted;
      own = λ kind.
          let split = one_then manifest kind so_far.reached d left in
          let one = own kind in
          let before = so_far.own kind in
          omega (arith, split, one, before);
      given = λ kind.
          let split = one_then manifest kind so_far.reached d left in
          let one = given kind in
          let before = so_far.given kind in
          omega (arith, split, one, before);
    }

  pub all_own : (counts : List (Elem × ℕ)) (stock : Stock C G) (now : RestoredShard C G) → DrawnSoFar manifest records ds [] old_stock old counts stock now → (kind : Kind) → blanks_in now.stock kind ≡ blanks_in old.stock kind + wanted_by_catch_up manifest kind records ds
  all_own counts stock now so_far kind = let last = so_far.own kind in omega (arith, last)

  pub all_given : (counts : List (Elem × ℕ)) (stock : Stock C G) (now : RestoredShard C G) → DrawnSoFar manifest records ds [] old_stock old counts stock now → (kind : Kind) → blanks_in stock kind + wanted_by_catch_up manifest kind records ds ≡ blanks_in old_stock kind
  all_given counts stock now so_far kind = let last = so_far.given kind in omega (arith, last)

-- ---- the deliveries of a list

pub left_at : (ps : List (Positioned CatchUpEntry)) (i : ℕ) (p : Positioned CatchUpEntry) → i < length ps → p ≡ get_or ps i p → items_of (drop i ps) ≡ p.item ∷ items_of (drop (i + 1) ps)
left_at ps i p lt is = ap items_of (drop-cons ps i p lt ∙ ap (λ y. y ∷ drop (suc i) ps) (sym is) ∙ ap (λ (k : ℕ). p ∷ drop k ps) (sym (add-one i)))

pub typed_at : (P : CatchUpEntry → Type 0) (ps : List (Positioned CatchUpEntry)) (i : ℕ) (p : Positioned CatchUpEntry) → i < length ps → p ≡ get_or ps i p → AllByRecursion P (items_of ps) → P p.item
typed_at P [] i p lt is h = absurd (let never : ⊥ = omega (arith, lt) in never)
typed_at P (q ∷ ps) zero p lt is h = subst (λ (z : Positioned CatchUpEntry). P z.item) (sym is) h.0
typed_at P (q ∷ ps) (suc i) p lt is h = typed_at P ps i p (omega (arith, lt)) is h.1

-- all were read
pub none_left : (ps : List (Positioned CatchUpEntry)) (i : ℕ) → length ps ≤ i → items_of (drop i ps) ≡ []
none_left ps i over = ap items_of (drop_all i ps over)

-- ---- one step of a list

module _ {C : Type 0} {G : Ghosts C} (manifest : Kinds) (records : List (Elem × Record)) (ps : List (Positioned CatchUpEntry)) (old_stock : Stock C G) (old : RestoredShard C G)
    (i : ℕ) (p : Positioned CatchUpEntry) (lt : i < length ps) (is : p ≡ get_or ps i p) (counts : List (Elem × ℕ)) (stock : Stock C G) (now : RestoredShard C G) (rest : now ≡ record old { stock = now.stock })
    (so_far : DrawnSoFar manifest records (items_of ps) (items_of (drop i ps)) old_stock old counts stock now) where
  here : DrawnSoFar manifest records (items_of ps) (p.item ∷ items_of (drop (i + 1) ps)) old_stock old counts stock now
  here = subst (λ ls. DrawnSoFar manifest records (items_of ps) ls old_stock old counts stock now) (left_at ps i p lt is) so_far

  same_elements : now.elements.entries ≡ old.elements.entries
  same_elements = λ j. (rest j).elements.entries

  known : AreCountsOf counts now.elements.entries here.reached
  known = subst (λ es. AreCountsOf counts es here.reached) (sym same_elements) here.counted

  pub next_enough : ((kind : Kind) → wanted_by_catch_up manifest kind records (items_of ps) ≤ blanks_in old_stock kind) →
      (cs : List (Elem × Record)) × AreCountsOf counts now.elements.entries cs × ((kind : Kind) → wanted_by_catch_up manifest kind cs (p.item ∷ []) ≤ blanks_in stock kind)
  next_enough enough = (here.reached, known, enough_for_one manifest records (items_of ps) old_stock old p.item (items_of (drop (i + 1) ps)) counts stock now here enough)

  pub next_drawn : (more : List (Elem × ℕ)) (after : Stock C G) (new : RestoredShard C G) →
      ((cs : List (Elem × Record)) → AreCountsOf counts now.elements.entries cs → AreCountsOf more now.elements.entries (with_count cs p.item)) →
      ((cs : List (Elem × Record)) → AreCountsOf counts now.elements.entries cs → (kind : Kind) → blanks_in new.stock kind ≡ blanks_in now.stock kind + wanted_by_catch_up manifest kind cs (p.item ∷ [])) →
      ((cs : List (Elem × Record)) → AreCountsOf counts now.elements.entries cs → (kind : Kind) → blanks_in after kind + wanted_by_catch_up manifest kind cs (p.item ∷ []) ≡ blanks_in stock kind) →
      DrawnSoFar manifest records (items_of ps) (items_of (drop (i + 1) ps)) old_stock old more after new
  next_drawn more after new counted own given =
      one_drawn manifest records (items_of ps) old_stock old p.item (items_of (drop (i + 1) ps)) counts stock now here more after new
      (subst (λ es. AreCountsOf more es (with_count here.reached p.item)) same_elements (counted here.reached known)) (own here.reached known) (given here.reached known)
