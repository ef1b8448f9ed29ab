-- Replayers who got their elements back so far.
use Rattle.std.proofs.Common.{◌≡◌, ℕ, ◌+◌, ◌<◌, ◌≤◌, ◌==◌, ◌⊎◌, inl, inr, Bool, true, false, cond, List, [], ◌∷◌, length, get_or, add-one, refl, sym, ap, subst, ◌∙◌, arith}
use Rattle.std.specs.Prelude.{Some, slice_get, slice_set}
use Rattle.std.specs.List.{All, AllByRecursion}
use Rattle.std.proofs.lemmas.Bool.{eqb-false}
use Rattle.std.proofs.lemmas.List.{length-set}
use Rattle.std.proofs.lemmas.List.Elements.{All-get_or, All-set}
use Rattle.std.proofs.lemmas.List.Sums.{sum_by-set}
use Rattle.std.proofs.lemmas.Option.{get_or_from_slice_get, slice_get-get_or, slice_get_within}
use Rattle.charmlet_model.specs.declared.kind.Kind.{Kind}
use Rattle.charmlet_model.specs.declared.logged.CatchUpEntry.{CatchUpEntry}
use Rattle.charmlet_model.specs.declared.names.Elem.{Elem}
use Rattle.charmlet_model.specs.declared.state.Record.{Record}
use Rattle.charmlet_record.specs.declared.positioned.Positioned.{Positioned}
use Rattle.charmlet_record.specs.Reading.{Kinds}
use Rattle.charmlet_record.specs.Written.{IsCaughtUp}
use Rattle.charmlet_image.specs.Positioned.{items_of}
use Rattle.charmlet_recovery.specs.Blanks.{wanted_by_catch_up, wanted_by_records}
use Rattle.charmlet_chare.specs.declared.chare.Chare.{Ghosts}
use Rattle.charmlet_stock.specs.declared.stock.Stock.{Stock}
use Rattle.charmlet_stock.specs.Stock.{blanks_in, supplied_to}
use Rattle.charmlet_log_scan.specs.Partition.Parts.{catch_ups, is_of_worker, part}
use Rattle.charmlet_replayers.specs.Shares.Laws.{together}
use Rattle.charmlet_replay.specs.RestoredShard.{IsHeld, IsRestored}
use Rattle.charmlet_replay.specs.restored_shard.RestoredShard.{RestoredShard}
use Rattle.charmlet_replayers.specs.declared.replayer.replayer.Replayer.{Replayer}
use Rattle.charmlet_replayers.specs.Dispatch.Keeping.{IsHeldReplayer, KeepsAll, supplied_by}
use Rattle.charmlet_replayers.specs.Dispatch.Sharing.{worker_of}
use Rattle.charmlet_parallel_replay.specs.Image.Filled.{AreFilled, CanBeFilled, IsFilled, IsToFill, wanted_by_worker}
use Rattle.charmlet_parallel_replay.specs.Image.Keeping.{KeepsOne}
use Rattle.charmlet_parallel_replay.proofs.ImageLemmas.Lists.{same_there, set_at}
use Rattle.charmlet_parallel_replay.proofs.ImageLemmas.Wanted.{first-need}

-- ---- one of the replayers

module _ {C : Type 0} {G : Ghosts C} (replayers : List (Replayer C G)) (i : ℕ) (within : i < length replayers) (old : Replayer C G) (is : old ≡ get_or replayers i old) (new : Replayer C G) where
  abbrev news : List (Replayer C G)
  news = slice_set replayers i new

  pub keeps_all : (a b : Stock C G) → KeepsOne a b old.restored new.restored → All IsHeldReplayer replayers → KeepsAll a b replayers news
  keeps_all a b keeps held = record {
    count = length-set replayers i new;
    held = All-set IsHeldReplayer replayers i new keeps.held held;
    total = λ kind.
        let sums : supplied_by news kind + supplied_to (get_or replayers i old).restored.stock kind ≡ supplied_by replayers kind + supplied_to new.restored.stock kind =
        sum_by-set (λ (replayer : Replayer C G). supplied_to replayer.restored.stock kind) replayers i new old within in
        let its : supplied_to (get_or replayers i old).restored.stock kind ≡ supplied_to old.restored.stock kind = ap (λ (replayer : Replayer C G). supplied_to replayer.restored.stock kind) (sym is) in
        let one = keeps.total kind in
        omega (arith, sums, its, one);
    drawn = keeps.drawn;
    keeping = keeps.keeping;
  }

-- ---- all of them

-- The first so many replayers have what is theirs, and the others are as they were.
pub record FilledUpTo {C : Type 0} {G : Ghosts C} (processors : ℕ) (manifest : Kinds) (records : List (Elem × Record)) (ds : List (Positioned CatchUpEntry)) (old_stock : Stock C G) (olds : List (Replayer C G)) (i : ℕ) (stock : Stock C G) (replayers : List (Replayer C G)) : Type 0 where
  pub count : length replayers ≡ length olds
  pub done : (v : ℕ) (replayer : Replayer C G) → v < i → slice_get replayers v ≡ Some replayer → IsFilled (worker_of processors (length olds)) manifest records ds processors v replayer
  pub rest : (v : ℕ) (replayer : Replayer C G) → i ≤ v → slice_get replayers v ≡ Some replayer → slice_get olds v ≡ Some replayer
  pub left : (kind : Kind) → blanks_in stock kind + together i (wanted_by_worker (worker_of processors (length olds)) manifest records ds kind) ≡ blanks_in old_stock kind

module _ {C : Type 0} {G : Ghosts C} (processors : ℕ) (manifest : Kinds) (records : List (Elem × Record)) (ds : List (Positioned CatchUpEntry)) (old_stock : Stock C G) (olds : List (Replayer C G)) (can : CanBeFilled processors manifest records ds (blanks_in old_stock) olds) where
  abbrev worker : Elem → ℕ
  worker = worker_of processors (length olds)

  pub begins : FilledUpTo processors manifest records ds old_stock olds 0 old_stock olds
  begins = record {
    count = refl;
    done = λ v replayer less at. absurd (let never : ⊥ = omega (arith, less) in never);
    rest = λ v replayer less at. at;
    left = λ kind. omega arith;
  }

  module _ (i : ℕ) (stock : Stock C G) (replayers : List (Replayer C G)) (so_far : FilledUpTo processors manifest records ds old_stock olds i stock replayers) (within : i < length replayers) (old : Replayer C G) (is : old ≡ get_or replayers i old) where
    within_olds : i < length olds
    within_olds = let count = so_far.count in omega (arith, within, count)

    there : slice_get olds i ≡ Some old
    there = so_far.rest i old (omega arith) (slice_get-get_or replayers i old within ∙ ap Some (sym is))

    was : get_or olds i old ≡ old
    was = get_or_from_slice_get olds i old old there

    to_fill : IsToFill processors old
    to_fill = subst (IsToFill processors) was (can.to_fill i old within_olds)

    abbrev mine : Elem → Bool
    mine = is_of_worker worker i

    pub its_deliveries : old.deliveries.items ≡ catch_ups mine ds
    its_deliveries = can.theirs i old there

    pub its_processors : old.restored.processors ≡ processors
    its_processors = to_fill.on

    pub can_fill : IsToFill old.restored.processors old
    can_fill = subst (λ n. IsToFill n old) (sym to_fill.on) to_fill

    -- the replayer by what is asked of it is this one
    abbrev asked : ℕ → Elem → Bool
    asked workers = is_of_worker (worker_of old.restored.processors workers) i

    pub it_is : (workers : ℕ) → workers ≡ length olds → asked workers ≡ mine
    it_is workers many = λ j. is_of_worker (worker_of (its_processors j) (many j)) i

    pub typed_own : AllByRecursion (IsCaughtUp manifest) (items_of old.deliveries.items)
    typed_own = subst (λ (ps : List (Positioned CatchUpEntry)). AllByRecursion (IsCaughtUp manifest) (items_of ps)) (sym its_deliveries) (own_typed ds can.typed)
      where
        own_typed : (ps : List (Positioned CatchUpEntry)) → AllByRecursion (IsCaughtUp manifest) (items_of ps) → AllByRecursion (IsCaughtUp manifest) (items_of (catch_ups mine ps))
        own_typed [] h = tt
        own_typed (p ∷ ps) h =
            elim (mine p.item.message.to) as (λ b. AllByRecursion (IsCaughtUp manifest) (items_of (cond b (p ∷ catch_ups mine ps) (catch_ups mine ps)))) [
              | true ↦ (h.0, own_typed ps h.1)
              | false ↦ own_typed ps h.1
            ]

    its_wanted : (workers : ℕ) → workers ≡ length olds → (kind : Kind) → wanted_by_records manifest kind (part (asked workers) records) + wanted_by_catch_up manifest kind (part (asked workers) records) (items_of old.deliveries.items) ≡ wanted_by_worker worker manifest records ds kind i
    its_wanted workers many kind = λ j. wanted_by_records manifest kind (part (it_is workers many j) records) + wanted_by_catch_up manifest kind (part (it_is workers many j) records) (items_of (its_deliveries j))

    pub enough_own : (workers : ℕ) → workers ≡ length olds → (kind : Kind) → wanted_by_records manifest kind (part (asked workers) records) + wanted_by_catch_up manifest kind (part (asked workers) records) (items_of old.deliveries.items) ≤ blanks_in stock kind
    enough_own workers many kind =
        let its = its_wanted workers many kind in
        let all = can.enough kind in
        let first = first-need (length olds) i (wanted_by_worker worker manifest records ds kind) within_olds in
        let left = so_far.left kind in
        omega (arith, its, all, first, left)

    -- it has what is its own
    module _ (workers : ℕ) (many : workers ≡ length olds) (after : Stock C G) (new : Replayer C G) (keeps : KeepsOne stock after old.restored new.restored) (deliveries : new.deliveries ≡ old.deliveries) (tasks : new.tasks ≡ old.tasks)
        (restored : IsRestored (part (asked workers) records) new.restored)
        (own : (kind : Kind) → blanks_in new.restored.stock kind ≡ wanted_by_catch_up manifest kind (part (asked workers) records) (items_of old.deliveries.items))
        (given : (kind : Kind) → blanks_in after kind + (wanted_by_records manifest kind (part (asked workers) records) + wanted_by_catch_up manifest kind (part (asked workers) records) (items_of old.deliveries.items)) ≡ blanks_in stock kind) where
      filled : IsFilled worker manifest records ds processors i new
      filled = record {
        on = keeps.on ∙ its_processors;
        restored = subst (λ own. IsRestored (part own records) new.restored) (it_is workers many) restored;
        deliveries = (λ j. (deliveries j).items) ∙ its_deliveries;
        blanks = λ kind. own kind ∙ (λ j. wanted_by_catch_up manifest kind (part (it_is workers many j) records) (items_of (its_deliveries j)));
        tasks = (λ j. (tasks j).items) ∙ to_fill.tasks;
      }

      pub one_filled : FilledUpTo processors manifest records ds old_stock olds (i + 1) after (slice_set replayers i new)
      one_filled = record {
        count = length-set replayers i new ∙ so_far.count;
        done = λ v replayer less at. by_done v replayer less at (v_there v replayer at);
        rest = λ v replayer less at. by_rest v replayer less at (v_there v replayer at);
        left = λ kind.
            let one = given kind in
            let its = its_wanted workers many kind in
            let before = so_far.left kind in
            let next : together (i + 1) (wanted_by_worker worker manifest records ds kind) ≡ together i (wanted_by_worker worker manifest records ds kind) + wanted_by_worker worker manifest records ds kind i =
            ap (λ n. together n (wanted_by_worker worker manifest records ds kind)) (add-one i) in
            omega (arith, one, its, before, next);
      }
        where
          v_there : (v : ℕ) (replayer : Replayer C G) → slice_get (slice_set replayers i new) v ≡ Some replayer → slice_get replayers v ≡ Some (get_or replayers v replayer)
          v_there v replayer at = slice_get-get_or replayers v replayer (let less = slice_get_within (slice_set replayers i new) v replayer at in let many = length-set replayers i new in omega (arith, less, many))

          by_done : (v : ℕ) (replayer : Replayer C G) → v < i + 1 → slice_get (slice_set replayers i new) v ≡ Some replayer → slice_get replayers v ≡ Some (get_or replayers v replayer) → IsFilled worker manifest records ds processors v replayer
          by_done v replayer less at was_at = pick (i == v) refl (set_at replayers i v new (get_or replayers v replayer) replayer was_at at (i == v) refl)
            where
              pick : (b : Bool) → (i == v) ≡ b → ((b ≡ true) × (i ≡ v) × (replayer ≡ new)) ⊎ ((b ≡ false) × (replayer ≡ get_or replayers v replayer)) → IsFilled worker manifest records ds processors v replayer
              pick b eq (inl (_, same, its)) = subst (λ n. IsFilled worker manifest records ds processors n replayer) same (subst (IsFilled worker manifest records ds processors i) (sym its) filled)
              pick b eq (inr (no_b, its)) =
                  so_far.done v replayer
                  (let other = eqb-false i v (eq ∙ no_b) in omega (arith, less, other))
                  (was_at ∙ ap Some (sym its))

          by_rest : (v : ℕ) (replayer : Replayer C G) → i + 1 ≤ v → slice_get (slice_set replayers i new) v ≡ Some replayer → slice_get replayers v ≡ Some (get_or replayers v replayer) → slice_get olds v ≡ Some replayer
          by_rest v replayer less at was_at = pick (set_at replayers i v new (get_or replayers v replayer) replayer was_at at (i == v) refl)
            where
              pick : (((i == v) ≡ true) × (i ≡ v) × (replayer ≡ new)) ⊎ (((i == v) ≡ false) × (replayer ≡ get_or replayers v replayer)) → slice_get olds v ≡ Some replayer
              pick (inl (_, same, its)) = absurd (let never : ⊥ = omega (arith, same, less) in never)
              pick (inr (_, its)) = so_far.rest v replayer (omega (arith, less)) (was_at ∙ ap Some (sym its))

  -- all have
  pub all_filled : (i : ℕ) (stock : Stock C G) (replayers : List (Replayer C G)) → i ≡ length olds → FilledUpTo processors manifest records ds old_stock olds i stock replayers → AreFilled worker manifest records ds processors (blanks_in old_stock) (blanks_in stock) replayers
  all_filled i stock replayers last so_far = record {
    each = λ v replayer at. so_far.done v replayer (let less = slice_get_within replayers v replayer at in let count = so_far.count in omega (arith, less, count, last)) at;
    taken = λ kind. ap (λ n. blanks_in stock kind + together n (wanted_by_worker worker manifest records ds kind)) (so_far.count ∙ sym last) ∙ so_far.left kind;
  }
