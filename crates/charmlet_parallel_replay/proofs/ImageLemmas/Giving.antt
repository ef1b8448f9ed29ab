-- Deliveries that are given to replayers so far.
use Rattle.std.proofs.Common.{◌≡◌, ℕ, ◌+◌, ◌<◌, ◌==◌, ◌⊎◌, inl, inr, Bool, true, false, cond, List, [], ◌∷◌, ◌++◌, length, get_or, refl, sym, ap, subst, ◌∙◌, arith, if◌then◌else◌}
use Rattle.std.specs.Prelude.{Some, slice_get, slice_set}
use Rattle.std.specs.List.{All}
use Rattle.std.proofs.lemmas.List.{append-nil, append_assoc, length-set}
use Rattle.std.proofs.lemmas.List.Elements.{All-get_or, All-set}
use Rattle.std.proofs.lemmas.List.Sums.{sum_by-set}
use Rattle.std.proofs.lemmas.Option.{get_or_from_slice_get, slice_get-get_or, slice_get_within}
use Rattle.charmlet_model.specs.declared.logged.CatchUpEntry.{CatchUpEntry}
use Rattle.charmlet_model.specs.declared.names.Elem.{Elem}
use Rattle.charmlet_record.specs.declared.positioned.Positioned.{Positioned}
use Rattle.charmlet_chare.specs.declared.chare.Chare.{Ghosts}
use Rattle.charmlet_stock.specs.Stock.{supplied_to}
use Rattle.charmlet_log_scan.specs.Partition.Parts.{catch_ups, is_of_worker}
use Rattle.charmlet_replay.specs.RestoredShard.{IsHeld}
use Rattle.charmlet_replay.specs.restored_shard.RestoredShard.{RestoredShard}
use Rattle.charmlet_replayers.specs.declared.replayer.replayer.Replayer.{Replayer}
use Rattle.charmlet_replayers.specs.Dispatch.Keeping.{IsHeldReplayer, supplied_by}
use Rattle.charmlet_parallel_replay.specs.Image.Given.{AreGivenOne, HasMoreDeliveries, HaveDeliveries, KeepsSupply}
use Rattle.charmlet_parallel_replay.proofs.ImageLemmas.Lists.{same_there, set_at}

-- ---- one of the replayers

module _ {C : Type 0} {G : Ghosts C} (replayers : List (Replayer C G)) (i : ℕ) (within : i < length replayers) (old : Replayer C G) (is : old ≡ get_or replayers i old) (new : Replayer C G) where
  abbrev news : List (Replayer C G)
  news = slice_set replayers i new

  own : (v : ℕ) (x : Replayer C G) → i ≡ v → slice_get replayers v ≡ Some x → old ≡ x
  own v x same at = is ∙ ap (λ n. get_or replayers n old) same ∙ get_or_from_slice_get replayers v x old at

  pub given_one : (p : Positioned CatchUpEntry) → HasMoreDeliveries (p ∷ []) old new → AreGivenOne i p replayers news
  given_one p more v x y at found = by (i == v) (set_at replayers i v new x y at found (i == v) refl)
    where
      none_more : HasMoreDeliveries [] x x
      none_more = record { deliveries = sym (append-nil x.deliveries.items); restored = refl; tasks = refl }

      by : (b : Bool) → ((b ≡ true) × (i ≡ v) × (y ≡ new)) ⊎ ((b ≡ false) × (y ≡ x)) → HasMoreDeliveries (if b then p ∷ [] else []) x y
      by b (inl (yes_b, same, its)) =
          subst (λ b. HasMoreDeliveries (if b then p ∷ [] else []) x y) (sym yes_b)
          (subst (HasMoreDeliveries (p ∷ []) x) (sym its) (subst (λ z. HasMoreDeliveries (p ∷ []) z new) (own v x same at) more))
      by b (inr (no_b, its)) = subst (λ b. HasMoreDeliveries (if b then p ∷ [] else []) x y) (sym no_b) (subst (HasMoreDeliveries [] x) (sym its) none_more)

  pub keeps_supply : new.restored ≡ old.restored → All IsHeldReplayer replayers → KeepsSupply replayers news
  keeps_supply same held = record {
    count = length-set replayers i new;
    held = All-set IsHeldReplayer replayers i new (subst IsHeld (sym (same ∙ ap (λ (replayer : Replayer C G). replayer.restored) is)) (All-get_or IsHeldReplayer replayers i old within held)) held;
    supplied = λ kind.
        let sums : supplied_by news kind + supplied_to (get_or replayers i old).restored.stock kind ≡ supplied_by replayers kind + supplied_to new.restored.stock kind =
        sum_by-set (λ (replayer : Replayer C G). supplied_to replayer.restored.stock kind) replayers i new old within in
        let its : supplied_to new.restored.stock kind ≡ supplied_to (get_or replayers i old).restored.stock kind =
        ap (λ (r : RestoredShard C G). supplied_to r.stock kind) same ∙ ap (λ (replayer : Replayer C G). supplied_to replayer.restored.stock kind) is in
        omega (arith, sums, its);
  }

-- ---- all of them

pub then_keeps : {C : Type 0} {G : Ghosts C} (xs ys zs : List (Replayer C G)) → KeepsSupply xs ys → KeepsSupply ys zs → KeepsSupply xs zs
then_keeps xs ys zs one two = record {
  count = two.count ∙ one.count;
  held = two.held;
  supplied = λ kind. two.supplied kind ∙ one.supplied kind;
}

pub record GivenSoFar {C : Type 0} {G : Ghosts C} (worker : Elem → ℕ) (ds rest : List (Positioned CatchUpEntry)) (olds replayers : List (Replayer C G)) : Type 0 where
  pub keeps : KeepsSupply olds replayers
  pub given : (v : ℕ) (old new : Replayer C G) → slice_get olds v ≡ Some old → slice_get replayers v ≡ Some new →
      (new.deliveries.items ++ catch_ups (is_of_worker worker v) rest ≡ old.deliveries.items ++ catch_ups (is_of_worker worker v) ds) × (new.restored ≡ old.restored) × (new.tasks ≡ old.tasks)

module _ {C : Type 0} {G : Ghosts C} (worker : Elem → ℕ) (ds : List (Positioned CatchUpEntry)) (olds : List (Replayer C G)) where
  pub begins : All IsHeldReplayer olds → GivenSoFar worker ds ds olds olds
  begins held = record {
    keeps = record { count = refl; held = held; supplied = λ kind. refl };
    given = λ v old new at found.
        let same = same_there olds v old new at found in (
          ap (λ (replayer : Replayer C G). replayer.deliveries.items ++ catch_ups (is_of_worker worker v) ds) (sym same),
          ap (λ (replayer : Replayer C G). replayer.restored) (sym same),
          ap (λ (replayer : Replayer C G). replayer.tasks) (sym same),
        );
  }

  one_if_own : (b : Bool) (p : Positioned CatchUpEntry) (cs : List (Positioned CatchUpEntry)) → (if b then p ∷ [] else []) ++ cs ≡ cond b (p ∷ cs) cs
  one_if_own true p cs = refl
  one_if_own false p cs = refl

  pub one_given : (p : Positioned CatchUpEntry) (rest : List (Positioned CatchUpEntry)) (replayers news : List (Replayer C G)) → GivenSoFar worker ds (p ∷ rest) olds replayers → KeepsSupply replayers news → AreGivenOne (worker p.item.message.to) p replayers news → GivenSoFar worker ds rest olds news
  one_given p rest replayers news so_far keeps goes = record {
    keeps = record {
      count = keeps.count ∙ so_far.keeps.count;
      held = keeps.held;
      supplied = λ kind. keeps.supplied kind ∙ so_far.keeps.supplied kind;
    };
    given = λ v old new at found.
        let less : v < length replayers = (let within = slice_get_within news v new found in let many = keeps.count in omega (arith, within, many)) in
        let mid = get_or replayers v new in
        let there : slice_get replayers v ≡ Some mid = slice_get-get_or replayers v new less in
        let more = goes v mid new there found in
        let before = so_far.given v old mid at there in
        let b = worker p.item.message.to == v in
        let cs = catch_ups (is_of_worker worker v) rest in (
          ap (λ ps. ps ++ cs) more.deliveries ∙ append_assoc mid.deliveries.items (if b then p ∷ [] else []) cs ∙ ap (λ ps. mid.deliveries.items ++ ps) (one_if_own b p cs) ∙ before.0,
          more.restored ∙ before.1,
          more.tasks ∙ before.2,
        );
  }

  pub all_given : (replayers : List (Replayer C G)) → GivenSoFar worker ds [] olds replayers → HaveDeliveries worker ds olds replayers
  all_given replayers so_far v old new at found =
      let its = so_far.given v old new at found in
      record { deliveries = sym (append-nil new.deliveries.items) ∙ its.0; restored = its.1; tasks = its.2 }
