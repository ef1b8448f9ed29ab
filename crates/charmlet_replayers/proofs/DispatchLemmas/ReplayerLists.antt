-- Lists of replayers, of which one changes.
use Rattle.std.proofs.Common.{◌≡◌, ℕ, ◌+◌, ◌<◌, ◌==◌, ◌⊎◌, inl, inr, Bool, true, false, List, [], ◌∷◌, ◌++◌, length, get_or, refl, sym, ap, subst, ◌∙◌, arith, if◌then◌else◌}
use Rattle.std.specs.Prelude.{Option, Some, slice_get, slice_set}
use Rattle.std.specs.List.{All}
use Rattle.std.proofs.lemmas.Bool.{eqb-false, eqb-true}
use Rattle.std.proofs.lemmas.List.{append-nil, append_assoc, get_or-set_other, get_or-set_same, length-set}
use Rattle.std.proofs.lemmas.List.Elements.{All-set}
use Rattle.std.proofs.lemmas.List.Sums.{sum_by-set}
use Rattle.std.proofs.lemmas.Option.{get_or_from_slice_get, slice_get_within}
use Rattle.charmlet_model.specs.declared.kind.Kind.{Kind}
use Rattle.charmlet_model.specs.declared.names.Elem.{Elem}
use Rattle.charmlet_record.specs.Reading.{Kinds}
use Rattle.charmlet_chare.specs.declared.chare.Chare.{Ghosts}
use Rattle.charmlet_stock.specs.declared.pile.Tally.{Tally}
use Rattle.charmlet_stock.specs.declared.stock.Stock.{Stock}
use Rattle.charmlet_stock.specs.Stock.{blanks_in, keeping_of, supplied_to}
use Rattle.charmlet_log_scan.specs.declared.partition.task.Task.{Task}
use Rattle.charmlet_log_scan.specs.Partition.Parts.{is_of_worker}
use Rattle.charmlet_log_scan.specs.Routing.Routed.{tasks_of}
use Rattle.charmlet_shard.specs.RestoredShard.{IsHeld}
use Rattle.charmlet_shard.specs.declared.restored_shard.RestoredShard.{RestoredShard}
use Rattle.charmlet_replayers.specs.declared.replayer.replayer.Replayer.{Replayer}
use Rattle.charmlet_replayers.specs.Dispatch.Blank.{AreGivenTo, AreSameReplayers, GoesTo, HasMore}
use Rattle.charmlet_replayers.specs.Dispatch.Keeping.{IsDrawnFrom, IsHeldReplayer, KeepsAll, supplied_by}
use Rattle.charmlet_replayers.proofs.DispatchLemmas.Parts.{taken-append}

-- ---- more tasks

module _ {C : Type 0} {G : Ghosts C} (kinds : Kinds) where
  pub none_more : (replayer : Replayer C G) → HasMore kinds [] replayer replayer
  none_more replayer = record {
    tasks = sym (append-nil replayer.tasks.items);
    blanks = λ kind. omega arith;
    rest = refl;
    replies = refl;
    held = λ held. held;
  }

  pub then_more : (f g : List Task) (a b c : Replayer C G) → HasMore kinds f a b → HasMore kinds g b c → HasMore kinds (f ++ g) a c
  then_more f g a b c one two = record {
    tasks = two.tasks ∙ ap (λ ts. ts ++ g) one.tasks ∙ append_assoc a.tasks.items f g;
    blanks = λ kind.
        let first = one.blanks kind in
        let second = two.blanks kind in
        let sum = taken-append kinds kind f g in
        omega (arith, first, second, sum);
    rest = two.rest ∙ ap (λ (r : RestoredShard C G). record r { stock = c.restored.stock }) one.rest;
    replies = two.replies ∙ one.replies;
    held = λ held. two.held (one.held held);
  }

-- ---- one of the replayers

-- what stands at a place once one place was set
set_at : {X : Type 0} (xs : List X) (i v : ℕ) (y old new : X) → slice_get xs v ≡ Some old → slice_get (slice_set xs i y) v ≡ Some new → (b : Bool) → (i == v) ≡ b → ((b ≡ true) × (i ≡ v) × (new ≡ y)) ⊎ ((b ≡ false) × (new ≡ old))
set_at xs i v y old new at found true same =
    let is : get_or (slice_set xs i y) v old ≡ new = get_or_from_slice_get (slice_set xs i y) v new old found in
    let eq : i ≡ v = eqb-true i v same in
    let within : i < length xs = subst (λ n. n < length xs) (sym eq) (slice_get_within xs v old at) in
    inl (refl, eq, sym is ∙ ap (λ n. get_or (slice_set xs i y) n old) (sym eq) ∙ get_or-set_same xs i y old within)
set_at xs i v y old new at found false apart =
    let is : get_or (slice_set xs i y) v old ≡ new = get_or_from_slice_get (slice_set xs i y) v new old found in
    inr (refl, sym is ∙ get_or-set_other xs i v y old (λ same. eqb-false i v apart (sym same)) ∙ get_or_from_slice_get xs v old old at)

module _ {C : Type 0} {G : Ghosts C} (kinds : Kinds) (replayers : List (Replayer C G)) (i : ℕ) (within : i < length replayers) (old : Replayer C G) (is : old ≡ get_or replayers i old) (new : Replayer C G) where
  abbrev news : List (Replayer C G)
  news = slice_set replayers i new

  own : (v : ℕ) (x : Replayer C G) → i ≡ v → slice_get replayers v ≡ Some x → old ≡ x
  own v x same at = is ∙ ap (λ n. get_or replayers n old) same ∙ get_or_from_slice_get replayers v x old at

  pub goes_to : (t : Task) → HasMore kinds (t ∷ []) old new → GoesTo kinds i t replayers news
  goes_to t more v x y at found = by (i == v) (set_at replayers i v new x y at found (i == v) refl)
    where
      by : (b : Bool) → ((b ≡ true) × (i ≡ v) × (y ≡ new)) ⊎ ((b ≡ false) × (y ≡ x)) → HasMore kinds (if b then t ∷ [] else []) x y
      by b (inl (yes_b, same, its)) =
          subst (λ b. HasMore kinds (if b then t ∷ [] else []) x y) (sym yes_b)
          (subst (HasMore kinds (t ∷ []) x) (sym its) (subst (λ z. HasMore kinds (t ∷ []) z new) (own v x same at) more))
      by b (inr (no_b, its)) =
          subst (λ b. HasMore kinds (if b then t ∷ [] else []) x y) (sym no_b) (subst (HasMore kinds [] x) (sym its) (none_more kinds x))

  pub same_replayers : new ≡ old → AreSameReplayers replayers news
  same_replayers unchanged v x y at found = by (set_at replayers i v new x y at found (i == v) refl)
    where
      by : (((i == v) ≡ true) × (i ≡ v) × (y ≡ new)) ⊎ (((i == v) ≡ false) × (y ≡ x)) → y ≡ x
      by (inl (_, same, its)) = its ∙ unchanged ∙ own v x same at
      by (inr (_, its)) = its

  pub keeps_one : (a b : Stock C G) → IsHeld new.restored → All IsHeldReplayer replayers → ((kind : Kind) → supplied_to new.restored.stock kind + blanks_in b kind ≡ supplied_to old.restored.stock kind + blanks_in a kind) →
      IsDrawnFrom a b → keeping_of b ≡ keeping_of a → KeepsAll a b replayers news
  keeps_one a b held all total drawn keeping = record {
    count = length-set replayers i new;
    held = All-set IsHeldReplayer replayers i new held all;
    total = λ kind.
        let sums : supplied_by news kind + supplied_to (get_or replayers i old).restored.stock kind ≡ supplied_by replayers kind + supplied_to new.restored.stock kind =
        sum_by-set (λ (replayer : Replayer C G). supplied_to replayer.restored.stock kind) replayers i new old within in
        let its : supplied_to (get_or replayers i old).restored.stock kind ≡ supplied_to old.restored.stock kind = ap (λ (replayer : Replayer C G). supplied_to replayer.restored.stock kind) (sym is) in
        let one = total kind in
        omega (arith, sums, its, one);
    drawn = drawn;
    keeping = keeping;
  }

-- ---- nothing is lost

module _ {C : Type 0} {G : Ghosts C} where
  pub keeps_same : (a : Stock C G) (replayers : List (Replayer C G)) → All IsHeldReplayer replayers → KeepsAll a a replayers replayers
  keeps_same a replayers held = record {
    count = refl;
    held = held;
    total = λ kind. refl;
    drawn = λ kind. refl;
    keeping = refl;
  }

  pub keeps_then : (a b c : Stock C G) (xs ys zs : List (Replayer C G)) → KeepsAll a b xs ys → KeepsAll b c ys zs → KeepsAll a c xs zs
  keeps_then a b c xs ys zs one two = record {
    count = two.count ∙ one.count;
    held = two.held;
    total = λ kind. two.total kind ∙ one.total kind;
    drawn = λ kind. two.drawn kind ∙ ap (λ (t : Tally). record t { in_stock = blanks_in c kind }) (one.drawn kind);
    keeping = two.keeping ∙ one.keeping;
  }

-- the task of a record that is one goes to the replayer of its receiver
pub given_to : {C : Type 0} {G : Ghosts C} (kinds same_kinds : Kinds) (worker : Elem → ℕ) (i : ℕ) (t : Task) (task : Option Task) (olds afters : List (Replayer C G)) → kinds ≡ same_kinds → i ≡ worker t.message.to → task ≡ Some t → GoesTo kinds i t olds afters →
    AreGivenTo same_kinds worker task olds afters
given_to kinds same_kinds worker i t task olds afters same its is goes v old new at found =
    subst (λ o. HasMore same_kinds (tasks_of (is_of_worker worker v) o) old new) (sym is)
    (subst (λ n. HasMore same_kinds (if n == v then t ∷ [] else []) old new) its (subst (λ (ks : Kinds). HasMore ks (if i == v then t ∷ [] else []) old new) same (goes v old new at found)))
