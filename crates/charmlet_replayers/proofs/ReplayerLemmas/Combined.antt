-- Shelves that are taken from replayers show all records.
use Rattle.std.proofs.Common.{◌≡◌, ℕ, zero, suc, ◌<◌, ◌≤◌, ◌==◌, true, false, List, [], ◌∷◌, length, get_or, refl, sym, ap, subst, ◌∙◌, arith, if◌then◌else◌}
use Rattle.std.specs.Prelude.{None, nat_lt}
use Rattle.std.specs.BTreeMap.{is_at}
use Rattle.std.specs.List.Sorted.{IsStrictlySortedBy}
use Rattle.std.specs.Map.{keys_of, lookup}
use Rattle.std.proofs.lemmas.Bool.{ltb-true, ltb-false, eq-eqb, eqb-true}
use Rattle.std.proofs.lemmas.List.{length-map}
use Rattle.std.proofs.lemmas.List.Elements.{All-from_get_or, All-from_recursion, All-get_or, recursion_from_All}
use Rattle.charmlet_model.specs.declared.names.Elem.{Elem}
use Rattle.charmlet_model.specs.declared.state.Record.{Record}
use Rattle.charmlet_model.specs.Names.{elem_cmp}
use Rattle.charmlet_model.specs.Core.{home}
use Rattle.charmlet_model.specs.World.{record_at}
use Rattle.charmlet_model.specs.Shelves.{if_there, shelf_of}
use Rattle.charmlet_shelf.specs.Shelf.{View}
use Rattle.charmlet_shelf.specs.declared.phase.Phase.TheVariants.{Idle}
use Rattle.charmlet_shard.specs.Moving.{IsIdle, records_on}
use Rattle.charmlet_shard.proofs.EachShelf.{records_at}
use Rattle.charmlet_log_scan.specs.Partition.Parts.{is_of_worker, part}
use Rattle.charmlet_log_scan.proofs.PartitionLemmas.Parts.{record-part}
use Rattle.charmlet_shard.specs.Home.{AreHome, at_home}

past : {X : Type 0} (xs : List X) (i : ℕ) (d : X) → length xs ≤ i → get_or xs i d ≡ d
past [] i d over = refl
past (x ∷ xs) zero d over = absurd (let no : ⊥ = omega (arith, over) in no)
past (x ∷ xs) (suc i) d over = past xs i d (omega (arith, over))

abbrev nobody : View
nobody = record { number = 0; records = []; phase = Idle }

module _ (n : ℕ) (records : List (Elem × Record)) (worker : Elem → ℕ) (worker_of : ℕ → ℕ) (replayers : ℕ → List View) (joined : List View) (of_home : (x : Elem) → worker x ≡ worker_of (home x n))
    (are : (w : ℕ) → AreHome n (part (is_of_worker worker w) records) (replayers w)) (count : length joined ≡ n) (taken : (p : ℕ) (d : View) → p < n → get_or joined p d ≡ get_or (replayers (worker_of p)) p d) where
  in_replayer : (p : ℕ) → p < n → p < length (replayers (worker_of p))
  in_replayer p less = let many = (are (worker_of p)).count in omega (arith, less, many)

  rows : (p : ℕ) → shelf_of (records_on joined) p ≡ shelf_of (records_on (replayers (worker_of p))) p
  rows p =
      elim (nat_lt p n) as (λ b. nat_lt p n ≡ b → shelf_of (records_on joined) p ≡ shelf_of (records_on (replayers (worker_of p))) p) [
        | true ↦ λ is.
            let less = ltb-true p n is in
            let within : p < length joined = omega (arith, less, count) in
            records_at joined p nobody within ∙ ap (λ (v : View). v.records) (taken p nobody less) ∙ sym (records_at (replayers (worker_of p)) p nobody (in_replayer p less))
        | false ↦ λ is.
            let over = ltb-false p n is in
            let one = length-map joined (λ (v : View). v.records) in
            let two = length-map (replayers (worker_of p)) (λ (v : View). v.records) in
            let many = (are (worker_of p)).count in
            past (records_on joined) p [] (omega (arith, over, one, count)) ∙ sym (past (records_on (replayers (worker_of p))) p [] (omega (arith, over, two, many)))
      ] refl

  at_home_is : (p : ℕ) (x : Elem) → at_home n (part (is_of_worker worker (worker_of p)) records) p x ≡ at_home n records p x
  at_home_is p x =
      elim (home x n == p) as (λ b. (home x n == p) ≡ b → (if b then if_there (record_at (part (is_of_worker worker (worker_of p)) records) x) else None) ≡ (if b then if_there (record_at records x) else None)) [
        | true ↦ λ is.
            let here : home x n ≡ p = eqb-true (home x n) p is in
            let own : is_of_worker worker (worker_of p) x ≡ true = eq-eqb (worker x) (worker_of p) (of_home x ∙ ap worker_of here) in
            ap if_there (record-part (is_of_worker worker (worker_of p)) records x own)
        | false ↦ λ _. refl
      ] refl

  pub joined_are_home : AreHome n records joined
  joined_are_home = record {
    count = count;
    numbers = λ p shelf within.
        let less : p < n = omega (arith, within, count) in
        ap (λ (v : View). v.number) (taken p shelf less) ∙ (are (worker_of p)).numbers p shelf (in_replayer p less);
    idle = λ p shelf within.
        let less : p < n = omega (arith, within, count) in
        subst IsIdle (sym (taken p shelf less)) ((are (worker_of p)).idle p shelf (in_replayer p less));
    rising = recursion_from_All (λ (on : List (Elem × Record)). IsStrictlySortedBy elem_cmp (keys_of on)) (records_on joined)
        (All-from_get_or (λ (on : List (Elem × Record)). IsStrictlySortedBy elem_cmp (keys_of on)) (records_on joined) [] (λ p within.
        let one = length-map joined (λ (v : View). v.records) in
        let two = length-map (replayers (worker_of p)) (λ (v : View). v.records) in
        let many = (are (worker_of p)).count in
        subst (λ (on : List (Elem × Record)). IsStrictlySortedBy elem_cmp (keys_of on)) (sym (rows p))
        (All-get_or (λ (on : List (Elem × Record)). IsStrictlySortedBy elem_cmp (keys_of on)) (records_on (replayers (worker_of p))) p [] (omega (arith, within, one, two, many, count))
        (All-from_recursion (λ (on : List (Elem × Record)). IsStrictlySortedBy elem_cmp (keys_of on)) (records_on (replayers (worker_of p))) (are (worker_of p)).rising))));
    shown = λ p x. ap (lookup (is_at (elem_cmp x))) (rows p) ∙ (are (worker_of p)).shown p x ∙ at_home_is p x;
  }
