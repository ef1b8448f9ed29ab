-- How many objects are on shelves that were taken, and on those that are left.
use Rattle.std.proofs.Common.{◌≡◌, ℕ, suc, ◌+◌, ◌%◌, ◌<◌, ◌==◌, Bool, true, false, cond, List, [], ◌∷◌, length, get_or, refl, sym, ap, ◌∙◌, arith, if◌then◌else◌}
use Rattle.std.specs.Prelude.{Option, Some, None, sum_by, unwrap_or}
use Rattle.std.specs.BTreeMap.{is_at}
use Rattle.std.specs.Map.{lookup}
use Rattle.std.specs.Ordering.{eq_by_cmp}
use Rattle.std.proofs.lemmas.Bool.{eqb-true}
use Rattle.std.proofs.lemmas.List.Sums.{sum_by-cons}
use Rattle.std.proofs.lemmas.Map.Views.{tells_apart}
use Rattle.charmlet_model.specs.declared.kind.Kind.{Kind}
use Rattle.charmlet_model.specs.declared.names.Elem.{Elem}
use Rattle.charmlet_model.specs.declared.state.Record.{Record}
use Rattle.charmlet_model.specs.Core.{home}
use Rattle.charmlet_model.specs.Names.{elem_cmp}
use Rattle.charmlet_model.specs.Shelves.{if_there, shelf_of, there_in}
use Rattle.charmlet_model.specs.World.{no_record, record_at}
use Rattle.charmlet_model.proofs.Maps.{elem_exact, tied_elem}
use Rattle.charmlet_shelf.specs.Count.{is_newcomer_of, objects_on}
use Rattle.charmlet_shelf.specs.Shelf.{View}
use Rattle.charmlet_shelf.specs.declared.phase.Phase.TheVariants.{Idle}
use Rattle.charmlet_migrate.specs.Moving.{records_on}
use Rattle.charmlet_migrate.proofs.EachShelf.{records_at}
use Rattle.charmlet_log_scan.specs.Partition.Parts.{is_of_worker, part}
use Rattle.charmlet_replay.specs.Home.{AreHome}
use Rattle.charmlet_merge.specs.Combined.{worker_at_home}

-- where each shelf has what two others have, all of them do
pub sum-three : (f : View → ℕ) (xs ys zs : List View) → length xs ≡ length zs → length ys ≡ length zs → ((p : ℕ) (d : View) → p < length zs → f (get_or zs p d) ≡ f (get_or xs p d) + f (get_or ys p d)) →
    sum_by f zs ≡ sum_by f xs + sum_by f ys
sum-three f [] [] [] one two each = refl
sum-three f [] [] (z ∷ zs) one two each = absurd (let never : ⊥ = omega (arith, one) in never)
sum-three f [] (y ∷ ys) [] one two each = absurd (let never : ⊥ = omega (arith, two) in never)
sum-three f [] (y ∷ ys) (z ∷ zs) one two each = absurd (let never : ⊥ = omega (arith, one) in never)
sum-three f (x ∷ xs) ys [] one two each = absurd (let never : ⊥ = omega (arith, one) in never)
sum-three f (x ∷ xs) [] (z ∷ zs) one two each = absurd (let never : ⊥ = omega (arith, two) in never)
sum-three f (x ∷ xs) (y ∷ ys) (z ∷ zs) one two each =
    let here : f z ≡ f x + f y = each 0 z (omega arith) in
    let rest = sum-three f xs ys zs (omega (arith, one)) (omega (arith, two)) (λ p d within. each (suc p) d (omega (arith, within))) in
    let a = sum_by-cons f x xs in
    let b = sum_by-cons f y ys in
    let c = sum_by-cons f z zs in
    omega (arith, here, rest, a, b, c)

-- nothing is on an idle shelf that has no records
pub bare : (v : View) (kind : Kind) → v.records ≡ [] → v.phase ≡ Idle → objects_on v kind ≡ 0
bare v kind records phase = λ i. there_in (records i) kind + cond (is_newcomer_of kind (phase i)) 1 0

-- a list in which nothing is found is empty
nothing : (es : List (Elem × Record)) → ((x : Elem) → lookup (is_at (elem_cmp x)) es ≡ None) → es ≡ []
nothing [] none = refl
nothing (e ∷ es) none =
    absurd (let found : cond (eq_by_cmp elem_cmp e.0 e.0) (Some e.1) (lookup (is_at (elem_cmp e.0)) es) ≡ Some e.1 = ap (λ b. cond b (Some e.1) (lookup (is_at (elem_cmp e.0)) es)) (tied_elem e.0) in
    let contra : Some e.1 ≡ None = sym found ∙ none e.0 in
    let never : ⊥ = cc in never)

other-part : (mine : Elem → Bool) (x : Elem) (es : List (Elem × Record)) → mine x ≡ false → lookup (is_at (elem_cmp x)) (part mine es) ≡ None
other-part mine x [] other = refl
other-part mine x (e ∷ es) other =
    elim (mine e.0) as (λ b. mine e.0 ≡ b → lookup (is_at (elem_cmp x)) (cond b (e ∷ part mine es) (part mine es)) ≡ None) [
      | false ↦ λ _. other-part mine x es other
      | true ↦ λ own.
          elim (eq_by_cmp elem_cmp x e.0) as (λ b. eq_by_cmp elem_cmp x e.0 ≡ b → cond b (Some e.1) (lookup (is_at (elem_cmp x)) (part mine es)) ≡ None) [
            | true ↦ λ tied. absurd (let same = tells_apart elem_exact x e.0 tied in let contra : true ≡ false = sym own ∙ ap mine (sym same) ∙ other in let never : ⊥ = cc in never)
            | false ↦ λ _. other-part mine x es other
          ] refl
    ] refl

-- a replayer has nothing on the shelves of others' processors
pub none-there : (n workers v : ℕ) (records : List (Elem × Record)) (shelves : List View) → AreHome n (part (is_of_worker (worker_at_home n workers) v) records) shelves →
    (p : ℕ) (d : View) → p < length shelves → (p % workers == v) ≡ false → (get_or shelves p d).records ≡ []
none-there n workers v records shelves are p d within apart =
    let mine = is_of_worker (worker_at_home n workers) v in
    let rows : shelf_of (records_on shelves) p ≡ (get_or shelves p d).records = records_at shelves p d within in
    nothing (get_or shelves p d).records (λ x.
    ap (lookup (is_at (elem_cmp x))) (sym rows) ∙ are.shown p x
    ∙ (elim (home x n == p) as (λ b. (home x n == p) ≡ b → (if b then if_there (record_at (part mine records) x) else None) ≡ None) [
      | false ↦ λ _. refl
      | true ↦ λ is.
          let here : home x n ≡ p = eqb-true (home x n) p is in
          let other : mine x ≡ false = ap (λ q. q % workers == v) here ∙ apart in
          ap (λ (o : Option Record). if_there (unwrap_or o no_record)) (other-part mine x records other)
    ] refl))
