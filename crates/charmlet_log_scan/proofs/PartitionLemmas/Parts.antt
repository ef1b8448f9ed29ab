-- The part of the records that a replayer has.
use Rattle.std.proofs.Common.{◌≡◌, Bool, true, false, cond, List, [], ◌∷◌, refl, sym, ap, ◌∙◌}
use Rattle.std.specs.Prelude.{Some, unwrap_or}
use Rattle.std.specs.List.{AllByRecursion}
use Rattle.std.specs.List.Sorted.{IsStrictlySortedBy}
use Rattle.std.specs.Ordering.{eq_by_cmp, match_ordering}
use Rattle.std.specs.declared.cmp.Ordering.TheVariants.{Less, Equal, Greater}
use Rattle.std.specs.BTreeMap.{insert_entry, is_at}
use Rattle.std.specs.Map.{lookup, keys_of}
use Rattle.std.proofs.lemmas.Map.Views.{tells_apart}
use Rattle.charmlet_model.specs.declared.names.Elem.{Elem}
use Rattle.charmlet_model.specs.declared.state.Record.{Record}
use Rattle.charmlet_model.specs.Names.{elem_cmp}
use Rattle.charmlet_model.specs.World.{record_at, no_record}
use Rattle.charmlet_model.proofs.Maps.{elem_total, elem_exact}
use Rattle.charmlet_log_scan.specs.Partition.Parts.{part}

module _ (mine : Elem → Bool) where
  -- ---- what is found

  other-key : (x y : Elem) → mine x ≡ true → mine y ≡ false → eq_by_cmp elem_cmp x y ≡ false
  other-key x y its other =
      elim (eq_by_cmp elem_cmp x y) as (λ b. eq_by_cmp elem_cmp x y ≡ b → b ≡ false) [
        | true ↦ λ same.
            let is : mine x ≡ mine y = ap mine (tells_apart elem_exact x y same) in
            let never : true ≡ false = sym its ∙ is ∙ other in never
        | false ↦ λ _. refl
      ] refl

  pub lookup-part : (es : List (Elem × Record)) (x : Elem) → mine x ≡ true →
      lookup (is_at (elem_cmp x)) (part mine es) ≡ lookup (is_at (elem_cmp x)) es
  lookup-part [] x its = refl
  lookup-part (e ∷ es) x its =
      elim (mine e.0) as (λ b. mine e.0 ≡ b → lookup (is_at (elem_cmp x)) (cond b (e ∷ part mine es) (part mine es))
      ≡ cond (eq_by_cmp elem_cmp x e.0) (Some e.1) (lookup (is_at (elem_cmp x)) es)) [
        | true ↦ λ _. ap (cond (eq_by_cmp elem_cmp x e.0) (Some e.1)) (lookup-part es x its)
        | false ↦ λ not. lookup-part es x its ∙ ap (λ b. cond b (Some e.1) (lookup (is_at (elem_cmp x)) es)) (sym (other-key x e.0 its not))
      ] refl

  pub record-part : (es : List (Elem × Record)) (x : Elem) → mine x ≡ true → record_at (part mine es) x ≡ record_at es x
  record-part es x its = ap (λ o. unwrap_or o no_record) (lookup-part es x its)

  -- ---- what is inserted

  pub part-skips : (es : List (Elem × Record)) (k : Elem) (r : Record) → mine k ≡ false → part mine (insert_entry elem_cmp es k r) ≡ part mine es
  part-skips [] k r other = ap (λ b. cond b ((k, r) ∷ []) []) other
  part-skips (e ∷ es) k r other =
      elim (elem_cmp k e.0) as (λ o. elem_cmp k e.0 ≡ o → part mine (match_ordering o ((k, r) ∷ e ∷ es) ((e.0, r) ∷ es) (e ∷ insert_entry elem_cmp es k r)) ≡ part mine (e ∷ es)) [
        | Less ↦ λ _. ap (λ b. cond b ((k, r) ∷ part mine (e ∷ es)) (part mine (e ∷ es))) other
        | Equal ↦ λ tied.
            let not : mine e.0 ≡ false = ap mine (sym (elem_exact k e.0 tied)) ∙ other in
            ap (λ b. cond b ((e.0, r) ∷ part mine es) (part mine es)) not ∙ ap (λ b. cond b (e ∷ part mine es) (part mine es)) (sym not)
        | Greater ↦ λ _. ap (λ fs. cond (mine e.0) (e ∷ fs) fs) (part-skips es k r other)
      ] refl

  -- an entry below all others goes first
  goes-first : (es : List (Elem × Record)) (k : Elem) (r : Record) → AllByRecursion (λ y. elem_cmp k y ≡ Less) (keys_of es) → insert_entry elem_cmp es k r ≡ (k, r) ∷ es
  goes-first [] k r below = refl
  goes-first (e ∷ es) k r below = ap (λ o. match_ordering o ((k, r) ∷ e ∷ es) ((e.0, r) ∷ es) (e ∷ insert_entry elem_cmp es k r)) below.0

  below-rest : (es : List (Elem × Record)) (k x : Elem) → elem_cmp k x ≡ Less → AllByRecursion (λ y. elem_cmp x y ≡ Less) (keys_of es) → AllByRecursion (λ y. elem_cmp k y ≡ Less) (keys_of es)
  below-rest [] k x low below = tt
  below-rest (e ∷ es) k x low below = (elem_total.trans k x e.0 low below.0, below-rest es k x low below.1)

  below-part : (es : List (Elem × Record)) (k : Elem) → AllByRecursion (λ y. elem_cmp k y ≡ Less) (keys_of es) → AllByRecursion (λ y. elem_cmp k y ≡ Less) (keys_of (part mine es))
  below-part [] k below = tt
  below-part (e ∷ es) k below =
      elim (mine e.0) as (λ b. AllByRecursion (λ y. elem_cmp k y ≡ Less) (keys_of (cond b (e ∷ part mine es) (part mine es)))) [
        | true ↦ (below.0, below-part es k below.1)
        | false ↦ below-part es k below.1
      ]

  pub part-takes : (es : List (Elem × Record)) (k : Elem) (r : Record) → IsStrictlySortedBy elem_cmp (keys_of es) → mine k ≡ true →
      part mine (insert_entry elem_cmp es k r) ≡ insert_entry elem_cmp (part mine es) k r
  unfolding IsStrictlySortedBy
  part-takes [] k r rising its = ap (λ b. cond b ((k, r) ∷ []) []) its
  part-takes (e ∷ es) k r rising its =
      elim (elem_cmp k e.0) as (λ o. elem_cmp k e.0 ≡ o → part mine (match_ordering o ((k, r) ∷ e ∷ es) ((e.0, r) ∷ es) (e ∷ insert_entry elem_cmp es k r)) ≡ insert_entry elem_cmp (part mine (e ∷ es)) k r) [
        | Less ↦ λ low.
            ap (λ b. cond b ((k, r) ∷ part mine (e ∷ es)) (part mine (e ∷ es))) its
            ∙ sym (goes-first (part mine (e ∷ es)) k r (below-part (e ∷ es) k (low, below-rest es k e.0 low rising.0)))
        | Equal ↦ λ tied.
            let here : mine e.0 ≡ true = ap mine (sym (elem_exact k e.0 tied)) ∙ its in
            ap (λ b. cond b ((e.0, r) ∷ part mine es) (part mine es)) here
            ∙ sym (ap (λ o. match_ordering o ((k, r) ∷ e ∷ part mine es) ((e.0, r) ∷ part mine es) (e ∷ insert_entry elem_cmp (part mine es) k r)) tied)
            ∙ ap (λ b. insert_entry elem_cmp (cond b (e ∷ part mine es) (part mine es)) k r) (sym here)
        | Greater ↦ λ high.
            elim (mine e.0) as (λ b. cond b (e ∷ part mine (insert_entry elem_cmp es k r)) (part mine (insert_entry elem_cmp es k r)) ≡ insert_entry elem_cmp (cond b (e ∷ part mine es) (part mine es)) k r) [
              | true ↦ ap (λ fs. e ∷ fs) (part-takes es k r rising.1 its)
                  ∙ sym (ap (λ o. match_ordering o ((k, r) ∷ e ∷ part mine es) ((e.0, r) ∷ part mine es) (e ∷ insert_entry elem_cmp (part mine es) k r)) high)
              | false ↦ part-takes es k r rising.1 its
            ]
      ] refl
