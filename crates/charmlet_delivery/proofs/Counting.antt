-- How objects are counted that come and go.
use Rattle.std.proofs.Common.{◌≡◌, ℕ, ◌+◌, ◌<◌, ◌≤◌, ◌==◌, ◌&&◌, Bool, false, cond, [], ◌∷◌, sym, ap, subst, ◌∙◌, arith}
use Rattle.std.specs.Prelude.{None, is_none}
use Rattle.std.specs.Cmp.{nat_eq_equiv}
use Rattle.charmlet_model.specs.declared.kind.Kind.{Kind}
use Rattle.charmlet_model.specs.declared.state.State.{State}
use Rattle.charmlet_model.specs.KindVersion.{kind_of_version}
use Rattle.charmlet_model.specs.Kind.{kind_number}
use Rattle.charmlet_model.specs.Reaction.{kind_version_of, kind_of}
use Rattle.charmlet_model.specs.Shelves.{count_of}
use Rattle.charmlet_chare.specs.declared.chare.Chare.{Ghosts}
use Rattle.charmlet_shelf.specs.Count.{comes_as, is_newcomer_of, objects_on}
use Rattle.charmlet_shelf.specs.Due.{Due}
use Rattle.charmlet_shelf.specs.Shelf.{View}
use Rattle.charmlet_shelf.specs.declared.phase.Phase.TheVariants as phases
use Rattle.charmlet_stock.specs.declared.by_kind.ByKind.{ByKind}
use Rattle.charmlet_stock.specs.declared.pile.Tally.{Tally}
use Rattle.charmlet_stock.specs.declared.stock.Stock.{Stock}
use Rattle.charmlet_stock.specs.ByKind.{at, with_at}
use Rattle.charmlet_stock.specs.Pile.{IsOut, with_one_back, with_one_retired, with_out}
use Rattle.charmlet_stock.specs.Stock.{blanks_in, census_of, tally_in, supplied_to}
use Rattle.charmlet_stock.proofs.Room.{by_kind}
use Rattle.charmlet_delivery.specs.Workplace.{IsWithin, held_in}

-- ---- an object in hand

module _ {C : Type 0} (state : C → State) (object : C) where
  abbrev its : Kind
  its = kind_of (state object)

  counts_own : count_of state (object ∷ []) its ≡ 1
  counts_own = ap (λ b. 0 + cond b 1 0) (nat_eq_equiv.refl (kind_number its))

  counts_no_other : (j : Kind) → (kind_number its == kind_number j) ≡ false → count_of state (object ∷ []) j ≡ 0
  counts_no_other j apart = ap (λ b. 0 + cond b 1 0) apart

  module _ {G : Ghosts C} (shelf : View) (stock : Stock C G) where
    -- it is out, where it is one of those that were held, which were supplied
    pub is_out : (before : Kind → ℕ) → ((j : Kind) → before j ≤ supplied_to stock j) → ((j : Kind) → held_in shelf stock j + count_of state (object ∷ []) j ≡ before j) → IsOut (tally_in stock its)
    is_out before within counted =
        let here = counted its in
        let enough = within its in
        let one = counts_own in
        omega arith

  module _ {G : Ghosts C} (shelf : View) (old new : Stock C G) where
    -- a blank that was taken is in hand
    pub taken_held : (wanted : Kind) → its ≡ wanted → census_of new ≡ with_at (census_of old) wanted (with_out (tally_in old wanted) 1) → 0 < blanks_in old wanted →
        (j : Kind) → held_in shelf new j + count_of state (object ∷ []) j ≡ held_in shelf old j
    taken_held wanted is taken some =
        by_kind (census_of old) (census_of new) its (with_out (tally_in old its) 1)
        (subst (λ kind. census_of new ≡ with_at (census_of old) kind (with_out (tally_in old kind) 1)) (sym is) taken)
        (λ j t. objects_on shelf j + t.in_stock + t.retired + count_of state (object ∷ []) j ≡ held_in shelf old j)
        (let some : 0 < blanks_in old its = subst (λ kind. 0 < blanks_in old kind) (sym is) some in let one = counts_own in omega arith)
        (λ j apart. let none = counts_no_other j apart in omega arith)

    -- it goes back to the stock
    pub given_held : census_of new ≡ with_at (census_of old) its (with_one_back (tally_in old its)) → (j : Kind) → held_in shelf new j ≡ held_in shelf old j + count_of state (object ∷ []) j
    given_held given =
        by_kind (census_of old) (census_of new) its (with_one_back (tally_in old its)) given
        (λ j t. objects_on shelf j + t.in_stock + t.retired ≡ held_in shelf old j + count_of state (object ∷ []) j)
        (let one = counts_own in omega arith)
        (λ j apart. let none = counts_no_other j apart in omega arith)

    -- it is retired
    pub retired_held : census_of new ≡ with_at (census_of old) its (with_one_retired (tally_in old its)) → (j : Kind) → held_in shelf new j ≡ held_in shelf old j + count_of state (object ∷ []) j
    retired_held gone =
        by_kind (census_of old) (census_of new) its (with_one_retired (tally_in old its)) gone
        (λ j t. objects_on shelf j + t.in_stock + t.retired ≡ held_in shelf old j + count_of state (object ∷ []) j)
        (let one = counts_own in omega arith)
        (λ j apart. let none = counts_no_other j apart in omega arith)

  -- an object that leaves the shelf is in hand
  module _ {G : Ghosts C} (before middle last : View) (same : (kind : Kind) → objects_on middle kind ≡ objects_on before kind) (leaves : (kind : Kind) → objects_on middle kind ≡ objects_on last kind + count_of state (object ∷ []) kind) where
    pub in_hand : (stock : Stock C G) (kind : Kind) → held_in last stock kind + count_of state (object ∷ []) kind ≡ held_in before stock kind
    in_hand stock kind = let here = same kind in let gone = leaves kind in omega arith

    -- and held as before once it is retired
    pub retired_as_before : (old new : Stock C G) → census_of new ≡ with_at (census_of old) its (with_one_retired (tally_in old its)) → held_in last new ≡ held_in before old
    retired_as_before old new gone = λ i kind. each kind i
      where
        each : (kind : Kind) → held_in last new kind ≡ held_in before old kind
        each kind = retired_held last old new gone kind ∙ in_hand old kind

  -- or once it came onto the shelf
  pub placed_as_before : {G : Ghosts C} (shelf last : View) (old mid : Stock C G) (wanted : Kind) → its ≡ wanted → census_of mid ≡ with_at (census_of old) wanted (with_out (tally_in old wanted) 1) → 0 < blanks_in old wanted →
      ((kind : Kind) → objects_on last kind ≡ objects_on shelf kind + count_of state (object ∷ []) kind) → held_in last mid ≡ held_in shelf old
  placed_as_before shelf last old mid wanted is taken some more = λ i kind. each kind i
    where
      each : (kind : Kind) → held_in last mid kind ≡ held_in shelf old kind
      each kind = let here = more kind in let hand = taken_held shelf old mid wanted is taken some kind in omega arith

-- ---- what is held

module _ {C : Type 0} {G : Ghosts C} where
  -- in a stock with the same census
  pub same_held : (shelf : View) (old new : Stock C G) → census_of new ≡ census_of old → held_in shelf new ≡ held_in shelf old
  same_held shelf old new same = ap (λ (v : ByKind Tally). λ j. objects_on shelf j + (at v j).in_stock + (at v j).retired) same

  -- on a shelf with as many objects
  pub moved_held : (old new : View) (stock : Stock C G) → ((j : Kind) → objects_on new j ≡ objects_on old j) → held_in new stock ≡ held_in old stock
  moved_held old new stock same = λ i j. same j i + blanks_in stock j + (tally_in stock j).retired

  -- what is held as before was supplied, as before
  pub still_within : (old new : View) (first last : Stock C G) → held_in new last ≡ held_in old first → supplied_to last ≡ supplied_to first → IsWithin old first → IsWithin new last
  still_within old new first last held supplied within = λ j.
      let here : held_in new last j ≡ held_in old first j = ap (λ (f : Kind → ℕ). f j) held in
      let all : supplied_to last j ≡ supplied_to first j = ap (λ (f : Kind → ℕ). f j) supplied in
      let before = within j in
      omega arith

-- ---- a newcomer

-- 1 where there is something of the kind
abbrev one_if : Bool → ℕ
one_if b = cond b 1 0

-- an object that a message is to construct is one more on a shelf with no delivery under way
pub one_newcomer : {C : Type 0} (state : C → State) (object : C) (old new : View) (due : Due) → old.phase ≡ phases.Idle → due.receiver.state ≡ None → due.kind_version ≡ kind_version_of (state object) →
    new ≡ record old { phase = phases.Assigned due } → (kind : Kind) → objects_on new kind ≡ objects_on old kind + count_of state (object ∷ []) kind
one_newcomer state object old new due idle absent its is kind =
    let before : one_if (is_newcomer_of kind old.phase) ≡ one_if false = ap (λ p. one_if (is_newcomer_of kind p)) idle in
    let one : one_if (comes_as kind due) ≡ one_if (kind_number (kind_of (state object)) == kind_number kind) =
    λ i. one_if (is_none (absent i) && (kind_number (kind_of_version (its i)) == kind_number kind)) in
    ap (λ (v : View). objects_on v kind) is ∙ omega (arith, before, one)

-- ---- pointwise

pub each_same : (f g : Kind → ℕ) → ((j : Kind) → f j ≡ g j) → f ≡ g
each_same f g same = λ i j. same j i
