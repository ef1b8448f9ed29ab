-- What becomes of two stocks when one object goes over.
use Rattle.std.proofs.Common.{◌≡◌, ◌+◌, ◌<◌, ◌≤◌, ◌==◌, false, refl, sym, ap, subst, ◌∙◌, arith}
use Rattle.charmlet_model.specs.declared.kind.Kind.{Kind}
use Rattle.charmlet_model.specs.declared.kind.Kind.TheVariants as kinds
use Rattle.charmlet_model.specs.Kind.{kind_number}
use Rattle.charmlet_stock.specs.declared.by_kind.ByKind.{ByKind}
use Rattle.charmlet_stock.specs.declared.pile.Tally.{Tally}
use Rattle.charmlet_stock.specs.ByKind.{at, each_of, with_at}
use Rattle.charmlet_stock.specs.Pile.{IsOut, with_one_back, with_one_retired, with_out, with_retired_back}
use Rattle.charmlet_stock.proofs.Room.{at_again, by_kind, others_stay}
use Rattle.charmlet_stock.specs.Absorption.Absorbed.{all_blanks}

-- what is out of a stock can come back
pub can_come : (s t : Tally) → 0 < s.in_stock → s.in_stock + s.retired + t.in_stock + t.retired ≤ t.supplied → IsOut t
can_come s t some room = omega (arith, some, room)

fewer_at : (old : ByKind Tally) (k : Kind) (t : Tally) → t.in_stock < (at old k).in_stock → all_blanks (with_at old k t) < all_blanks old
fewer_at old kinds.Counter t less = omega (arith, less)
fewer_at old kinds.Ring t less = omega (arith, less)
fewer_at old kinds.Account t less = omega (arith, less)
fewer_at old kinds.Sum t less = omega (arith, less)
fewer_at old kinds.Tree t less = omega (arith, less)
fewer_at old kinds.Tape t less = omega (arith, less)

module _ (old new : ByKind Tally) (k : Kind) (out : new ≡ with_at old k (with_out (at old k) 1)) (some : 0 < (at old k).in_stock) where
  -- one blank fewer is there
  pub one_fewer : all_blanks new < all_blanks old
  one_fewer = subst (λ v. all_blanks v < all_blanks old) (sym out) (fewer_at old k (with_out (at old k) 1) (omega (arith, some)))

  pub same_retired : (j : Kind) → (at new j).retired ≡ (at old j).retired
  same_retired = by_kind old new k (with_out (at old k) 1) out (λ j t. t.retired ≡ (at old j).retired) refl (λ j apart. refl)

  module _ (before after : ByKind Tally) where
    at_other : (t : Tally) → after ≡ with_at before k t → (j : Kind) → (kind_number k == kind_number j) ≡ false → at after j ≡ at before j
    at_other t is j apart = ap (λ (v : ByKind Tally). at v j) is ∙ others_stay before k t j apart

    at_here : (t : Tally) → after ≡ with_at before k t → at after k ≡ t
    at_here t is = ap (λ (v : ByKind Tally). at v k) is ∙ at_again before k t

    -- it is a blank of the other stock
    pub blanks_over : after ≡ with_at before k (with_one_back (at before k)) → (j : Kind) → (at new j).in_stock + (at after j).in_stock ≡ (at old j).in_stock + (at before j).in_stock
    blanks_over is =
        by_kind old new k (with_out (at old k) 1) out (λ j t. t.in_stock + (at after j).in_stock ≡ (at old j).in_stock + (at before j).in_stock)
        (let here = ap (λ (t : Tally). t.in_stock) (at_here (with_one_back (at before k)) is) in omega (arith, here, some))
        (λ j apart. ap (λ (t : Tally). (at old j).in_stock + t.in_stock) (at_other (with_one_back (at before k)) is j apart))

    pub back_retired : after ≡ with_at before k (with_one_back (at before k)) → (j : Kind) → (at after j).retired ≡ (at before j).retired
    back_retired is = by_kind before after k (with_one_back (at before k)) is (λ j t. t.retired ≡ (at before j).retired) refl (λ j apart. refl)

    pub back_supplied : after ≡ with_at before k (with_one_back (at before k)) → (j : Kind) → (at after j).supplied ≡ (at before j).supplied
    back_supplied is = by_kind before after k (with_one_back (at before k)) is (λ j t. t.supplied ≡ (at before j).supplied) refl (λ j apart. refl)

    -- or it is retired there
    pub retired_over : after ≡ with_at before k (with_one_retired (at before k)) → (j : Kind) → (at new j).in_stock + (at after j).retired ≡ (at old j).in_stock + (at before j).retired
    retired_over is =
        by_kind old new k (with_out (at old k) 1) out (λ j t. t.in_stock + (at after j).retired ≡ (at old j).in_stock + (at before j).retired)
        (let here = ap (λ (t : Tally). t.retired) (at_here (with_one_retired (at before k)) is) in omega (arith, here, some))
        (λ j apart. ap (λ (t : Tally). (at old j).in_stock + t.retired) (at_other (with_one_retired (at before k)) is j apart))

    pub retired_blanks : after ≡ with_at before k (with_one_retired (at before k)) → (j : Kind) → (at after j).in_stock ≡ (at before j).in_stock
    retired_blanks is = by_kind before after k (with_one_retired (at before k)) is (λ j t. t.in_stock ≡ (at before j).in_stock) refl (λ j apart. refl)

    pub retired_supplied : after ≡ with_at before k (with_one_retired (at before k)) → (j : Kind) → (at after j).supplied ≡ (at before j).supplied
    retired_supplied is = by_kind before after k (with_one_retired (at before k)) is (λ j t. t.supplied ≡ (at before j).supplied) refl (λ j apart. refl)

-- the retired objects are blanks again
pub all_back : (v : ByKind Tally) (j : Kind) → (at (each_of with_retired_back v) j).in_stock ≡ (at v j).in_stock + (at v j).retired
all_back v kinds.Counter = refl
all_back v kinds.Ring = refl
all_back v kinds.Account = refl
all_back v kinds.Sum = refl
all_back v kinds.Tree = refl
all_back v kinds.Tape = refl

pub none_retired : (v : ByKind Tally) (j : Kind) → (at (each_of with_retired_back v) j).retired ≡ 0
none_retired v kinds.Counter = refl
none_retired v kinds.Ring = refl
none_retired v kinds.Account = refl
none_retired v kinds.Sum = refl
none_retired v kinds.Tree = refl
none_retired v kinds.Tape = refl
