-- Sums over replayers.
use Rattle.std.proofs.Common.{◌≡◌, ℕ, zero, suc, ◌+◌, ◌<◌, ◌≤◌, ◌==◌, true, false, [], ◌∷◌, length, refl, sym, ◌∙◌, arith, if◌then◌else◌}
use Rattle.std.specs.Prelude.{nat_lt}
use Rattle.std.proofs.lemmas.Bool.{eq-eqb, eqb-true, ltb-false, ltb-true}
use Rattle.std.proofs.lemmas.List.Sums.{sum_by-cons}
use Rattle.charmlet_replayers.specs.Shares.Laws.{TogetherIsSum, together}

pub together-same : (n : ℕ) (f g : ℕ → ℕ) → ((v : ℕ) → f v ≡ g v) → together n f ≡ together n g
together-same zero f g same = refl
together-same (suc n) f g same = let rest = together-same n f g same in let last = same n in λ i. rest i + last i

pub together-none : (n : ℕ) → together n (λ v. 0) ≡ 0
together-none zero = refl
together-none (suc n) = let rest = together-none n in omega (arith, rest)

pub together-both : (n : ℕ) (f g : ℕ → ℕ) → together n (λ v. f v + g v) ≡ together n f + together n g
together-both zero f g = refl
together-both (suc n) f g = let rest = together-both n f g in omega (arith, rest)

-- another replayer has nothing of it
none-of : (n w a : ℕ) → n ≤ w → together n (λ v. if w == v then a else 0) ≡ 0
none-of zero w a over = refl
none-of (suc n) w a over =
    let rest = none-of n w a (omega (arith, over)) in
    let last : (if w == n then a else 0) ≡ 0 =
    (elim (w == n) as (λ b. (w == n) ≡ b → (if b then a else 0) ≡ 0) [
      | true ↦ λ is. let same = eqb-true w n is in absurd (let never : ⊥ = omega (arith, same, over) in never)
      | false ↦ λ _. refl
    ] refl) in
    omega (arith, rest, last)

below : (n w : ℕ) → w < suc n → (w == n) ≡ false → w < n
below n w less apart =
    elim (nat_lt w n) as (λ b. nat_lt w n ≡ b → w < n) [
      | true ↦ λ is. ltb-true w n is
      | false ↦ λ over.
          let past = ltb-false w n over in
          let same : w ≡ n = omega (arith, past, less) in
          absurd (let contra : true ≡ false = sym (eq-eqb w n same) ∙ apart in let never : ⊥ = cc in never)
    ] refl

-- one of them has it all
pub one-of : (n w a : ℕ) → w < n → together n (λ v. if w == v then a else 0) ≡ a
one-of zero w a less = absurd (let never : ⊥ = omega (arith, less) in never)
one-of (suc n) w a less =
    elim (w == n) as (λ b. (w == n) ≡ b → together n (λ v. if w == v then a else 0) + (if b then a else 0) ≡ a) [
      | true ↦ λ is.
          let same = eqb-true w n is in
          let rest = none-of n w a (omega (arith, same)) in
          omega (arith, rest)
      | false ↦ λ apart.
          let not_last : w < n = below n w less apart in
          let rest = one-of n w a not_last in
          omega (arith, rest)
    ] refl

-- the first replayer's share, and what the others have
together-first : (n : ℕ) (share : ℕ → ℕ) → together (suc n) share ≡ share 0 + together n (λ v. share (suc v))
together-first zero share = omega arith
together-first (suc n) share = let rest = together-first n share in omega (arith, rest)

pub together-is-sum : TogetherIsSum
together-is-sum [] share each = refl
together-is-sum (n ∷ shares) share each =
    let first : n ≡ share 0 = each 0 n refl in
    let rest = together-is-sum shares (λ v. share (suc v)) (λ v m is. each (suc v) m is) in
    let front = together-first (length shares) share in
    let all = sum_by-cons (λ (k : ℕ). k) n shares in
    omega (arith, first, rest, front, all)
