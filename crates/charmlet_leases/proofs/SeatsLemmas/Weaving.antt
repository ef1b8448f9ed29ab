-- Lists that grow, and that are taken out of what they are woven into.
use Rattle.std.proofs.Common.{◌≡◌, ℕ, zero, suc, ◌+◌, List, [], ◌∷◌, ◌++◌, map, length, Option, Some, None, inl, inr, ⊎_elim, refl, ap, arith, subst}
use Rattle.std.specs.Prelude.{slice_get, slice_set}
use Rattle.charmlet_model.specs.declared.names.MsgId.{MsgId}
use Rattle.charmlet_leases.specs.Seats.Seats.{lists_out}
use Rattle.charmlet_leases.specs.Seats.Woven.{IsMerged, IsWoven}

module _ {A : Type 0} where
  -- one more item, of the first list
  pub merged-left : (xs ys zs : List A) (z : A) → IsMerged xs ys zs → IsMerged (xs ++ z ∷ []) ys (zs ++ z ∷ [])
  merged-left xs ys [] z m = inl ([], ap (λ (l : List A). l ++ z ∷ []) m.0, (refl, m.1))
  merged-left xs ys (w ∷ zs) z m =
      ⊎_elim
      (λ (t : (rest : List A) × (xs ≡ w ∷ rest) × IsMerged rest ys zs).
      inl (t.0 ++ z ∷ [], ap (λ (l : List A). l ++ z ∷ []) t.1, merged-left t.0 ys zs z t.2))
      (λ (t : (rest : List A) × (ys ≡ w ∷ rest) × IsMerged xs rest zs).
      inr (t.0, t.1, merged-left xs t.0 zs z t.2))
      m

  -- one more item, of the second list
  pub merged-right : (xs ys zs : List A) (z : A) → IsMerged xs ys zs → IsMerged xs (ys ++ z ∷ []) (zs ++ z ∷ [])
  merged-right xs ys [] z m = inr ([], ap (λ (l : List A). l ++ z ∷ []) m.1, (m.0, refl))
  merged-right xs ys (w ∷ zs) z m =
      ⊎_elim
      (λ (t : (rest : List A) × (xs ≡ w ∷ rest) × IsMerged rest ys zs).
      inl (t.0, t.1, merged-right t.0 ys zs z t.2))
      (λ (t : (rest : List A) × (ys ≡ w ∷ rest) × IsMerged xs rest zs).
      inr (t.0 ++ z ∷ [], ap (λ (l : List A). l ++ z ∷ []) t.1, merged-right xs t.0 zs z t.2))
      m

  -- a list with nothing in it
  pub merged-nothing : (whole : List A) → IsMerged [] whole whole
  merged-nothing [] = (refl, refl)
  merged-nothing (w ∷ whole) = inr (whole, refl, merged-nothing whole)

  -- one list is taken out and then another one, or the other way round
  pub merged-swap : (whole xs rest ys more : List A) → IsMerged xs rest whole → IsMerged ys more rest → (other : List A) × IsMerged ys other whole × IsMerged xs more other
  merged-swap [] xs rest ys more first second =
      let empty : IsMerged ys more [] = subst (IsMerged ys more) first.1 second in
      ([], (empty.0, refl), (first.0, empty.1))
  merged-swap (w ∷ whole) xs rest ys more first second =
      ⊎_elim
      (λ (t : (xs' : List A) × (xs ≡ w ∷ xs') × IsMerged xs' rest whole).
      let s = merged-swap whole t.0 rest ys more t.2 second in
      (w ∷ s.0, inr (s.0, refl, s.1), inl (t.0, t.1, s.2)))
      (λ (t : (rest' : List A) × (rest ≡ w ∷ rest') × IsMerged xs rest' whole).
      ⊎_elim
      (λ (u : (ys' : List A) × (ys ≡ w ∷ ys') × IsMerged ys' more t.0).
      let s = merged-swap whole xs t.0 u.0 more t.2 u.2 in
      (s.0, inl (u.0, u.1, s.1), s.2))
      (λ (u : (more' : List A) × (more ≡ w ∷ more') × IsMerged ys more' t.0).
      let s = merged-swap whole xs t.0 ys u.0 t.2 u.2 in
      (w ∷ s.0, inr (s.0, refl, s.1), inr (u.0, u.1, s.2)))
      (subst (IsMerged ys more) t.1 second))
      first

  -- one more list, behind the others
  pub woven-last : (lists : List (List A)) (xs rest whole : List A) → IsMerged xs rest whole → IsWoven lists rest → IsWoven (lists ++ xs ∷ []) whole
  woven-last [] xs rest whole m w = (rest, m, w)
  woven-last (ys ∷ lists) xs rest whole m w =
      let s = merged-swap whole xs rest ys w.0 m w.1 in
      (s.0, s.1, woven-last lists xs w.0 s.0 s.2 w.2)

-- one more id, of the seat at this place
pub woven-set : (lists : List (Option (List MsgId))) (whole : List MsgId) (place : ℕ) (ids : List MsgId) (id : MsgId) → slice_get lists place ≡ Some (Some ids) → IsWoven (lists_out lists) whole → IsWoven (lists_out (slice_set lists place (Some (ids ++ id ∷ [])))) (whole ++ id ∷ [])
woven-set [] whole place ids id at w = absurd (cc)
woven-set (None ∷ lists) whole zero ids id at w = absurd (cc)
woven-set (Some other ∷ lists) whole zero ids id at w =
    let same : other ≡ ids = cc in
    (w.0, subst (λ (l : List MsgId). IsMerged (l ++ id ∷ []) w.0 (whole ++ id ∷ [])) same (merged-left other w.0 whole id w.1), w.2)
woven-set (None ∷ lists) whole (suc place) ids id at w = woven-set lists whole place ids id at w
woven-set (Some other ∷ lists) whole (suc place) ids id at w =
    (w.0 ++ id ∷ [], merged-right other w.0 whole id w.1, woven-set lists w.0 place ids id at w.2)

-- one more seat, with no ids
pub woven-lent : (lists : List (Option (List MsgId))) (whole : List MsgId) → IsWoven (lists_out lists) whole → IsWoven (lists_out (lists ++ Some [] ∷ [])) whole
woven-lent [] whole w = (whole, merged-nothing whole, w)
woven-lent (None ∷ lists) whole w = woven-lent lists whole w
woven-lent (Some ids ∷ lists) whole w = (w.0, w.1, woven-lent lists w.0 w.2)

-- the seat at this place is taken out
pub woven-without : (lists : List (Option (List MsgId))) (whole : List MsgId) (place : ℕ) (ids : List MsgId) → slice_get lists place ≡ Some (Some ids) → IsWoven (lists_out lists) whole → (rest : List MsgId) × IsMerged ids rest whole × IsWoven (lists_out (slice_set lists place None)) rest
woven-without [] whole place ids at w = absurd (cc)
woven-without (None ∷ lists) whole zero ids at w = absurd (cc)
woven-without (Some other ∷ lists) whole zero ids at w =
    let same : other ≡ ids = cc in
    (w.0, subst (λ (l : List MsgId). IsMerged l w.0 whole) same w.1, w.2)
woven-without (None ∷ lists) whole (suc place) ids at w = woven-without lists whole place ids at w
woven-without (Some other ∷ lists) whole (suc place) ids at w =
    let t = woven-without lists w.0 place ids at w.2 in
    let s = merged-swap whole other w.0 ids t.0 w.1 t.1 in
    (s.0, s.1, (t.0, s.2, t.2))

-- nothing is woven of no lists
pub woven-none : (lists : List (Option (List MsgId))) (whole : List MsgId) → length (lists_out lists) ≡ 0 → IsWoven (lists_out lists) whole → whole ≡ []
woven-none [] whole none w = w
woven-none (None ∷ lists) whole none w = woven-none lists whole none w
woven-none (Some ids ∷ lists) whole none w = absurd (omega arith)

-- how many are out

pub count-without : (lists : List (Option (List MsgId))) (place : ℕ) (ids : List MsgId) → slice_get lists place ≡ Some (Some ids) → length (lists_out (slice_set lists place None)) + 1 ≡ length (lists_out lists)
count-without [] place ids at = absurd (cc)
count-without (None ∷ lists) zero ids at = absurd (cc)
count-without (Some other ∷ lists) zero ids at = omega arith
count-without (None ∷ lists) (suc place) ids at = count-without lists place ids at
count-without (Some other ∷ lists) (suc place) ids at = omega (arith, count-without lists place ids at)

pub count-set : (lists : List (Option (List MsgId))) (place : ℕ) (ids new : List MsgId) → slice_get lists place ≡ Some (Some ids) → length (lists_out (slice_set lists place (Some new))) ≡ length (lists_out lists)
count-set [] place ids new at = absurd (cc)
count-set (None ∷ lists) zero ids new at = absurd (cc)
count-set (Some other ∷ lists) zero ids new at = refl
count-set (None ∷ lists) (suc place) ids new at = count-set lists place ids new at
count-set (Some other ∷ lists) (suc place) ids new at = ap suc (count-set lists place ids new at)

pub count-lent : (lists : List (Option (List MsgId))) (ids : List MsgId) → length (lists_out (lists ++ Some ids ∷ [])) ≡ length (lists_out lists) + 1
count-lent [] ids = omega arith
count-lent (None ∷ lists) ids = count-lent lists ids
count-lent (Some other ∷ lists) ids = omega (arith, count-lent lists ids)

pub length-slice_set : {A : Type 0} (xs : List A) (n : ℕ) (a : A) → length (slice_set xs n a) ≡ length xs
length-slice_set [] n a = refl
length-slice_set (x ∷ xs) zero a = refl
length-slice_set (x ∷ xs) (suc n) a = ap suc (length-slice_set xs n a)

pub length-last : {A : Type 0} (xs : List A) (a : A) → length (xs ++ a ∷ []) ≡ length xs + 1
length-last [] a = omega arith
length-last (x ∷ xs) a = omega (arith, length-last xs a)

pub map-last : {A B : Type 0} (f : A → B) (xs : List A) (x : A) → map f (xs ++ x ∷ []) ≡ map f xs ++ f x ∷ []
map-last f [] x = refl
map-last f (y ∷ xs) x = ap (λ l. f y ∷ l) (map-last f xs x)
