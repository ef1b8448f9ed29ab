-- Lists that are turned.
use Rattle.std.proofs.Common.{◌≡◌, ℕ, ◌+◌, ◌-◌, ◌<◌, ◌≤◌, suc, List, [], ◌∷◌, ◌++◌, length, take, drop, refl, sym, ap, subst, ◌∙◌, arith, append_assoc, length-append}
use Rattle.std.specs.List.{remove}
use Rattle.charmlet_ready_queue.specs.SeqNos.SeqNos.{in_order, turned}

pub nil_right : {X : Type 0} (xs : List X) → xs ++ [] ≡ xs
nil_right [] = refl
nil_right (x ∷ xs) = ap (λ ys. x ∷ ys) (nil_right xs)

pub parts : {X : Type 0} (k : ℕ) (ps : List X) → take k ps ++ drop k ps ≡ ps
parts Prim.Native.Nat.zero ps = refl
parts (suc k) [] = refl
parts (suc k) (p ∷ ps) = ap (λ rs. p ∷ rs) (parts k ps)

pub take_front : {X : Type 0} (ps qs : List X) (n : ℕ) → length ps ≡ n → take n (ps ++ qs) ≡ ps
take_front [] qs Prim.Native.Nat.zero h = refl
take_front [] qs (suc n) h = grind arith
take_front (p ∷ ps) qs Prim.Native.Nat.zero h = grind arith
take_front (p ∷ ps) qs (suc n) h = ap (λ rs. p ∷ rs) (take_front ps qs n (omega arith))

pub drop_front : {X : Type 0} (ps qs : List X) (n : ℕ) → length ps ≡ n → drop n (ps ++ qs) ≡ qs
drop_front [] qs Prim.Native.Nat.zero h = refl
drop_front [] qs (suc n) h = grind arith
drop_front (p ∷ ps) qs Prim.Native.Nat.zero h = grind arith
drop_front (p ∷ ps) qs (suc n) h = drop_front ps qs n (omega arith)

pub length_of_drop : {X : Type 0} (k : ℕ) (ps : List X) → k ≤ length ps → length (drop k ps) + k ≡ length ps
length_of_drop Prim.Native.Nat.zero ps h = omega arith
length_of_drop (suc k) [] h = grind arith
length_of_drop (suc k) (p ∷ ps) h = let rest = length_of_drop k ps (omega arith) in omega (arith, rest)

pub length_of_take : {X : Type 0} (k : ℕ) (ps : List X) → k ≤ length ps → length (take k ps) ≡ k
length_of_take Prim.Native.Nat.zero ps h = refl
length_of_take (suc k) [] h = grind arith
length_of_take (suc k) (p ∷ ps) h = let rest = length_of_take k ps (omega arith) in omega (arith, rest)

-- ---- turns

pub turned_parts : {X : Type 0} (ps qs : List X) (n : ℕ) → length ps ≡ n → turned n (ps ++ qs) ≡ qs ++ ps
turned_parts ps qs n h = ap (λ rs. rs ++ take n (ps ++ qs)) (drop_front ps qs n h) ∙ ap (λ rs. qs ++ rs) (take_front ps qs n h)

pub length_turned : {X : Type 0} (k : ℕ) (xs : List X) → k ≤ length xs → length (turned k xs) ≡ length xs
length_turned k xs h = rw length-append (let a = length_of_drop k xs h in let b = length_of_take k xs h in omega (arith, a, b))

-- two turns, of three parts
twice_parts : {X : Type 0} (ps qs rs : List X) (i j n : ℕ) → length ps ≡ j → length qs ≡ i → n ≡ i + j → turned i (turned j (ps ++ (qs ++ rs))) ≡ turned n (ps ++ (qs ++ rs))
twice_parts ps qs rs i j n p q sum =
    let first = turned_parts ps (qs ++ rs) j p in
    let second = turned_parts qs (rs ++ ps) i q in
    let both : length (ps ++ qs) ≡ n = rw length-append (omega (arith, p, q, sum)) in
    ap (turned i) (first ∙ append_assoc qs rs ps)
    ∙ (second
    ∙ (append_assoc rs ps qs
    ∙ (sym (turned_parts (ps ++ qs) rs n both) ∙ ap (turned n) (append_assoc ps qs rs))))

-- two turns are one
pub twice : {X : Type 0} (xs : List X) (i j n : ℕ) → n ≡ i + j → n ≤ length xs → turned i (turned j xs) ≡ turned n xs
twice xs i j n sum fits =
    let ps = take j xs in
    let rest = drop j xs in
    let rest_is : length rest + j ≡ length xs = length_of_drop j xs (omega (arith, sum, fits)) in
    let whole : ps ++ (take i rest ++ drop i rest) ≡ xs = ap (λ rs. ps ++ rs) (parts i rest) ∙ parts j xs in
    subst (λ ys. turned i (turned j ys) ≡ turned n ys) whole
    (twice_parts ps (take i rest) (drop i rest) i j n (length_of_take j xs (omega (arith, sum, fits))) (length_of_take i rest (omega (arith, rest_is, sum, fits))) sum)

-- a whole turn leaves all as it was
pub whole_turn : {X : Type 0} (xs : List X) (n : ℕ) → length xs ≡ n → turned n xs ≡ xs
whole_turn xs n h = ap (turned n) (sym (nil_right xs)) ∙ turned_parts xs [] n h

-- ---- the cursor

-- a turn to the left moves the cursor on
pub turn_on : (ring : List ℕ) (behind place : ℕ) → behind ≤ place → place ≤ length ring → turned (place - behind) ring ≡ turned place (in_order behind ring)
turn_on ring behind place le fits =
    let n = length ring in
    let back = n - behind in
    let same = length_turned back ring (omega arith) in
    let whole : turned behind (turned back ring) ≡ ring = twice ring behind back n (omega (arith, le, fits)) (omega arith) ∙ whole_turn ring n refl in
    ap (turned (place - behind)) (sym whole) ∙ twice (turned back ring) (place - behind) behind place (omega (arith, le)) (omega (arith, same, fits))

-- a turn to the right moves it back
pub turn_back : (ring : List ℕ) (behind place len : ℕ) → len ≡ length ring → place < behind → behind ≤ length ring → turned (len - (behind - place)) ring ≡ turned place (in_order behind ring)
turn_back ring behind place len is lt fits = sym (twice ring place (length ring - behind) (len - (behind - place)) (omega (arith, is, lt, fits)) (omega (arith, is)))

-- where the cursor is already, nothing turns
pub unturned : (ring : List ℕ) (place : ℕ) → place ≤ length ring → ring ≡ turned place (in_order place ring)
unturned ring place fits = sym (twice ring place (length ring - place) (length ring) (omega (arith, fits)) (omega arith) ∙ whole_turn ring (length ring) refl)

drop_one_front : (ps qs : List ℕ) → 0 < length ps → drop 1 (ps ++ qs) ≡ drop 1 ps ++ qs
drop_one_front [] qs h = grind arith
drop_one_front (p ∷ ps) qs h = refl

drop_one_more : (k : ℕ) (xs : List ℕ) → drop 1 (drop k xs) ≡ drop (suc k) xs
drop_one_more Prim.Native.Nat.zero [] = refl
drop_one_more Prim.Native.Nat.zero (x ∷ xs) = refl
drop_one_more (suc k) [] = refl
drop_one_more (suc k) (x ∷ xs) = drop_one_more k xs

-- the first one leaves where the cursor is
pub popped : (xs : List ℕ) (place : ℕ) → place < length xs → in_order place (drop 1 (turned place xs)) ≡ remove xs place
popped xs place within =
    let rest = drop place xs in
    let front = take place xs in
    let rest_is = length_of_drop place xs (omega (arith, within)) in
    let front_is = length_of_take place xs (omega (arith, within)) in
    let left : drop 1 (turned place xs) ≡ drop 1 rest ++ front = drop_one_front rest front (omega (arith, rest_is, within)) in
    let one_less = length_of_drop 1 rest (omega (arith, rest_is, within)) in
    let len : length (drop 1 rest ++ front) - place ≡ length (drop 1 rest) = rw length-append (omega (arith, one_less, front_is)) in
    ap (in_order place) left
    ∙ (turned_parts (drop 1 rest) front (length (drop 1 rest ++ front) - place) (sym len)
    ∙ ap (λ ys. front ++ ys) (drop_one_more place xs))

-- one comes where it is
pub pushed : (xs : List ℕ) (place next n : ℕ) → place ≤ length xs → next ≡ place + 1 → in_order next (turned place xs ++ n ∷ []) ≡ take place xs ++ n ∷ drop place xs
pushed xs place next n within is =
    let rest = drop place xs in
    let front = take place xs in
    let rest_is = length_of_drop place xs within in
    let front_is = length_of_take place xs within in
    let all : turned place xs ++ n ∷ [] ≡ rest ++ (front ++ n ∷ []) = append_assoc rest front (n ∷ []) in
    let len : length (rest ++ (front ++ n ∷ [])) - next ≡ length rest = rw length-append (rw length-append (omega (arith, front_is, is))) in
    ap (in_order next) all
    ∙ (turned_parts rest (front ++ n ∷ []) (length (rest ++ (front ++ n ∷ [])) - next) (sym len)
    ∙ append_assoc front (n ∷ []) rest)

pub length_in_order : (behind : ℕ) (ring : List ℕ) → length (in_order behind ring) ≡ length ring
length_in_order behind ring = length_turned (length ring - behind) ring (omega arith)
