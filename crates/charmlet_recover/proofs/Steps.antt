-- One step of a loop over a list.
use Rattle.std.proofs.Common.{◌≡◌, ℕ, suc, ◌+◌, ◌<◌, List, [], ◌∷◌, ◌++◌, length, get_or, take, drop, drop-cons, add-one, sym, ap, ◌∙◌}
use Rattle.std.proofs.lemmas.List.{take_more, map-append}
use Rattle.charmlet_record.specs.declared.positioned.Positioned.{Positioned}
use Rattle.charmlet_image.specs.Positioned.{items_of}

pub next_left : {X : Type 0} (xs : List X) (i : ℕ) (x : X) → i < length xs → x ≡ get_or xs i x → drop i xs ≡ x ∷ drop (i + 1) xs
next_left xs i x lt is = drop-cons xs i x lt ∙ ap (λ y. y ∷ drop (suc i) xs) (sym is) ∙ ap (λ (k : ℕ). x ∷ drop k xs) (sym (add-one i))

pub item_left : {X : Type 0} (ps : List (Positioned X)) (i : ℕ) (p : Positioned X) → i < length ps → p ≡ get_or ps i p → items_of (drop i ps) ≡ p.item ∷ items_of (drop (i + 1) ps)
item_left ps i p lt is = ap items_of (next_left ps i p lt is)

pub item_taken : {X : Type 0} (ps : List (Positioned X)) (i : ℕ) (p : Positioned X) → i < length ps → p ≡ get_or ps i p → items_of (take (i + 1) ps) ≡ items_of (take i ps) ++ p.item ∷ []
item_taken {X} ps i p lt is = ap items_of (take_more ps i p lt ∙ ap (λ q. take i ps ++ q ∷ []) (sym is)) ∙ map-append (λ (q : Positioned X). q.item) (take i ps) (p ∷ [])

pub next_at : {X : Type 0} (xs : List X) (i : ℕ) (d : X) → i < length xs → drop i xs ≡ get_or xs i d ∷ drop (i + 1) xs
next_at xs i d lt = drop-cons xs i d lt ∙ ap (λ (k : ℕ). get_or xs i d ∷ drop k xs) (sym (add-one i))
